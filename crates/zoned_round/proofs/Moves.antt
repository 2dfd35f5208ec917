-- Local date-times moved within their second, and by how much.
use Rattle.zoned_round.proofs.Words.{Reading, moved, neg_ℤ, numbers, pos, ℕ, ℤ, ◌-◌, ◌<◌, ◌≡◌, ◌≤◌}

-- earlier in its second
pub moved-earlier : (r : Reading) (d : ℤ) (behind : ℕ) → r.f < 2_000_000_000 → behind ≤ r.f → d ≡ neg_ℤ (pos behind)
    → moved r d ≡ record { s = r.s; f = r.f - behind }
moved-earlier = grind numbers
