use Rattle.tz_info.proofs.{Fits.fits, Words.{List, Stands, Transition, arith, get_or, get_or-map, linear, ℕ, ◌-◌, ◌<ℤ◌, ◌<◌, ◌↔◌, ◌≡◌}}
use Rattle.tz_info.proofs.zone.lists.valid.stands.Goals as goal

stands_if : (types : ℕ) (ts : List Transition) (place : ℕ) (before here : Transition) → 0 < place
    → ((d : Transition) → get_or ts (place - 1) d ≡ before) → ((d : Transition) → get_or ts place d ≡ here)
    → ((here.type_index < types) × (before.unix_leap_time <ℤ here.unix_leap_time)) ↔ Stands types ts place
stands_if _ ts _ _ here some b h = (
  λ s. record { index = λ d. rw (h d) s.0; later = λ d _. rw (b d, h d) s.1 },
  λ s. let i = s.index here in grind arith,
)

pub returns : goal.returns
returns g c = grind (linear, fits, stands_if, get_or-map)
