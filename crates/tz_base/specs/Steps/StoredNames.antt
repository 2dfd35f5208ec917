-- How a name is stored: eight bytes, with zeros after the name.
use Rattle.std.specs.Prelude.{ℕ, ◌≡◌, ◌-◌, ◌<◌, ◌≤◌, true, List, length, take, slice_index, ◌++◌}
use Rattle.std.proofs.{Common.{arith, sym, ◌∙◌}, lemmas.Grind.{same_number_lists, common_steps}, Math.ListN.{replicate}}
use Rattle.tz_base.specs.Names.{is_name_byte, zero_ended}

-- eight bytes hold a name of that length, and zeros after it
pub record Holds (bytes : List ℕ) (len : ℕ) : Type 0 where
  pub eight : length bytes ≡ 8
  pub least : 3 ≤ len
  pub most : len ≤ 7
  pub each : (i : ℕ) → i < len → is_name_byte (slice_index bytes i) ≡ true
  pub zeros : (i : ℕ) → len ≤ i → i < 8 → slice_index bytes i ≡ 0

pub length_back : (bytes : List ℕ) (len : ℕ) → Holds bytes len → length (take len bytes) ≡ len
length_back bytes len h = let a = h.eight in let b = h.most in grind (arith, common_steps)

pub padded_back : (bytes : List ℕ) (len : ℕ) → Holds bytes len → zero_ended (take len bytes) ≡ bytes
padded_back bytes len h =
    let a = h.eight in let b = h.most in
    let e : length (take len bytes ++ replicate (8 - len) 0) ≡ 8 = grind (arith, common_steps) in
    rw (length_back bytes len h) (same_number_lists _ _ (e ∙ sym a) (λ k below. let z = h.zeros k in grind (arith, common_steps)))
