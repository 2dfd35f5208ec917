-- The changes of a stretch: how many there can be, and how they are written into a room.
use Rattle.tz_info.proofs.Words.{Contains-get_or, append-nil, length-map, take-append_seam}
use Rattle.zoned_ffi.proofs.Words.{AreChanges, AreFirstWritten, Change, Fits, Fits64, List, TypeAt, WrittenChange, Zone, arith}
use Rattle.zoned_ffi.proofs.Words.{get_or, ints, length, map, map-append, pos, refl, slice_set, suc, take, take_all, w64}
use Rattle.zoned_ffi.proofs.Words.{written_change, written_into, zero, ℕ, ℤ, [], ◌++◌, ◌+ℤ◌, ◌+◌, ◌<◌, ◌∷◌, ◌≡◌, ◌≤ℤ◌, ◌≤◌, ◌⊎◌}
use Rattle.std.proofs.Math.Seq.{take-nil}

-- one more element is written at the place after the others, if there is room
pub into_more : {A : Type 0} (new : List A) (x : A) (room : List A) → slice_set (written_into new room) (length new) x ≡ written_into (new ++ (x ∷ [])) room
into_more [] x room = grind (arith, take-nil)
into_more (y ∷ new) x [] = refl
into_more (y ∷ new) x (r ∷ room) = grind (arith, into_more new x room)

-- and so is one more change
pub more_written : (found : List Change) (d : Change) (room written : List WrittenChange) (count : ℕ) → count ≡ length found
    → written ≡ written_into (map written_change found) room
    → slice_set written count (written_change d) ≡ written_into (map written_change (found ++ (d ∷ []))) room
more_written found d room written count counted was = grind (arith, length-map, map-append, into_more)

module _ (z : Zone) (from until : ℤ) (changes : List Change) (are : AreChanges (TypeAt z) from until changes) where
  -- the change at the place k has k seconds before it
  risen : (k : ℕ) (d : Change) → k < length changes → (from +ℤ pos k) ≤ℤ (get_or changes k d).at
  risen zero d place = let here = (are.each (get_or changes zero d)).0 (Contains-get_or changes zero d place) in omega (arith, ints)
  risen (suc k) d place = omega (arith, ints, risen k d (omega arith), are.rising k (suc k) d (omega arith) place)

  -- so each place before their end, and the place after it, can be counted
  pub place_fits : (k : ℕ) (d : Change) → k < length changes → Fits64 from → Fits64 until → Fits w64 (k + 1)
  place_fits k d place low high =
      let here = (are.each (get_or changes k d)).0 (Contains-get_or changes k d place) in
      omega (arith, ints, risen k d place)

pub first_written : (z : Zone) (from until : ℤ) (most : ℕ) (found rest : List Change) (room written : List WrittenChange) (count : ℕ)
    → AreChanges (TypeAt z) from until (found ++ rest) → count ≡ length found → count ≤ most → (count ≡ most) ⊎ (rest ≡ [])
    → written ≡ written_into (map written_change found) room
    → AreFirstWritten z from until most room written count
first_written z from until most found rest room written count are counted within end was =
    let same : take most (found ++ rest) ≡ found = grind (arith, take-append_seam found rest, append-nil found, take_all most found) in grind arith
