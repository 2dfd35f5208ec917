-- Tests of texts: whether they are UTF-8, and whether they are names.
use Rattle.std.proofs.Common.{ℕ, ◌≡◌, ◌<◌, Bool, true, List, Option, Some, None, length, slice_index, refl}
use Rattle.std.proofs.lemmas.{Bool.Decides.{Decides-by_and, Decides-like}, List.{get_or_default}, Str.{IsUtf8-from_is_utf8, is_utf8-from_IsUtf8}}
use Rattle.std.specs.{Bool.{Decides}, List.{list_all}, Str.{IsUtf8, is_utf8}}
use Rattle.tz_base.specs.{Names.{IsName, IsNameOrNone, is_name_byte}, Steps.Comparisons.{at_most, three}, Tests.{Test}}

abbrev pub utf8_test : (bytes : List ℕ) → Test (IsUtf8 bytes)
utf8_test bytes = record { passes = is_utf8 bytes; decides = (IsUtf8-from_is_utf8 bytes, is_utf8-from_IsUtf8 bytes) }

pub all_decided : (p : ℕ → Bool) (xs : List ℕ) → Decides (list_all p xs) ((i : ℕ) → i < length xs → p (slice_index xs i) ≡ true)
all_decided p xs = Decides-like _ (λ a i l. a i 0 l) (λ f i d l. rw (get_or_default xs i d 0 l) (f i l))
    (Decides-by_and p (λ b. p b ≡ true) (list_all p) (λ b. (λ h. h, λ h. h)) refl (λ _ _. refl) xs)

abbrev pub each_test : (p : ℕ → Bool) (xs : List ℕ) → Test ((i : ℕ) → i < length xs → p (slice_index xs i) ≡ true)
each_test p xs = record { passes = list_all p xs; decides = all_decided p xs }

abbrev pub name_test : (text : List ℕ) → Test (IsName text)
name_test text = three (at_most 3 (length text)) (at_most (length text) 7) (each_test is_name_byte text)

abbrev pub is_name : List ℕ → Bool
is_name text = (name_test text).passes

pub name_from : (text : List ℕ) → is_name text ≡ true → IsName text
name_from text = (name_test text).decides.0

pub name_to : (text : List ℕ) → IsName text → is_name text ≡ true
name_to text = (name_test text).decides.1

-- a name, or none
abbrev pub is_name_or_none : Option (List ℕ) → Bool
is_name_or_none None = true
is_name_or_none (Some text) = is_name text

pub name_or_none_decided : (name : Option (List ℕ)) → Decides (is_name_or_none name) (IsNameOrNone name)
name_or_none_decided None = (λ _. tt, λ _. refl)
name_or_none_decided (Some text) = (name_test text).decides

abbrev pub name_or_none_test : (name : Option (List ℕ)) → Test (IsNameOrNone name)
name_or_none_test name = record { passes = is_name_or_none name; decides = name_or_none_decided name }
