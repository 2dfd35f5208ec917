-- When an instant lies in a day: from its start on, and before the next one's.
use Rattle.std.proofs.Common.{◌≡◌, true, ℤ, pos, ◌+ℤ◌, refl, subst, is_lt}
use Rattle.std.specs.declared.cmp.Ordering.{Ordering, TheVariants.{Less, Equal, Greater}}
use Rattle.zoned.specs.{Days.{IsFirstInstantFrom, IsInDay, midnight}, Reading.{Reading, IsEarlier}}

abbrev Once : (ℤ → ℤ) → Type 0
Once off = (l a b : Reading) → IsFirstInstantFrom off l a → IsFirstInstantFrom off l b → a ≡ b

pub lies : (off : ℤ → ℤ) (day : ℤ) (r a b : Reading) → IsFirstInstantFrom off (midnight day) a → IsFirstInstantFrom off (midnight (day +ℤ pos 1)) b
    → ¬ (IsEarlier r a) → IsEarlier r b → IsInDay off day r
lies off day r a b h k not_before before = record { start = a; next = b; starts = h; ends = k; not_before = not_before; before = before }

pub not_over : (off : ℤ → ℤ) (day : ℤ) (r b : Reading) → Once off → IsFirstInstantFrom off (midnight (day +ℤ pos 1)) b → IsInDay off day r → IsEarlier r b
not_over off day r b once k i = subst (λ s. IsEarlier r s) (once (midnight (day +ℤ pos 1)) i.next b i.ends k) i.before

pub less_of : (o : Ordering) → is_lt o ≡ true → o ≡ Less
less_of Less h = refl
less_of Equal h = cc
less_of Greater h = cc
