-- Types of local time, changes of the clocks and spans are equal by `==` if and only if they are equal.
use Rattle.std.proofs.{Common.{arith, rules, int_eq, ◌≡◌, ◌↔◌, IsTrue, Bool, ◌&&◌}, lemmas.Bool.Decides.{Decides-and}}
use Rattle.std.specs.Option.{option_eq}
use Rattle.tz_base.specs.{contracts.local_time_type.LocalTimeTypePartialEq.TheImpl.{eq-value as type_eq}, declared.{span.Span.{Span}, change.Change.{Change}}}

abbrev pub IsExact : {X : Type 0} → (X → X → Bool) → Type 0
IsExact {X} E = (a b : X) → IsTrue (E a b) ↔ (a ≡ b)

pub type_exact : IsExact type_eq.it
type_exact a b = search rules

pub second_exact : IsExact int_eq
second_exact a b = search rules

pub change_exact : (a b : Change) → IsTrue (int_eq a.at b.at && (type_eq.it a.before b.before && type_eq.it a.after b.after)) ↔ (a ≡ b)
change_exact a b = grind (arith, second_exact, type_exact)

end_exact : IsExact (option_eq int_eq)
end_exact u v = search rules

pub span_exact : (a b : Span) → IsTrue (type_eq.it a.local_time_type b.local_time_type && (option_eq int_eq a.from b.from && option_eq int_eq a.until b.until))
    ↔ (a ≡ b)
span_exact a b =
    grind (arith, Decides-and _ _ (type_exact a.local_time_type b.local_time_type) (Decides-and _ _ (end_exact a.from b.from) (end_exact a.until b.until)))
