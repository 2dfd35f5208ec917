-- Which runs of a plan move if a zone's rules change.
use Rattle.std.specs.Prelude.{◌≡◌, ◌⊎◌, ℤ, ◌≤ℤ◌, ◌<ℤ◌, ℕ, ◌-ℤ◌, unsigned_abs, int_lt, if◌then◌else◌, Option, MatchOption}
use Rattle.naive_base.specs.{Reading.{Reading}, Stamp.{of_secs}}
use Rattle.zoned_time.specs.{DateTime.{zoned}, Zone.{Meaning, Law}, Zoned.{Zoned, IsAt}}
use Rattle.zoned_plans.specs.{Fires.{IsFire}, Nearest.{NoneBetween}, declared.moves.Move.{Move}}
use Rattle.zoned_plans.specs.declared.moves.{Move.TheVariants.{Removed, Added}, Moves.{Moves}}

-- the plan fires at the second u in a zone with the first offsets, and not in one with the second offsets
abbrev pub FiresInFirstOnly : (ℤ → ℤ) → (ℤ → ℤ) → (ℤ → Type 0) → ℤ → Type 0
FiresInFirstOnly first second plan u = IsFire first plan u × (IsFire second plan u → ⊥)

-- it fires at u in exactly one of the two zones
abbrev pub IsMove : (ℤ → ℤ) → (ℤ → ℤ) → (ℤ → Type 0) → ℤ → Type 0
IsMove old new plan u = FiresInFirstOnly old new plan u ⊎ FiresInFirstOnly new old plan u

-- it has no such second after t and at or before `until`
abbrev pub NoneMovesBetween : (ℤ → ℤ) → (ℤ → ℤ) → (ℤ → Type 0) → ℤ → ℤ → Type 0
NoneMovesBetween old new plan t until = NoneBetween (IsMove old new plan) t until

-- it has no such second after t and before u
abbrev pub NoneMovesBefore : (ℤ → ℤ) → (ℤ → ℤ) → (ℤ → Type 0) → ℤ → ℤ → Type 0
NoneMovesBefore old new plan t u = (v : ℤ) → IsMove old new plan v → t <ℤ v → u ≤ℤ v

-- what a `Moves` has left: the moved runs of a plan after one second, and at or before another
pub record MovesLeft (A B P : Type 0) : Type 0 where
  pub old : A
  pub new : B
  pub plan : P
  pub after : ℤ
  pub until : ℤ

-- the moved runs after the second t, and at or before `until`
abbrev pub moves_between : {A B P : Type 0} → A → B → P → ℤ → ℤ → MovesLeft A B P
moves_between old new plan t until = record { old = old; new = new; plan = plan; after = t; until = until }

-- what a `Moves` shows
abbrev pub moves_of : {A B P : Type 0} → Moves A B P → MovesLeft A B P
moves_of m = moves_between m.old m.new m.plan (zoned m.after).utc.s (zoned m.until).utc.s

-- how many seconds lie between the two, which are at least as many as the moved runs
abbrev pub seconds_left : {A B P : Type 0} → MovesLeft A B P → ℕ
seconds_left l = if int_lt l.after l.until then unsigned_abs (l.until -ℤ l.after) else 0

-- the UTC date-time of a moved run
abbrev pub utc_of_move : {D E O P : Type 0} → (D → Zoned O) → (E → Zoned P) → Move D E → Reading
utc_of_move in_old in_new (Removed d) = (in_old d).utc
utc_of_move in_old in_new (Added d) = (in_new d).utc

-- a removed run is one of the old zone that the new zone doesn't have, an added one the reverse; each is an instant of its zone
abbrev pub IsMoveAt : {D E O P : Type 0} {m : Meaning O} {n : Meaning P} → Law m → Law n → (ℤ → Type 0) → (D → Zoned O) → (E → Zoned P) → Move D E → Type 0
IsMoveAt old new plan in_old in_new (Removed d) = let u = (in_old d).utc.s in FiresInFirstOnly old.off new.off plan u × IsAt old (of_secs u 0) (in_old d)
IsMoveAt old new plan in_old in_new (Added d) = let u = (in_new d).utc.s in FiresInFirstOnly new.off old.off plan u × IsAt new (of_secs u 0) (in_new d)

-- d is the first moved run after the second t, and it is at or before `until`
pub record IsNextMove {D E O P : Type 0} {m : Meaning O} {n : Meaning P} (old : Law m) (new : Law n) (plan : ℤ → Type 0) (in_old : D → Zoned O) (in_new : E
    → Zoned P)
    (t until : ℤ) (d : Move D E) : Type 0 where
  pub move : IsMoveAt old new plan in_old in_new d
  pub after : t <ℤ (utc_of_move in_old in_new d).s
  pub not_after : (utc_of_move in_old in_new d).s ≤ℤ until
  pub none_skipped : NoneMovesBefore old.off new.off plan t (utc_of_move in_old in_new d).s

-- a step returned the next moved run, or `None` if and only if none is left
abbrev pub GivesMove : {A B Q D E O P : Type 0} {m : Meaning O} {n : Meaning P} → Law m → Law n → (ℤ → Type 0) → (D → Zoned O) → (E → Zoned P)
    → MovesLeft A B Q → Option (Move D E) → MovesLeft A B Q → Type 0
GivesMove old new plan in_old in_new before answer after = MatchOption answer
    (NoneMovesBetween old.off new.off plan before.after before.until × (after ≡ before))
    (λ d. IsNextMove old new plan in_old in_new before.after before.until d × (after ≡ record before { after = (utc_of_move in_old in_new d).s }))
