-- What a zone gives for a wall clock, and what a choice takes, is determined.
use Rattle.zoned_time.proofs.Words.{Choice, Err, IsBeforeGap, IsRelocal, IsResolved, IsTaken, IsUnresolved, Law, LocalResult, Meaning, Ok, Reading}
use Rattle.zoned_time.proofs.Words.{ResolveError, Result, ShowsByOffset, Taken, Takes, Zoned, arith, in_seconds, map_of, numbers, one_outcome, out_of_range}
use Rattle.zoned_time.proofs.Words.{refused, sym, ℤ, ◌∙◌, ◌≡◌}
use Rattle.zoned_time.proofs.Instants.{offsets_once, relocal_once}

-- what a choice takes for the local time l
module _ (off : ℤ → ℤ) (l : ℤ) where
  pub one_before_gap : (j k : ℤ) → IsBeforeGap off l j → IsBeforeGap off l k → j ≡ k
  one_before_gap = grind numbers

  pub one_taken : (choice : Choice) (a b : Result (Taken ℤ ℤ) ResolveError) → Takes (ShowsByOffset off l) (IsBeforeGap off l) choice a
      → Takes (ShowsByOffset off l) (IsBeforeGap off l) choice b → a ≡ b
  one_taken = one_outcome (ShowsByOffset off l) (IsBeforeGap off l) (offsets_once off l) (λ k gap. gap.never) one_before_gap

module _ (off : ℤ → ℤ) (l : ℤ) (choice : Choice) where
  pub taken_once : (j k : ℤ) → IsTaken off l choice j → IsTaken off l choice k → j ≡ k
  taken_once j k p q = grind (numbers, one_taken off l choice (Ok p.taken) (Ok q.taken) p.takes q.takes)

  taken_or_refused : (k : ℤ) (e : ResolveError) → IsTaken off l choice k → Takes (ShowsByOffset off l) (IsBeforeGap off l) choice (Err e) → ⊥
  taken_or_refused = grind arith

  pub unresolved_once : (e f : ResolveError) → IsUnresolved off l choice e → IsUnresolved off l choice f → e ≡ f
  unresolved_once e f (refused none) (refused too) = grind numbers
  unresolved_once e f (refused none) (out_of_range k taken _ _) = absurd (taken_or_refused k e taken none)
  unresolved_once e f (out_of_range k taken _ _) (refused none) = absurd (taken_or_refused k f taken none)
  unresolved_once e f (out_of_range _ _ _ is) (out_of_range _ _ _ too) = is ∙ sym too

-- by seconds that agree
map_seconds : {O : Type 0} (m : Meaning O) {seconds : O → ℤ} → ((o : O) → m.seconds o ≡ seconds o)
    → (a : LocalResult (Zoned O)) → map_of (in_seconds m.seconds) a ≡ map_of (in_seconds seconds) a
map_seconds = grind arith

module _ {O : Type 0} {m : Meaning O} {seconds : O → ℤ} (told : (o : O) → m.seconds o ≡ seconds o) (law : Law m) (l : Reading) where
  pub one_relocal : (a b : LocalResult (Zoned O)) → IsRelocal law l a → IsRelocal law l b → map_of (in_seconds seconds) a ≡ map_of (in_seconds seconds) b
  one_relocal a b h k = sym (map_seconds m told a) ∙ relocal_once law l a b h k ∙ map_seconds m told b

  pub resolved_once : (choice : Choice) (d e : Zoned O) → IsResolved law l choice d → IsResolved law l choice e → in_seconds seconds d ≡ in_seconds seconds e
  resolved_once choice d e h k = let same = taken_once law.off l.s choice h.offset k.offset h.taken k.taken in grind numbers

pub not_resolved : {O : Type 0} {m : Meaning O} (law : Law m) (l : Reading) (choice : Choice) (d : Zoned O) (e : ResolveError)
    → IsResolved law l choice d → IsUnresolved law.off l.s choice e → ⊥
not_resolved law l choice d e h (refused none) = taken_or_refused law.off l.s choice h.offset e h.taken none
not_resolved law l choice d e h (out_of_range k taken out _) = grind (numbers, taken_once law.off l.s choice h.offset k h.taken taken)
