-- The first run of a list of jobs, one after another.
use Rattle.std.proofs.Common.{◌≡◌, ◌<◌, ◌≤◌, ◌+◌, ◌⊎◌, ℕ, ℤ, List, length, arith, Option, Some, None, MatchOption, inl, inr, refl, sym, subst, ap, ◌∙◌}
use Rattle.std.proofs.lemmas.{Bool.{cases_lt}, Int.{ints}, Option.{slice_get_read, slice_get_within}}
use Rattle.std.specs.Prelude.{⊤, ◌≤ℤ◌, ◌<ℤ◌, IfSome, option_map, slice_get, slice_index_or, slice_set}
use Rattle.zoned.specs.DateTime.{zoned}
use Rattle.demo_examples.specs.{Fires.{IsNextRun}, Queues.{IsFirstAt, IsFirstRun, IsNoneDue, IsTaken, NoneRuns, next_second}}
use Rattle.demo_examples.specs.declared.scheduler.{queue.Fire.{Fire}, queued.Queued.{Queued}}

module _ (jobs : List Queued) where
  -- the job at a place before n runs no earlier than that second, or never again
  abbrev pub RunsLater : ℕ → ℤ → Type 0
  RunsLater n second = (k : ℕ) (q : Queued) → k < n → slice_get jobs k ≡ Some q → MatchOption (next_second q) ⊤ (λ s. second ≤ℤ s)

  -- no job before the place n runs again; or one does, and none of them runs earlier
  abbrev pub IsFirstAmong : ℕ → Option (ℕ × ℤ) → Type 0
  IsFirstAmong n None = (k : ℕ) (q : Queued) → k < n → slice_get jobs k ≡ Some q → next_second q ≡ None
  IsFirstAmong n (Some (place, second)) =
      ((its : Queued) × (slice_get jobs place ≡ Some its) × (next_second its ≡ Some second)) × RunsLater n second

  same : (n : ℕ) (q r : Queued) → slice_get jobs n ≡ Some q → slice_get jobs n ≡ Some r → next_second r ≡ next_second q
  same n q r a b = let e : Some q ≡ Some r = sym a ∙ b in grind arith

  at_or_before : (n k : ℕ) → k < n + 1 → (k < n) ⊎ (k ≡ n)
  at_or_before n k less = elim (cases_lt k n) [ inl before ↦ inl before | inr not ↦ inr (omega (arith, less, not)) ]

  later_more : (n : ℕ) (q : Queued) (second : ℤ) → slice_get jobs n ≡ Some q → MatchOption (next_second q) ⊤ (λ s. second ≤ℤ s)
      → RunsLater n second → RunsLater (n + 1) second
  later_more n q second listed this before k r less there = elim (at_or_before n k less) [
    | inl early ↦ before k r early there
    | inr now ↦
        let at : slice_get jobs n ≡ Some r = subst (λ j. slice_get jobs j ≡ Some r) now there in
        subst (λ o. MatchOption o ⊤ (λ s. second ≤ℤ s)) (sym (same n q r listed at)) this
  ]

  -- a job that never runs again
  pub more_none : (n : ℕ) (q : Queued) (first : Option (ℕ × ℤ)) → slice_get jobs n ≡ Some q → next_second q ≡ None → IsFirstAmong n first
      → IsFirstAmong (n + 1) first
  more_none n q None listed none before = λ k r less there. elim (at_or_before n k less) [
    | inl early ↦ before k r early there
    | inr now ↦ same n q r listed (subst (λ j. slice_get jobs j ≡ Some r) now there) ∙ none
  ]
  more_none n q (Some (place, second)) listed none before =
      (before.0, later_more n q second listed (subst (λ o. MatchOption o ⊤ (λ s. second ≤ℤ s)) (sym none) tt) before.1)

  none_later : (n : ℕ) (second : ℤ) → IsFirstAmong n None → RunsLater n second
  none_later n second none k q less there = subst (λ o. MatchOption o ⊤ (λ s. second ≤ℤ s)) (sym (none k q less there)) tt

  weaker_one : (a b : ℤ) (o : Option ℤ) → a ≤ℤ b → MatchOption o ⊤ (λ s. b ≤ℤ s) → MatchOption o ⊤ (λ s. a ≤ℤ s)
  weaker_one a b None le later = tt
  weaker_one a b (Some s) le later = omega (arith, ints, le, later)

  at_itself : (q : Queued) (second : ℤ) → next_second q ≡ Some second → MatchOption (next_second q) ⊤ (λ s. second ≤ℤ s)
  at_itself q second next = subst (λ o. MatchOption o ⊤ (λ s. second ≤ℤ s)) (sym next) (omega (arith, ints))

  weaker : (n : ℕ) (a b : ℤ) → a ≤ℤ b → RunsLater n b → RunsLater n a
  weaker n a b le later k q less there = weaker_one a b (next_second q) le (later k q less there)

  -- a job that runs at that second
  pub more_some : (n : ℕ) (q : Queued) (second : ℤ) (first result : Option (ℕ × ℤ)) → slice_get jobs n ≡ Some q → next_second q ≡ Some second
      → MatchOption first (result ≡ Some (n, second)) (λ f. ((f.1 ≤ℤ second) × (result ≡ first)) ⊎ ((second <ℤ f.1) × (result ≡ Some (n, second))))
      → IsFirstAmong n first → IsFirstAmong (n + 1) result
  more_some n q second None result listed next is before =
      subst (IsFirstAmong (n + 1)) (sym is) ((q, listed, next), later_more n q second listed (at_itself q second next) (none_later n second before))
  more_some n q second (Some (place, other)) result listed next is before = elim is [
    | inl kept ↦
        subst (IsFirstAmong (n + 1)) (sym kept.1)
        (before.0, later_more n q other listed (subst (λ o. MatchOption o ⊤ (λ s. other ≤ℤ s)) (sym next) kept.0) before.1)
    | inr sooner ↦
        subst (IsFirstAmong (n + 1)) (sym sooner.1)
        ((q, listed, next), later_more n q second listed (at_itself q second next) (weaker n second other (omega (arith, ints, sooner)) before.1))
  ]

  within : (n k : ℕ) (q : Queued) → slice_get jobs k ≡ Some q → length jobs ≤ n → k < n
  within n k q there whole = let less = slice_get_within jobs k q there in omega (arith, less, whole)

  -- the first of all jobs
  pub all : (n : ℕ) (first : Option (ℕ × ℤ)) → length jobs ≤ n → IsFirstAmong n first → MatchOption first (NoneRuns jobs) (λ f. IsFirstAt jobs f.0 f.1)
  all n None whole none = λ k q there. none k q (within n k q there whole) there
  all n (Some (place, second)) whole found = record {
    its = found.0.0;
    listed = found.0.1;
    next = found.0.2;
    first = λ k q there. found.1 k q (within n k q there whole) there;
  }

  -- the job at a place within the list
  pub at_place : (n : ℕ) (q : Queued) → n < length jobs → q ≡ slice_index_or jobs n q → slice_get jobs n ≡ Some q
  at_place n q within is = slice_get_read jobs (length jobs) n q refl within is

  strict_one : (a b : ℤ) (o : Option ℤ) → a <ℤ b → MatchOption o ⊤ (λ s. b ≤ℤ s) → MatchOption o ⊤ (λ s. a <ℤ s)
  strict_one a b None less later = tt
  strict_one a b (Some s) less later = omega (arith, ints, less, later)

  -- before the first run no job is due
  pub none_due : (t second : ℤ) (place : ℕ) → IsFirstAt jobs place second → t <ℤ second → IsNoneDue jobs t
  none_due t second place first less = λ k q there. strict_one t second (next_second q) less (first.first k q there)

  -- the job of the first run is the one at its place
  pub its_job : (place : ℕ) (second : ℤ) (first : IsFirstAt jobs place second) (q : Queued) → slice_get jobs place ≡ Some q → q ≡ first.its
  its_job place second first q there = let e : Some q ≡ Some first.its = sym there ∙ first.listed in grind arith

  -- it is the first run, at its own second
  pub first_run : (fire : Fire) (second : ℤ) (q : Queued) → IsFirstAt jobs fire.job second → slice_get jobs fire.job ≡ Some q → q.next ≡ Some fire.at
      → IsFirstRun jobs fire
  first_run fire second q first there next =
      let its_next : first.its.next ≡ Some fire.at = subst (λ (r : Queued). r.next ≡ Some fire.at) (its_job fire.job second first q there) next in
      let own : next_second first.its ≡ Some (zoned fire.at).utc.s = ap (λ o. option_map (λ d. (zoned d).utc.s) o) its_next in
      let both : Some second ≡ Some (zoned fire.at).utc.s = sym first.next ∙ own in
      let at : second ≡ (zoned fire.at).utc.s = grind arith in record {
        first = record {
          its = first.its;
          listed = first.listed;
          next = own;
          first = λ k r listed. subst (λ (t : ℤ). MatchOption (next_second r) ⊤ (λ s. t ≤ℤ s)) at (first.first k r listed);
        };
        next = its_next;
        run = subst (λ o. ∥ IsNextRun first.its.job (zoned first.its.last).utc.s o ∥₁) its_next first.its.is_next;
      }

  -- the job of the first run has run
  pub taken : (t : ℤ) (fire : Fire) (after q : Queued) → IsFirstRun jobs fire → (zoned fire.at).utc.s ≤ℤ t → q ≡ slice_index_or jobs fire.job q
      → after.job ≡ q.job → IfSome q.next (λ at. after.last ≡ at) → IsTaken jobs t fire (slice_set jobs fire.job after)
  taken t fire after q runs due is same last =
      let there = at_place fire.job q (slice_get_within jobs fire.job runs.first.its runs.first.listed) is in
      let its = its_job fire.job (zoned fire.at).utc.s runs.first q there in
      let next : q.next ≡ Some fire.at = subst (λ (r : Queued). r.next ≡ Some fire.at) (sym its) runs.next in record {
        runs = runs;
        due = due;
        after = after;
        same = same ∙ ap (λ (r : Queued). r.job) its;
        ran = subst (λ o. IfSome o (λ at. after.last ≡ at)) next last;
        others = refl;
      }
