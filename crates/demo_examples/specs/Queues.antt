-- Queues of jobs: each job with its last run, and with its next one.
use Rattle.std.specs.Prelude.{ℕ, ℤ, ◌≡◌, ◌<◌, ◌≤ℤ◌, ◌<ℤ◌, ⊤, List, [], ◌∷◌, ◌++◌, Option, Some, None, MatchOption, option_map, slice_get, slice_set}
use Rattle.zoned.specs.{DateTime.{zoned}, Zoned.{Zoned}, declared.ZoneOffset.{ZoneOffset}}
use Rattle.demo_examples.specs.{Fires.{IsNextRun}, declared.scheduler.{job.Job.{Job}, queue.{Fire.{Fire}, Queue.{Queue}}, queued.Queued.{Queued}}}

-- the queue's jobs, in the order in which they were added
abbrev pub jobs_of : Queue → List Queued
jobs_of q = q.queued.items

-- the second of its next run
abbrev pub next_second : Queued → Option ℤ
next_second q = option_map (λ d. (zoned d).utc.s) q.next

-- no job runs again
abbrev pub NoneRuns : List Queued → Type 0
NoneRuns jobs = (k : ℕ) (q : Queued) → slice_get jobs k ≡ Some q → next_second q ≡ None

-- no job runs at that second or before
abbrev pub IsNoneDue : List Queued → ℤ → Type 0
IsNoneDue jobs t = (k : ℕ) (q : Queued) → slice_get jobs k ≡ Some q → MatchOption (next_second q) ⊤ (λ s. t <ℤ s)

-- the job at that place runs at that second, and no job runs earlier
pub record IsFirstAt (jobs : List Queued) (place : ℕ) (second : ℤ) : Type 0 where
  pub its : Queued
  pub listed : slice_get jobs place ≡ Some its
  pub next : next_second its ≡ Some second
  pub first : (k : ℕ) (q : Queued) → slice_get jobs k ≡ Some q → MatchOption (next_second q) ⊤ (λ s. second ≤ℤ s)

-- the next run of a job, and no job runs earlier
pub record IsFirstRun (jobs : List Queued) (fire : Fire) : Type 0 where
  pub first : IsFirstAt jobs fire.job (zoned fire.at).utc.s
  pub next : first.its.next ≡ Some fire.at
  pub run : ∥ IsNextRun first.its.job (zoned first.its.last).utc.s (Some fire.at) ∥₁

-- the job was added at the end, to run after that instant
pub record IsAdded (job : Job) (t : Zoned ZoneOffset) (old new : List Queued) : Type 0 where
  pub its : Queued
  pub same : its.job ≡ job
  pub from : zoned its.last ≡ t
  pub last : new ≡ old ++ its ∷ []

-- the first run was taken, which is due at that second: it is its job's last run then, and all other jobs are as they were
pub record IsTaken (old : List Queued) (t : ℤ) (fire : Fire) (new : List Queued) : Type 0 where
  pub runs : IsFirstRun old fire
  pub due : (zoned fire.at).utc.s ≤ℤ t
  pub after : Queued
  pub same : after.job ≡ runs.first.its.job
  pub ran : after.last ≡ fire.at
  pub others : new ≡ slice_set old fire.job after
