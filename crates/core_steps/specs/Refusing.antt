-- What the refusal of a call takes that was excluded.
use Rattle.std.specs.Prelude.{◌≡◌, ◌≤◌, ◌+◌, ℕ, List, [], ◌∷◌, Option, None, Some}
use Rattle.domain_spec.specs.Types.{Call, RefusalCode, Who}
use Rattle.domain_spec.specs.Types.code
use Rattle.domain_spec.specs.declared.mark.HeldJobs.{HeldJobs}
use Rattle.domain_spec.specs.declared.mark.Mark.{Mark}
use Rattle.domain_spec.specs.declared.mark.Mark.TheVariants as mark
use Rattle.domain_spec.specs.Cell.{Queue}
use Rattle.domain_spec.specs.Kept.{left_queue}
use Rattle.domain_spec.specs.Lawful.{IsLawfulRefusal}
use Rattle.domain_spec.specs.Open.{Excludes, job_held, operation_held}
use Rattle.job_rules.specs.QueueWaiting.{callers_in}
use Rattle.core_log.specs.Record.{HasMarked, Recorded, force_of}
use Rattle.core_steps.specs.declared.refusing.Refusable.{Refusable}
use Rattle.core_steps.specs.Rooms.{ends_needed, marks_needed}

-- its call is excluded by what is held here, and those who wait are there
pub record CanRefuse (r : Recorded) (q : Queue) (x : Refusable) : Type 0 where
  pub excluded : Excludes (job_held (force_of r).job) (operation_held (force_of r).operation) x.call x.who
  pub waiting : x.waiting ≡ callers_in q

-- where a refusal is set aside there is room for its mark too
abbrev pub IsSetAside : Recorded → Queue → ℕ → Option Refusable → Type 0
IsSetAside r q rooms None = Unit {0}
IsSetAside r q rooms (Some x) = CanRefuse r q x × (1 + (ends_needed (force_of r).operation + (marks_needed r.course + rooms)) ≤ r.spare)

-- a call was refused that looked often enough, having found these jobs held
pub record IsGivenUp (n : ℕ) (x : Refusable) (jobs : HeldJobs) (old new : Recorded) : Type 0 where
  pub refused : IsLawfulRefusal (force_of old) x.who x.call code.OperationTimeout jobs
  pub marked : HasMarked old new (mark.Refused n x.who x.call code.OperationTimeout jobs ∷ [])
  pub course : new.course ≡ old.course

-- it waits no more
abbrev pub GivesUp : ℕ → Refusable → Recorded → Recorded → Queue → Queue → Type 0
GivesUp n x old new q p = (jobs : HeldJobs) × IsGivenUp n x jobs old new × (jobs.waiting ≡ callers_in q) × (p ≡ left_queue q n x.who)

-- one mark was left: the call was refused so, under this number
abbrev pub HasRefused : ℕ → Who → Call → RefusalCode → List (Mark ℕ) → Type 0
HasRefused n who c why (mark.Refused number w d code held ∷ []) = (number ≡ n) × (w ≡ who) × (d ≡ c) × (code ≡ why)
HasRefused n who c why other = ⊥
