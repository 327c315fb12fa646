-- What a call finds that looks.
use Rattle.std.specs.Prelude.{◌≡◌, ◌⊎◌, ℕ, [], ◌∷◌, length, Option}
use Rattle.domain_spec.specs.Types.{Call, Job, Who}
use Rattle.domain_spec.specs.Types.code
use Rattle.domain_spec.specs.declared.core_step.CoreStep.TheVariants as step
use Rattle.domain_spec.specs.declared.core_step.First.{First}
use Rattle.domain_spec.specs.declared.core_step.First.TheVariants as first
use Rattle.domain_spec.specs.declared.mark.HeldJobs.{HeldJobs}
use Rattle.domain_spec.specs.declared.mark.HeldOperation.{HeldOperation}
use Rattle.domain_spec.specs.declared.mark.Mark.TheVariants as mark
use Rattle.domain_spec.specs.Call.{job_of}
use Rattle.domain_spec.specs.Carried.{WasLiveOrBefore}
use Rattle.domain_spec.specs.Cell.{Cell, Queue, share_of, standing_of}
use Rattle.domain_spec.specs.JobTable.{May}
use Rattle.domain_spec.specs.Kept.{joined_queue, left_queue, looks_of}
use Rattle.domain_spec.specs.Lawful.{IsLawfulRefusal}
use Rattle.domain_spec.specs.Open.{Excludes, job_held, operation_held}
use Rattle.domain_spec.specs.Reading.{live_boot}
use Rattle.core_log.specs.Below.core_flight.declared.ledger.Entry.TheVariants as entry
use Rattle.job_rules.specs.QueueWaiting.{callers_in}
use Rattle.core_log.specs.Record.{HasMarked, LetsIn, Recorded, force_of}
use Rattle.core_steps.specs.declared.looking.Looked.{Looked}
use Rattle.core_steps.specs.declared.looking.Looked.TheVariants as looked
use Rattle.core_steps.specs.Refusing.{HasRefused}
use Rattle.core_steps.specs.Turning.{AsksLast, HasDone, Takes, Turning}

-- the boot of a first look was live, or was numbered before this chapter
abbrev pub IsKnownFirst : First → Cell → Type 0
IsKnownFirst first.Now c = Unit {0}
IsKnownFirst (first.Boot boot) c = WasLiveOrBefore c.base c.marks boot

-- the boot that a call carries where this one is live
abbrev pub boot_first : First → Option ℕ → Option ℕ
boot_first first.Now live = live
boot_first (first.Boot boot) live = boot

-- the record, whatever room it has
abbrev pub with_room : Recorded → ℕ → Recorded
with_room r spare = record r { spare = spare }

-- a call was let in, and waits no more
abbrev pub Enters : ℕ → Who → Call → Option ℕ → Recorded → Recorded → Queue → Queue → Looked → Type 0
Enters n who c boot old new q p (looked.Done r) = (spare : ℕ) × LetsIn n who c boot (with_room old spare) new (entry.Done r) × (p ≡ left_queue q n who)
Enters n who c boot old new q p (looked.Away x) = (spare : ℕ) × LetsIn n who c boot (with_room old spare) new (entry.Away x) × (p ≡ left_queue q n who)
Enters n who c boot old new q p looked.NoMemory = (new ≡ with_room old new.spare) × (p ≡ left_queue q n who)
Enters n who c boot old new q p other = ⊥

-- a call was turned away, having found these jobs held
pub record IsTurned (n : ℕ) (who : Who) (c : Call) (jobs : HeldJobs) (old new : Recorded) : Type 0 where
  pub refused : IsLawfulRefusal (force_of old) who c code.TooManyWaiting jobs
  pub marked : HasMarked old new (mark.Refused n who c code.TooManyWaiting jobs ∷ [])
  pub course : new.course ≡ old.course

-- a call that is excluded waits, or is turned away
abbrev pub Waits : ℕ → Who → Call → Recorded → Recorded → Queue → Queue → Looked → Type 0
Waits n who c old new q p (looked.Excluded held boot looks) =
    (new ≡ with_room old new.spare) × (p ≡ joined_queue q n who) × (held.active ≡ job_held (force_of old).job) × (held.op ≡ operation_held (force_of old).operation)
    × (boot ≡ live_boot (force_of old).state) × (looks ≡ looks_of p.callers who)
Waits n who c old new q p (looked.WaitersFull waiting) =
    (jobs : HeldJobs) × (spare : ℕ) × IsTurned n who c jobs (with_room old spare) new × (jobs.waiting ≡ callers_in q) × (p ≡ left_queue q n who) × (waiting ≡ 32)
Waits n who c old new q p looked.NoMemory = (new ≡ with_room old new.spare) × (p ≡ left_queue q n who)
Waits n who c old new q p other = ⊥

-- a look lets its call in where that may be, and else finds it excluded
abbrev pub LooksSo : ℕ → Who → Call → Option ℕ → Recorded → Recorded → Queue → Queue → Looked → Type 0
LooksSo n who c boot old new q p result =
    (May (job_held (force_of old).job) (operation_held (force_of old).operation) (job_of c) who × Enters n who c boot old new q p result)
    ⊎ (Excludes (job_held (force_of old).job) (operation_held (force_of old).operation) c who × Waits n who c old new q p result)

-- what a call found that waits: what is held, the live boot, and how many of its looks found it so; and it is
-- excluded by that
pub record IsFound (old new : Turning) (who : Who) (c : Call) (active : Option (Job × Who)) (op : Option HeldOperation) (boot : Option ℕ) (looks : ℕ) : Type 0 where
  pub active_is : active ≡ job_held (standing_of old.cell).job
  pub op_is : op ≡ operation_held (standing_of old.cell).operation
  pub excluded : Excludes active op c who
  pub boot_is : boot ≡ live_boot (standing_of old.cell).state
  pub looks_are : looks ≡ looks_of new.cell.queue.callers who

-- what a look answers: done at once, away, excluded (the caller waits), turned away, or out of memory
abbrev pub Looks : ℕ → Who → Call → First → Turning → Turning → Looked → Type 0
Looks n who c f old new (looked.Done r) = Takes old new (step.Look n who c f) (HasDone n r)
Looks n who c f old new (looked.Away x) = Takes old new (step.Look n who c f) (λ left. (length left ≡ 1) × AsksLast (share_of new.cell n).call x)
Looks n who c f old new (looked.Excluded held boot looks) = Takes old new (step.Look n who c f) (λ left. (left ≡ []) × IsFound old new who c held.active held.op boot looks)
Looks n who c f old new (looked.WaitersFull waiting) = Takes old new (step.Look n who c f) (λ left. HasRefused n who c code.TooManyWaiting left × (waiting ≡ 32))
Looks n who c f old new looked.NoMemory = Takes old new (step.Look n who c f) (λ left. left ≡ [])
