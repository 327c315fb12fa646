-- What is open after the marks so far, and which call may be let in beside it (libvirt's
-- THREADS.txt: one normal job, beside it one asynchronous one).
use Rattle.std.specs.Prelude.{◌≡◌, ◌≢◌, ℕ, ◌≤◌, ◌==◌, ◌&&◌, List, [], ◌∷◌, length, Bool, true, false, Option, None, Some}
use Rattle.std.specs.List.{list_any}
use Rattle.domain_spec.specs.Types.{Call, Job, OpKind, RefusalCode, State, Who}
use Rattle.domain_spec.specs.Types.call
use Rattle.domain_spec.specs.Types.code
use Rattle.domain_spec.specs.Types.job
use Rattle.domain_spec.specs.Types.kind
use Rattle.domain_spec.specs.declared.mark.HeldJobs.{HeldJobs}
use Rattle.domain_spec.specs.declared.mark.HeldOperation.{HeldOperation}
use Rattle.domain_spec.specs.declared.open.OpenJob.{OpenJob}
use Rattle.domain_spec.specs.declared.open.OpenOperation.{OpenOperation}
use Rattle.domain_spec.specs.declared.standing.Standing.{Standing}
use Rattle.domain_spec.specs.declared.step.Outcome.{Outcome}
use Rattle.domain_spec.specs.declared.step.Outcome.TheVariants as outcome
use Rattle.domain_spec.specs.Call.{begins, job_of, kind_of_call, takes_up}
use Rattle.domain_spec.specs.JobTable.{May, MayBegin, MayTakeUp}
use Rattle.domain_spec.specs.Reading.{boots_of, live_boot}

-- the normal job that is open, and whose it is
abbrev pub job_held : Option OpenJob → Option (Job × Who)
job_held None = None
job_held (Some j) = Some (j.job, j.who)

-- the kind of the operation that a call began or took up
abbrev pub kind_begun : Option OpKind → OpKind
kind_begun None = kind.Start
kind_begun (Some k) = k

-- the operation rests
abbrev pub is_rest : Outcome → Bool
is_rest (outcome.Rest r) = true
is_rest other = false

-- the operation that is open, whose it is, and whether it rests
abbrev pub operation_held : Option OpenOperation → Option HeldOperation
operation_held None = None
operation_held (Some o) = Some (record { kind = kind_begun (kind_of_call o.call); who = o.who; rests = is_rest o.outcome })

-- an operation begins only where none is open
abbrev pub BeginsAlone : Option OpKind → Option OpenOperation → Type 0
BeginsAlone None o = Unit {0}
BeginsAlone (Some k) o = o ≡ None

-- a phase of the operation is due
abbrev pub OperationGoesOn : Outcome → Type 0
OperationGoesOn (outcome.On p) = Unit {0}
OperationGoesOn other = ⊥

-- an operation is open under its number, but where it rests
abbrev pub IsOtherNumber : Outcome → ℕ → ℕ → Type 0
IsOtherNumber (outcome.Rest r) number open_number = Unit {0}
IsOtherNumber other number open_number = number ≢ open_number

-- a nested job is that of a due phase, with its operation's number and call. Any other is the call's
-- own job, under a number that has no operation open.
abbrev pub IsOwnJob : Option OpenOperation → ℕ → Job → Call → Type 0
IsOwnJob None number job.Nested c = ⊥
IsOwnJob None number wanted c = wanted ≡ job_of c
IsOwnJob (Some o) number job.Nested c = (number ≡ o.number) × (c ≡ o.call) × OperationGoesOn o.outcome
IsOwnJob (Some o) number wanted c = (wanted ≡ job_of c) × IsOtherNumber o.outcome number o.number × BeginsAlone (begins c) (Some o)

-- a boot was numbered, where the cell has had so many
abbrev pub IsKnownBoot : ℕ → Option ℕ → Type 0
IsKnownBoot boots None = Unit {0}
IsKnownBoot boots (Some boot) = (1 ≤ boot) × (boot ≤ boots)

-- a call carries the boot that is live where it is let in, and none exactly where none is live. A
-- Destroy may have waited: of its boot the marks alone say that it was numbered (`Carried` has more).
abbrev pub IsCarried : State → Call → Option ℕ → Type 0
IsCarried s call.Destroy boot = IsKnownBoot (boots_of s) boot
IsCarried s c boot = boot ≡ live_boot s

-- the job of a call may be taken: one that takes an operation up is let in by its own rule
abbrev pub MayAdmit : Option (Job × Who) → Option HeldOperation → Option OpKind → Job → Who → Type 0
MayAdmit active op (Some k) job.MigrationOp who = MayTakeUp active op
MayAdmit active op taking wanted who = May active op wanted who

-- the call is excluded: its job may not be taken, or its operation may not begin
abbrev pub ExcludedAs : Option (Job × Who) → Option HeldOperation → Option OpKind → Call → Who → Type 0
ExcludedAs active op None c who = MayAdmit active op (takes_up c) (job_of c) who → ⊥
ExcludedAs active op (Some k) c who = MayBegin active op → ⊥

-- a call is excluded by what is held
abbrev pub Excludes : Option (Job × Who) → Option HeldOperation → Call → Who → Type 0
Excludes active op c who = ExcludedAs active op (begins c) c who

-- two callers are one
abbrev pub is_same_who : Who → Who → Bool
is_same_who a b = (a.session == b.session) && (a.lane == b.lane) && (a.count == b.count)

-- this caller is one of those
abbrev pub is_among : List Who → Who → Bool
is_among callers who = list_any (is_same_who who) callers

-- no two of these callers are one
abbrev pub AreDistinct : List Who → Type 0
AreDistinct [] = Unit {0}
AreDistinct (w ∷ ws) = (is_among ws w ≡ false) × AreDistinct ws

-- 32 callers wait, and this one is none of them
pub record IsCrowded (waiting : List Who) (who : Who) : Type 0 where
  pub count : length waiting ≡ 32
  pub distinct : AreDistinct waiting
  pub others : is_among waiting who ≡ false

-- a call is refused since it looked often enough, or since 32 others wait
abbrev pub IsRefusedAs : RefusalCode → HeldJobs → Who → Type 0
IsRefusedAs code.OperationTimeout held who = Unit {0}
IsRefusedAs code.TooManyWaiting held who = IsCrowded held.waiting who
IsRefusedAs other held who = ⊥

-- the jobs that a call found held are those of the history
pub record IsRecord (s : Standing) (held : HeldJobs) : Type 0 where
  pub active : held.active ≡ job_held s.job
  pub op : held.op ≡ operation_held s.operation
