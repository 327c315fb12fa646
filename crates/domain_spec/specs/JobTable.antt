-- Jobs (libvirt's src/qemu/THREADS.txt): at most one normal job is held, and beside it at most one
-- operation, which admits only the normal jobs of its line.
use Rattle.std.specs.Prelude.{◌≡◌, Option, None, Some, List, [], ◌∷◌, Contains, true, false}
use Rattle.domain_spec.specs.Types.{Job, OpKind, Who}
use Rattle.domain_spec.specs.declared.mark.HeldOperation.{HeldOperation}
use Rattle.domain_spec.specs.Types.job
use Rattle.domain_spec.specs.Types.kind

-- the normal jobs that an operation of this kind admits, besides its own nested ones
abbrev pub admitted_jobs : OpKind → List Job
admitted_jobs kind.Start = job.Query ∷ job.Destroy ∷ []
admitted_jobs kind.Restore = job.Query ∷ job.Destroy ∷ []
admitted_jobs kind.Revert = job.Query ∷ job.Destroy ∷ []
admitted_jobs kind.Save = job.Query ∷ job.Destroy ∷ job.Abort ∷ []
admitted_jobs kind.Snapshot = job.Query ∷ job.Destroy ∷ job.Abort ∷ []
admitted_jobs kind.Dump = job.Query ∷ job.Destroy ∷ job.Abort ∷ job.Suspend ∷ []
admitted_jobs kind.MigrateOut = job.Query ∷ job.Destroy ∷ job.Abort ∷ job.Suspend ∷ job.MigrationOp ∷ []
admitted_jobs kind.MigrateIn = []

-- a nested job is for the operation's own caller alone, and not while the operation rests
pub record IsOwnPhase (op : HeldOperation) (who : Who) : Type 0 where
  pub caller : who ≡ op.who
  pub awake : op.rests ≡ false

-- a job beside the operation that is held
abbrev pub IsAdmittedBeside : Option HeldOperation → Job → Who → Type 0
IsAdmittedBeside None job.Nested who = ⊥
IsAdmittedBeside None job who = Unit {0}
IsAdmittedBeside (Some op) job.Nested who = IsOwnPhase op who
IsAdmittedBeside (Some op) job who = Contains (admitted_jobs op.kind) job

-- a job may be taken: no normal job is held, and the operation admits it
abbrev pub May : Option (Job × Who) → Option HeldOperation → Job → Who → Type 0
May None op job who = IsAdmittedBeside op job who
May (Some held) op job who = ⊥

-- an operation may begin: neither a normal job nor an operation is held
abbrev pub MayBegin : Option (Job × Who) → Option HeldOperation → Type 0
MayBegin None None = Unit {0}
MayBegin active op = ⊥

-- an operation may be taken up, or its absence be found: no normal job is held, and no operation that
-- does not rest
abbrev pub MayTakeUp : Option (Job × Who) → Option HeldOperation → Type 0
MayTakeUp None None = Unit {0}
MayTakeUp None (Some op) = op.rests ≡ true
MayTakeUp (Some held) op = ⊥
