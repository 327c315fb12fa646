-- Numbers and words by which the wire and files name states, operations, jobs, phases and images. The numbers of states
-- are libvirt's (virDomainState of libvirt-domain.h) and the words virsh's; the others are this project's own.
use Rattle.std.specs.Prelude.{ℕ, List, codes, Option, Some, None}
use Rattle.virt_types.specs.declared.answer.Job.{Job}
use Rattle.virt_types.specs.declared.answer.Job.TheVariants as job
use Rattle.virt_types.specs.declared.ask.ImageKind.{ImageKind}
use Rattle.virt_types.specs.declared.ask.ImageKind.TheVariants as image
use Rattle.virt_types.specs.declared.operation.OpKind.{OpKind}
use Rattle.virt_types.specs.declared.operation.OpKind.TheVariants as op
use Rattle.virt_types.specs.declared.operation.Phase.{Phase}
use Rattle.virt_types.specs.declared.operation.Phase.TheVariants as phase
use Rattle.virt_types.specs.declared.run_state.DomainState.{DomainState}
use Rattle.virt_types.specs.declared.run_state.DomainState.TheVariants as state

-- the number of a domain's state
abbrev pub state_number : DomainState → ℕ
state_number state.Running = 1
state_number state.Paused = 3
state_number state.ShutOff = 5
state_number state.Crashed = 6

-- the word for a domain's state
abbrev pub state_word : DomainState → List ℕ
state_word state.Running = codes "running"
state_word state.Paused = codes "paused"
state_word state.ShutOff = codes "shut off"
state_word state.Crashed = codes "crashed"

-- the number of an operation's kind
abbrev pub op_number : OpKind → ℕ
op_number op.Start = 1
op_number op.Save = 2
op_number op.Dump = 3
op_number op.Snapshot = 4
op_number op.Restore = 5
op_number op.Revert = 6
op_number op.MigrateOut = 7
op_number op.MigrateIn = 8

-- the word for an operation's kind
abbrev pub op_word : OpKind → List ℕ
op_word op.Start = codes "start"
op_word op.Save = codes "save"
op_word op.Dump = codes "dump"
op_word op.Snapshot = codes "snapshot"
op_word op.Restore = codes "restore"
op_word op.Revert = codes "revert"
op_word op.MigrateOut = codes "migrate-out"
op_word op.MigrateIn = codes "migrate-in"

-- the word for a normal job
abbrev pub job_word : Job → List ℕ
job_word job.Query = codes "query"
job_word job.Destroy = codes "destroy"
job_word job.Suspend = codes "suspend"
job_word job.Modify = codes "modify"
job_word job.Abort = codes "abort"
job_word job.MigrationOp = codes "migration"
job_word job.Nested = codes "nested"

-- the number by which an operation that may be absent is named
abbrev pub job_number : Option OpKind → ℕ
job_number None = 0
job_number (Some kind) = op_number kind

-- the numbers of the phases of migrations; 0 is no phase
abbrev migration_number : Phase → ℕ
migration_number phase.MigrateCopy = 9
migration_number phase.MigrateTake = 10
migration_number phase.MigrateCancel = 11
migration_number phase.MigrateLoad = 12
migration_number phase.Resting = 13
migration_number phase.MigrateQuit = 14
migration_number phase.MigrateBack = 15
migration_number phase.MigrateRun = 16
migration_number phase.MigrateDrop = 17
migration_number _ = 0

-- the number of a phase
abbrev pub phase_number : Phase → ℕ
phase_number phase.Make = 1
phase_number phase.Run = 2
phase_number phase.Load = 3
phase_number phase.Copy = 4
phase_number phase.Poll = 5
phase_number phase.Take = 6
phase_number phase.Quit = 7
phase_number phase.Cancel = 8
phase_number other = migration_number other

-- the number of an image's kind
abbrev pub image_number : ImageKind → ℕ
image_number image.Save = 1
image_number image.Dump = 2
