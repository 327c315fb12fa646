-- Who waits after a look, and what that shows of its number.
use Rattle.std.specs.Prelude.{◌≡◌, ℕ, Option, None, Some}
use Rattle.domain_spec.specs.Types.{Call, Who}
use Rattle.domain_spec.specs.Cell.{Cell, Queue, share_of}
use Rattle.domain_spec.specs.Kept.{joined_queue, left_queue}
use Rattle.core_steps.specs.OfRecord.{Recorded}
use Rattle.core_steps.specs.declared.looking.Looked.{Looked}
use Rattle.core_steps.specs.declared.looking.Looked.TheVariants as looked
use Rattle.core_steps.specs.Looking.{LooksSo}
use Rattle.core_steps.specs.Beginning.{BeginsSo, TakesUpSo}
use Rattle.core_steps.specs.declared.beginning.OperationLook.{OperationLook}
use Rattle.core_steps.specs.declared.beginning.OperationLook.TheVariants as look

-- a caller that was excluded waits by its number, and no other does
abbrev pub queue_of : Looked → Queue → ℕ → Who → Queue
queue_of (looked.Excluded held boot looks) q n who = joined_queue q n who
queue_of other q n who = left_queue q n who

-- who waits by the number then
abbrev pub waiting_of : Looked → Who → Option Who
waiting_of (looked.Excluded held boot looks) who = Some who
waiting_of other who = None

-- so it is with each look
abbrev pub LooksQueue : Type 0
LooksQueue =
    (old new : Recorded) (q p : Queue) (n : ℕ) (who : Who) (d : Call) (boot : Option ℕ) (result : Looked) → LooksSo n who d boot old new q p result
    → p ≡ queue_of result q n who

-- and the share of its number has it
abbrev pub QueuesTell : Type 0
QueuesTell = (c d : Cell) (n : ℕ) (who : Who) (result : Looked) → d.queue ≡ queue_of result c.queue n who → (share_of d n).waits ≡ waiting_of result who

-- the same of a call that looks whether its operation may begin, or be taken up
abbrev pub queue_by : OperationLook → Queue → ℕ → Who → Queue
queue_by (look.Excluded held boot looks) q n who = joined_queue q n who
queue_by other q n who = left_queue q n who

abbrev pub waiting_by : OperationLook → Who → Option Who
waiting_by (look.Excluded held boot looks) who = Some who
waiting_by other who = None

-- so it is with each that begins one
abbrev pub BeginningsQueue : Type 0
BeginningsQueue =
    (old new : Recorded) (q p : Queue) (n : ℕ) (who : Who) (d : Call) (result : OperationLook) → BeginsSo n who d old new q p result
    → p ≡ queue_by result q n who

-- and with each that takes one up
abbrev pub TakingsUpQueue : Type 0
TakingsUpQueue =
    (old new : Recorded) (q p : Queue) (n : ℕ) (who : Who) (d : Call) (result : OperationLook) → TakesUpSo n who d old new q p result
    → p ≡ queue_by result q n who

-- and the share of its number has it
abbrev pub OperationQueuesTell : Type 0
OperationQueuesTell = (c d : Cell) (n : ℕ) (who : Who) (result : OperationLook) → d.queue ≡ queue_by result c.queue n who → (share_of d n).waits ≡ waiting_by result who
