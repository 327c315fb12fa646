-- Who waits after a look, and what that shows of its number.
use Rattle.std.proofs.Common.{◌≡◌, inl, inr, ℕ}
use Rattle.domain_spec.specs.Types.{Call, Who}
use Rattle.domain_spec.specs.Cell.{Queue}
use Rattle.domain_spec.specs.Reading.{live_boot}
use Rattle.core_steps.specs.OfLedger.{Begun}
use Rattle.core_steps.specs.OfRecord.{Begins, TakesUp}
use Rattle.core_steps.specs.OfRecord.{Recorded, force_of}
use Rattle.core_steps.specs.declared.looking.Looked.TheVariants as looked
use Rattle.core_steps.specs.Beginning.{Enters, WaitsSo}
use Rattle.core_steps.specs.declared.beginning.OperationLook.{OperationLook}
use Rattle.core_steps.specs.declared.beginning.OperationLook.TheVariants as look
use Rattle.core_step_laws.specs.Queued.{BeginningsQueue, LooksQueue, OperationQueuesTell, QueuesTell, TakingsUpQueue, queue_by}
use Rattle.core_step_laws.proofs.Waiting.{queue_joined, queue_left}

-- a call that begins no operation

pub looks_queue : LooksQueue
looks_queue old new q p n who d boot (looked.Done r) (inl h) = h.1.2
looks_queue old new q p n who d boot (looked.Done r) (inr h) = absurd h.1
looks_queue old new q p n who d boot (looked.Away x) (inl h) = h.1.2
looks_queue old new q p n who d boot (looked.Away x) (inr h) = absurd h.1
looks_queue old new q p n who d boot (looked.Excluded held live looks) (inl h) = absurd h.1
looks_queue old new q p n who d boot (looked.Excluded held live looks) (inr h) = h.1.1
looks_queue old new q p n who d boot (looked.WaitersFull waiting) (inl h) = absurd h.1
looks_queue old new q p n who d boot (looked.WaitersFull waiting) (inr h) = h.1.4
looks_queue old new q p n who d boot looked.NoMemory (inl h) = h.1.1
looks_queue old new q p n who d boot looked.NoMemory (inr h) = h.1.1

pub queues_tell : QueuesTell
queues_tell c d n who (looked.Done r) e = queue_left d.queue c.queue n who e
queues_tell c d n who (looked.Away x) e = queue_left d.queue c.queue n who e
queues_tell c d n who (looked.Excluded held boot looks) e = queue_joined d.queue c.queue n who e
queues_tell c d n who (looked.WaitersFull waiting) e = queue_left d.queue c.queue n who e
queues_tell c d n who looked.NoMemory e = queue_left d.queue c.queue n who e

-- calls of operations

entered : (Goes : Recorded → Recorded → Begun → Type 0) (n : ℕ) (who : Who) (old new : Recorded) (q p : Queue) (result : OperationLook) → Enters Goes n who old new q p result → p ≡ queue_by result q n who
entered Goes n who old new q p look.Begun h = h.2
entered Goes n who old new q p (look.Done r) h = h.2
entered Goes n who old new q p (look.Excluded held boot looks) h = absurd h
entered Goes n who old new q p (look.WaitersFull waiting) h = absurd h
entered Goes n who old new q p look.NoMemory h = h.1

waited : (n : ℕ) (who : Who) (d : Call) (old new : Recorded) (q p : Queue) (result : OperationLook) → WaitsSo n who d old new q p result → p ≡ queue_by result q n who
waited n who d old new q p look.Begun h = absurd h
waited n who d old new q p (look.Done r) h = absurd h
waited n who d old new q p (look.Excluded held boot looks) h = h.1
waited n who d old new q p (look.WaitersFull waiting) h = h.4
waited n who d old new q p look.NoMemory h = h.1

pub beginnings_queue : BeginningsQueue
beginnings_queue old new q p n who d result (inl h) = entered (Begins n who d (live_boot (force_of old).state)) n who old new q p result h.1
beginnings_queue old new q p n who d result (inr h) = waited n who d old new q p result h.1

pub takings_up_queue : TakingsUpQueue
takings_up_queue old new q p n who d result (inl h) = entered (TakesUp n who d (live_boot (force_of old).state)) n who old new q p result h.1
takings_up_queue old new q p n who d result (inr h) = waited n who d old new q p result h.1

pub operation_queues_tell : OperationQueuesTell
operation_queues_tell c d n who look.Begun e = queue_left d.queue c.queue n who e
operation_queues_tell c d n who (look.Done r) e = queue_left d.queue c.queue n who e
operation_queues_tell c d n who (look.Excluded held boot looks) e = queue_joined d.queue c.queue n who e
operation_queues_tell c d n who (look.WaitersFull waiting) e = queue_left d.queue c.queue n who e
operation_queues_tell c d n who look.NoMemory e = queue_left d.queue c.queue n who e
