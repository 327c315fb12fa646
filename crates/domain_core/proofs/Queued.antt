-- Who waits after a look.
use Rattle.std.proofs.Common.{◌≡◌, ℕ, inl, inr, List, Option, ap, ◌∙◌}
use Rattle.domain_spec.specs.Types.{Call, Who}
use Rattle.domain_spec.specs.Cell.{HeldEvent, LentEars, Queue}
use Rattle.core_steps.specs.OfRecord.{Recorded}
use Rattle.core_steps.specs.Looking.{LooksSo}
use Rattle.core_steps.specs.declared.looking.Looked.{Looked}
use Rattle.core_steps.specs.declared.refusing.Refusable.{Refusable}
use Rattle.core_steps.specs.Beginning.{BeginsSo, TakesUpSo}
use Rattle.core_steps.specs.declared.beginning.OperationLook.{OperationLook}
use Rattle.core_step_laws.specs.Queued.{queue_by, queue_of}
use Rattle.core_step_laws.proofs.Queueing.{beginnings_queue, looks_queue, takings_up_queue}
use Rattle.domain_core.specs.Core.{Core, core_of}
use Rattle.domain_core.specs.Entering.{EntersSo}

pub look_queued : (v : Core) (old new : Recorded) (q p : Queue) (held : List HeldEvent) (ears : Option LentEars) (x : Option Refusable) (n : ℕ) (who : Who) (d : Call) (boot : Option ℕ) (result : Looked) → core_of old q held ears x ≡ v
    → LooksSo n who d boot old new q p result → p ≡ queue_of result v.turning.cell.queue n who
look_queued v old new q p held ears x n who d boot result is so =
    looks_queue old new q p n who d boot result so ∙ ap (λ (c : Core). queue_of result c.turning.cell.queue n who) is

begin_queued : (v : Core) (old new : Recorded) (q p : Queue) (held : List HeldEvent) (ears : Option LentEars) (x : Option Refusable) (n : ℕ) (who : Who) (d : Call) (result : OperationLook) → core_of old q held ears x ≡ v
    → BeginsSo n who d old new q p result → p ≡ queue_by result v.turning.cell.queue n who
begin_queued v old new q p held ears x n who d result is so =
    beginnings_queue old new q p n who d result so ∙ ap (λ (c : Core). queue_by result c.turning.cell.queue n who) is

take_up_queued : (v : Core) (old new : Recorded) (q p : Queue) (held : List HeldEvent) (ears : Option LentEars) (x : Option Refusable) (n : ℕ) (who : Who) (d : Call) (result : OperationLook) → core_of old q held ears x ≡ v
    → TakesUpSo n who d old new q p result → p ≡ queue_by result v.turning.cell.queue n who
take_up_queued v old new q p held ears x n who d result is so =
    takings_up_queue old new q p n who d result so ∙ ap (λ (c : Core). queue_by result c.turning.cell.queue n who) is

pub enter_queued : (v : Core) (old new : Recorded) (q p : Queue) (held : List HeldEvent) (ears : Option LentEars) (x : Option Refusable) (n : ℕ) (who : Who) (d : Call) (result : OperationLook) → core_of old q held ears x ≡ v
    → EntersSo n who d old new q p result → p ≡ queue_by result v.turning.cell.queue n who
enter_queued v old new q p held ears x n who d result is (inl (begins, so)) = begin_queued v old new q p held ears x n who d result is so
enter_queued v old new q p held ears x n who d result is (inr (takes, so)) = take_up_queued v old new q p held ears x n who d result is so
