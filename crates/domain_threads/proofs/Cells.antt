-- A domain's cell may go to another thread, where the link of its guest may.
use denote.Builtin.{u64}
use denote.Param.Send.{IsSend, plain_send, recorded_send, struct_send, view_send}
use denote.RattleType.{RattleType}
use denote.Struct.Declared as struct
use Rattle.domain_obj.proofs.Below.domain_core.link.Here.TheSendSync as here
use Rattle.domain_obj.specs.Below.domain_core.contracts.cell.DomainCell
use Rattle.domain_obj.specs.Below.domain_core.contracts.cell.DomainCell.TheInside as cell
use Rattle.domain_obj.specs.Below.domain_core.contracts.link.Here
use Rattle.domain_obj.specs.Below.domain_core.contracts.turns.DomainTurns
use Rattle.domain_obj.specs.Below.domain_core.contracts.turns.DomainTurns.TheInside as turns
use Rattle.event_queue.proofs.listeners.Listeners.TheSendSync as listeners
use Rattle.job_rules.proofs.queue.Queue.TheSendSync as queue
use Rattle.monitor_link.specs.declared.link.Ears as ears
use Rattle.monitor_link.specs.declared.guests.Guests as guests
use Rattle.monitor_link.specs.declared.link.Killer as killer
use Rattle.monitor_link.specs.declared.link.Monitor as monitor
use Rattle.domain_obj.specs.Below.core_log.contracts.record.Record
use Rattle.domain_obj.specs.Below.core_log.contracts.record.Record.TheInside as kept
use Rattle.domain_threads.proofs.Ledgers.{ledger_send}
use Rattle.domain_obj.proofs.Below.core_steps.ears.LentEars.TheSendSync as lent
use Rattle.domain_obj.proofs.Below.core_steps.held.HeldEvent.TheSendSync as held
use Rattle.domain_obj.proofs.Below.core_steps.held.OneRoom.TheSendSync as room
use Rattle.domain_obj.proofs.Below.core_steps.refusing.Refusable.TheSendSync as refusable
use Rattle.domain_obj.specs.Below.core_steps.contracts.ears.LentEars
use Rattle.domain_obj.specs.Below.core_steps.contracts.held.HeldEvent
use Rattle.domain_obj.specs.Below.core_steps.contracts.held.OneRoom
use Rattle.domain_obj.specs.Below.core_steps.contracts.refusing.Refusable
use Rattle.std.proofs.Crossing.{Vec-send}
use Rattle.std.proofs.option.Option.TheSendSync as option

record_send : IsSend Record.the_row
record_send = view_send kept.the_row _ _ _ _ (recorded_send (kept.the_field).row _ _ (kept.the_type).to_one (struct_send (struct.shape kept.the_type)
    (ledger_send, (listeners.the_send, tt))))

turns_send : IsSend DomainTurns.the_row
turns_send = view_send turns.the_row _ _ _ _ (recorded_send (turns.the_field).row _ _ (turns.the_type).to_one (struct_send (struct.shape turns.the_type) (
  record_send,
  (
    queue.the_send,
    (
      Vec-send HeldEvent.the_row held.the_send,
      (
        Vec-send OneRoom.the_row room.the_send,
        (option.the_field_send LentEars.the_row lent.the_send, (option.the_field_send Refusable.the_row refusable.the_send, tt)),
      ),
    ),
  ),
)))

module _ (G M E Z : RattleType) (g : guests.Ghosts G.Denot M.Denot E.Denot Z.Denot) (m : monitor.Ghosts M.Denot) (e : ears.Ghosts E.Denot) (z : killer.Ghosts Z.Denot) where
  pub cell_send : IsSend M → IsSend E → IsSend Z → IsSend (DomainCell.the_row G M E Z g m e z)
  cell_send sm se sz = let T = cell.the_type G M E Z g m e z in view_send (cell.the_row G M E Z g m e z) _ _ _ _ (recorded_send (cell.the_field G M E Z g m e z).row _ _ T.to_one (struct_send (struct.shape T)
      (turns_send, (option.the_field_send (Here.the_row G M E Z g m e z) (here.the_send G M E Z g m e z sm se sz), (option.the_field_send u64 (plain_send _ _ _ _ _), tt)))))
