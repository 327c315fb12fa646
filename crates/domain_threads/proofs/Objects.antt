-- A pass of a domain may go to another thread, and threads may share the domain, where the links of its guests may go to
-- another thread.
use denote.Builtin.{u64}
use denote.Param.Send.{IsSend, IsSync, recorded_sync, struct_sync, view_sync}
use denote.RattleType.{RattleType}
use denote.Struct.Declared as struct
use Rattle.domain_obj.specs.Below.domain_core.contracts.cell.DomainCell
use Rattle.domain_obj.specs.Below.domain_core.contracts.kept.DomainCellKept.TheImpl.{ghosts, no_dict}
use Rattle.domain_obj.specs.Below.domain_core.contracts.kept.Share
use Rattle.domain_obj.specs.contracts.object.DomainObj
use Rattle.domain_obj.specs.contracts.object.DomainObj.TheInside as object
use Rattle.domain_spec.specs.contracts.mark.Mark
use Rattle.domain_spec.specs.contracts.standing.Base
use Rattle.domain_threads.proofs.Cells.{cell_send}
use Rattle.monitor_link.specs.declared.link.Ears as ears
use Rattle.monitor_link.specs.declared.guests.Guests as guests
use Rattle.monitor_link.specs.declared.link.Killer as killer
use Rattle.monitor_link.specs.declared.link.Monitor as monitor
use Rattle.turn_cell.proofs.cell.TurnCell.TheSendSync as cell
use Rattle.turn_cell.proofs.turn.Pass.TheSendSync as pass
use Rattle.turn_cell.specs.contracts.turn.Pass
use Rattle.turn_cell.specs.declared.kept.Kept as kept

module _ (G M E Z : RattleType) (g : guests.Ghosts G.Denot M.Denot E.Denot Z.Denot) (m : monitor.Ghosts M.Denot) (e : ears.Ghosts E.Denot) (z : killer.Ghosts Z.Denot) (sm : IsSend M) (se : IsSend E) (sz : IsSend Z) where
  abbrev keeps : kept.Ghosts (DomainCell.the_row G M E Z g m e z).Denot Base.the_row.Denot (Mark.the_row u64).Denot Share.the_row.Denot
  keeps = ghosts G M E Z g no_dict m no_dict e no_dict z no_dict no_dict no_dict no_dict

  pub pass_send : IsSend (Pass.the_row (DomainCell.the_row G M E Z g m e z) Base.the_row (Mark.the_row u64) Share.the_row keeps)
  pass_send = pass.the_send (DomainCell.the_row G M E Z g m e z) Base.the_row (Mark.the_row u64) Share.the_row keeps (cell_send G M E Z g m e z sm se sz)

  pub object_sync : IsSync (DomainObj.the_row G M E Z g m e z)
  object_sync = let T = object.the_type G M E Z g m e z in
      view_sync (object.the_row G M E Z g m e z) _ _ _ _ (recorded_sync (object.the_field G M E Z g m e z).row _ _ T.to_one (struct_sync (struct.shape T)
      (cell.the_sync (DomainCell.the_row G M E Z g m e z) Base.the_row (Mark.the_row u64) Share.the_row keeps (cell_send G M E Z g m e z sm se sz), tt)))
