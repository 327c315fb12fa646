-- A row of a driver may go to another thread, and threads may share a driver, where the files, the maker of guests and the
-- links of guests may go to another thread.
use denote.Builtin.{u64, unit}
use denote.Param.Send.{IsSend, IsSync, recorded_sync, struct_sync, view_sync}
use denote.RattleType.{RattleType}
use denote.Struct.Declared as struct
use Rattle.book_spec.specs.contracts.list.Entry
use Rattle.book_spec.specs.contracts.list.ListMark
use Rattle.def_keeper.proofs.keeper.Keeper.TheSendSync as keeper
use Rattle.def_keeper.specs.contracts.keeper.Keeper
use Rattle.def_keeper.specs.contracts.kept.KeeperKept.TheImpl as storing
use Rattle.def_keeper.specs.contracts.mark.StoreBase
use Rattle.def_keeper.specs.contracts.mark.StoreMark
use Rattle.def_keeper.specs.declared.opening.Opening as opening
use Rattle.domain_threads.specs.Below.domain_core.contracts.cell.DomainCell
use Rattle.domain_threads.specs.Below.domain_core.contracts.kept.DomainCellKept.TheImpl as domain
use Rattle.domain_threads.specs.Below.domain_core.contracts.kept.Share
use Rattle.domain_threads.specs.Below.domain_obj.contracts.object.DomainObj
use Rattle.domain_spec.specs.contracts.mark.Mark
use Rattle.domain_spec.specs.contracts.standing.Base
use Rattle.domain_threads.proofs.Cells.{cell_send}
use Rattle.domain_threads.proofs.Objects.{object_sync}
use Rattle.driver_service.specs.Below.driver.contracts.the_driver.Driver
use Rattle.driver_service.specs.Below.driver.contracts.the_driver.Driver.TheInside as driver
use Rattle.driver_service.specs.Below.driver_cells.contracts.cells.Cells
use Rattle.driver_crossing.proofs.Shared.{room_sync}
use Rattle.files_disk.specs.declared.files.Files as files
use Rattle.monitor_link.specs.declared.link.Ears as ears
use Rattle.monitor_link.specs.declared.guests.Guests as guests
use Rattle.monitor_link.specs.declared.link.Killer as killer
use Rattle.monitor_link.specs.declared.link.Monitor as monitor
use Rattle.object_list.proofs.list.ObjectList.TheSendSync as object_list
use Rattle.object_list.specs.contracts.kept.ObjectListKept.TheImpl as listing
use Rattle.object_list.specs.contracts.list.ObjectList
use Rattle.pass_rows.proofs.row.RowOf.TheSendSync as row
use Rattle.pass_rows.specs.contracts.row.RowOf
use Rattle.std.proofs.alloc.Global.TheSendSync as global
use Rattle.std.proofs.Crossing.{Vec-sync}
use Rattle.std.proofs.option.Option.TheSendSync as option
use Rattle.std.specs.contracts.alloc.Global
use Rattle.std.specs.contracts.collections.LinkedList
use Rattle.std.specs.contracts.impls.GlobalAllocator.TheImpl as heap
use Rattle.std.specs.contracts.option.Option
use Rattle.turn_cell.proofs.cell.TurnCell.TheSendSync as cell
use Rattle.turn_cell.specs.declared.kept.Kept as kept
use Rattle.virt_types.proofs.Below.types_base.list.ListOf.TheSendSync as list_of
use Rattle.virt_types.proofs.request.Request.TheSendSync as request
use Rattle.virt_types.proofs.status.Status.TheSendSync as status
use Rattle.virt_types.specs.contracts.request.Request
use Rattle.virt_types.specs.contracts.status.Status

module _ (F K G M E Z : RattleType) (f : files.Ghosts F.Denot) (k : opening.Ghosts K.Denot) (g : guests.Ghosts G.Denot M.Denot E.Denot Z.Denot) (m : monitor.Ghosts M.Denot) (e : ears.Ghosts E.Denot) (z : killer.Ghosts Z.Denot)
    (sf : IsSend F) (sg : IsSend G) (sm : IsSend M) (se : IsSend E) (sz : IsSend Z) where
  -- where the definitions are kept, and what keeps a domain
  abbrev Storing : RattleType
  Storing = Keeper.the_row F K f k

  abbrev Celled : RattleType
  Celled = DomainCell.the_row G M E Z g m e z

  -- lists that marks of the list of domains speak of
  abbrev Listed : RattleType → RattleType
  Listed T = LinkedList.the_row T Global.the_row heap.ghosts

  -- what the cell of the store keeps, and that of a domain
  abbrev stores : kept.Ghosts Storing.Denot StoreBase.the_row.Denot StoreMark.the_row.Denot unit.Denot
  stores = storing.ghosts F K f storing.no_dict k storing.no_dict

  abbrev turns : kept.Ghosts Celled.Denot Base.the_row.Denot (Mark.the_row u64).Denot Share.the_row.Denot
  turns = domain.ghosts G M E Z g domain.no_dict m domain.no_dict e domain.no_dict z domain.no_dict domain.no_dict domain.no_dict domain.no_dict

  keeper_send : IsSend Storing
  keeper_send = keeper.the_send F K f k sf

  pub row_send : IsSend (RowOf.the_row ObjectList.the_row Storing Celled G (Listed (Option.the_row Entry.the_row)) ListMark.the_row (Listed u64) StoreBase.the_row StoreMark.the_row unit Base.the_row (Mark.the_row u64) Share.the_row
      listing.ghosts stores turns)
  row_send = row.the_send ObjectList.the_row Storing Celled G (Listed (Option.the_row Entry.the_row)) ListMark.the_row (Listed u64) StoreBase.the_row StoreMark.the_row unit Base.the_row (Mark.the_row u64) Share.the_row
      listing.ghosts stores turns object_list.the_send keeper_send (cell_send G M E Z g m e z sm se sz) sg

  cells_field_sync : IsSync (Cells.the_field F K G M E Z f k g m e z).row
  cells_field_sync = struct_sync (struct.shape (Cells.the_type F K G M E Z f k g m e z)) (
    cell.the_sync ObjectList.the_row (Listed (Option.the_row Entry.the_row)) ListMark.the_row (Listed u64) listing.ghosts object_list.the_send,
    (cell.the_sync Storing StoreBase.the_row StoreMark.the_row unit stores keeper_send, (Vec-sync (DomainObj.the_row G M E Z g m e z) (object_sync G M E Z g m e z sm se sz), tt)),
  )

  pub driver_sync : IsSync (Driver.the_row F K G M E Z f k g m e z)
  driver_sync = let T = driver.the_type F K G M E Z f k g m e z in
      view_sync (driver.the_row F K G M E Z f k g m e z) _ _ _ _ (recorded_sync (driver.the_field F K G M E Z f k g m e z).row _ _ T.to_one (struct_sync (struct.shape T) (
        global.the_field_sync,
        (
          cells_field_sync,
          (
            list_of.the_sync Request.the_row request.the_sync,
            (list_of.the_sync (Option.the_row Status.the_row) (option.the_sync Status.the_row status.the_sync), (room_sync, tt)),
          ),
        ),
      )))
