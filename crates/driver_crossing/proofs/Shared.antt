-- Threads may share what a chapter of a domain's history holds, with its tree of snapshots: a driver keeps room for histories.
use denote.Builtin.{u64}
use denote.Enum.Declared as enum
use denote.Param.Send.{IsSync, enum_sync, plain_sync, recorded_sync, struct_sync, view_sync}
use denote.Param.SendFields.{as_row_sync}
use denote.RattleType.{RattleType}
use denote.Struct.Declared as struct
use denote.Struct.Tuple as tuple
use mathlib.Core.List.{List, [], ◌∷◌}
use Rattle.domain_threads.proofs.Below.core_chapter.base.KeptRegistration.TheSendSync as registration
use Rattle.domain_threads.proofs.Below.core_chapter.open.Underway.TheSendSync as underway
use Rattle.domain_threads.specs.Below.core_chapter.contracts.base.ChapterBase
use Rattle.domain_threads.specs.Below.core_chapter.contracts.base.ChapterBase.TheInside as base
use Rattle.domain_threads.specs.Below.core_chapter.contracts.base.KeptRegistration
use Rattle.domain_threads.specs.Below.core_chapter.contracts.chronicle.Chronicle
use Rattle.domain_threads.specs.Below.core_chapter.contracts.chronicle.Chronicle.TheInside as chronicle
use Rattle.domain_threads.specs.Below.core_chapter.contracts.open.Underway
use Rattle.domain_spec.proofs.mark.Mark.TheSendSync as mark
use Rattle.domain_spec.specs.contracts.mark.Mark
use Rattle.driver_service.specs.Below.driver_open.contracts.histories.HistoryRoom
use Rattle.driver_service.specs.Below.driver_open.contracts.histories.HistoryRoom.TheInside as room
use Rattle.history_spec.proofs.stamp.Stamp.TheSendSync as stamp
use Rattle.history_spec.specs.contracts.stamp.Stamp
use Rattle.std.proofs.Crossing.{Box-sync, Vec-sync}
use Rattle.std.proofs.option.Option.TheSendSync as option
use Rattle.uuid.proofs.Uuid.TheSendSync as uuid
use Rattle.virt_types.proofs.Below.types_base.boxed.Boxed.TheSendSync as boxed
use Rattle.virt_types.proofs.domain.Live.TheSendSync as live
use Rattle.virt_types.proofs.domain.Snap.TheSendSync as snap
use Rattle.virt_types.proofs.Below.types_base.domain_def.DomainDef.TheSendSync as definition
use Rattle.virt_types.proofs.Below.types_base.list.ListOf.TheSendSync as list_of
use Rattle.virt_types.proofs.Below.types_base.name.Name.TheSendSync as name
use Rattle.virt_types.proofs.operation.Op.TheSendSync as op
use Rattle.virt_types.proofs.run_state.EndReason.TheSendSync as reason
use Rattle.virt_types.proofs.snap_tree.SnapTree.TheLaws.TheKnot as knot
use Rattle.virt_types.specs.Below.types_base.contracts.boxed.Boxed
use Rattle.virt_types.specs.contracts.domain.Domain
use Rattle.virt_types.specs.contracts.domain.Live
use Rattle.virt_types.specs.contracts.domain.Snap
use Rattle.virt_types.specs.contracts.domain.State
use Rattle.virt_types.specs.Below.types_base.contracts.domain_def.DomainDef
use Rattle.virt_types.specs.Below.types_base.contracts.name.Name
use Rattle.virt_types.specs.contracts.operation.Op
use Rattle.virt_types.specs.contracts.run_state.EndReason
use Rattle.virt_types.specs.contracts.snap_list.SnapList
use Rattle.virt_types.specs.contracts.snap_list.SnapList.TheInside as list
use Rattle.virt_types.specs.contracts.snap_tree.SnapTree

snap_sync : IsSync (Boxed.the_row Snap.the_row)
snap_sync = boxed.the_sync Snap.the_row snap.the_sync

tree_sync : IsSync SnapTree.the_row
tree_sync = knot.sync-SnapTree Box-sync (as_row_sync (Boxed.the_field Snap.the_row) snap_sync)

list_sync : IsSync SnapList.the_row
list_sync = view_sync list.the_row _ _ _ _ (recorded_sync (list.the_field).row _ _ (list.the_type).to_one (struct_sync (struct.shape list.the_type)
    (tree_sync, (plain_sync _ _ _ _ _, tt))))

-- the number of a boot, and why it ended
abbrev ended : List RattleType
ended = u64 ∷ EndReason.the_row ∷ []

ended_sync : IsSync (tuple.Tuple ended)
ended_sync = recorded_sync (tuple.tuple_field ended).row _ _ (tuple.tuple_type ended).to_one (struct_sync (struct.shape (tuple.tuple_type ended))
    (plain_sync _ _ _ _ _, (reason.the_sync, tt)))

domain_field_sync : IsSync (Domain.the_field).row
domain_field_sync = struct_sync (struct.shape Domain.the_type) (
  uuid.the_sync,
  (
    name.the_sync,
    (
      option.the_field_sync DomainDef.the_row definition.the_sync,
      (
        option.the_field_sync Live.the_row live.the_sync,
        (
          plain_sync _ _ _ _ _,
          (
            list_sync,
            (
              option.the_field_sync Name.the_row name.the_sync,
              (
                option.the_field_sync Op.the_row op.the_sync,
                (plain_sync _ _ _ _ _, (option.the_field_sync (tuple.Tuple ended) ended_sync, tt)),
              ),
            ),
          ),
        ),
      ),
    ),
  ),
)

state_field_sync : IsSync (State.the_field).row
state_field_sync = enum_sync (enum.shape State.the_type) ((plain_sync _ _ _ _ _, tt), ((domain_field_sync, tt), tt))

base_sync : IsSync ChapterBase.the_row
base_sync = view_sync base.the_row _ _ _ _ (recorded_sync (base.the_field).row _ _ (base.the_type).to_one (struct_sync (struct.shape base.the_type)
    (state_field_sync, (option.the_field_sync Underway.the_row underway.the_sync, (list_of.the_sync KeptRegistration.the_row registration.the_sync, tt)))))

chronicle_sync : IsSync Chronicle.the_row
chronicle_sync = view_sync chronicle.the_row _ _ _ _ (recorded_sync (chronicle.the_field).row _ _ (chronicle.the_type).to_one (struct_sync (struct.shape chronicle.the_type)
    (plain_sync _ _ _ _ _, (base_sync, (list_of.the_sync (Mark.the_row Stamp.the_row) (mark.the_sync Stamp.the_row stamp.the_sync), tt)))))

pub room_sync : IsSync HistoryRoom.the_row
room_sync = view_sync room.the_row _ _ _ _ (recorded_sync (room.the_field).row _ _ (room.the_type).to_one (struct_sync (struct.shape room.the_type)
    (Vec-sync Chronicle.the_row chronicle_sync, tt)))
