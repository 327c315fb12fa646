-- What a cell of a domain holds may go to another thread, with its tree of snapshots.
use denote.Builtin.{u64}
use denote.Enum.Declared as enum
use denote.Param.Send.{IsSend, enum_send, plain_send, recorded_send, struct_send, view_send}
use denote.Param.SendFields.{as_row_send}
use denote.RattleType.{RattleType}
use denote.Struct.Declared as struct
use denote.Struct.Tuple as tuple
use mathlib.Core.List.{List, [], ◌∷◌}
use Rattle.std.proofs.Crossing.{Box-send}
use Rattle.std.proofs.option.Option.TheSendSync as option
use Rattle.uuid.proofs.Uuid.TheSendSync as uuid
use Rattle.virt_types.proofs.Below.types_base.boxed.Boxed.TheSendSync as boxed
use Rattle.virt_types.proofs.domain.Live.TheSendSync as live
use Rattle.virt_types.proofs.domain.Snap.TheSendSync as snap
use Rattle.virt_types.proofs.Below.types_base.domain_def.DomainDef.TheSendSync as definition
use Rattle.virt_types.proofs.Below.types_base.name.Name.TheSendSync as name
use Rattle.virt_types.proofs.operation.Op.TheSendSync as op
use Rattle.virt_types.proofs.run_state.EndReason.TheSendSync as reason
use Rattle.virt_types.proofs.snap_tree.SnapTree.TheLaws.TheKnot as knot
use Rattle.virt_types.specs.Below.types_base.contracts.boxed.Boxed
use Rattle.virt_types.specs.contracts.domain.Domain
use Rattle.virt_types.specs.contracts.domain.Live
use Rattle.virt_types.specs.contracts.domain.Snap
use Rattle.virt_types.specs.contracts.domain.State
use Rattle.virt_types.specs.Below.types_base.contracts.domain_def.DomainDef
use Rattle.virt_types.specs.Below.types_base.contracts.name.Name
use Rattle.virt_types.specs.contracts.operation.Op
use Rattle.virt_types.specs.contracts.run_state.EndReason
use Rattle.virt_types.specs.contracts.snap_list.SnapList
use Rattle.virt_types.specs.contracts.snap_list.SnapList.TheInside as list
use Rattle.virt_types.specs.contracts.snap_tree.new_snap.NewSnap
use Rattle.virt_types.specs.contracts.snap_tree.new_snap.NewSnap.TheInside as new
use Rattle.virt_types.specs.contracts.snap_tree.SnapTree

snap_send : IsSend (Boxed.the_row Snap.the_row)
snap_send = boxed.the_send Snap.the_row snap.the_send

tree_send : IsSend SnapTree.the_row
tree_send = knot.send-SnapTree Box-send (as_row_send (Boxed.the_field Snap.the_row) snap_send)

-- the snapshots, as a struct's field and alone
list_send : IsSend SnapList.the_row
list_send = view_send list.the_row _ _ _ _ (recorded_send (list.the_field).row _ _ (list.the_type).to_one (struct_send (struct.shape list.the_type)
    (tree_send, (plain_send _ _ _ _ _, tt))))

-- the number of a boot, and why it ended
abbrev ended : List RattleType
ended = u64 ∷ EndReason.the_row ∷ []

ended_send : IsSend (tuple.Tuple ended)
ended_send = recorded_send (tuple.tuple_field ended).row _ _ (tuple.tuple_type ended).to_one (struct_send (struct.shape (tuple.tuple_type ended))
    (plain_send _ _ _ _ _, (reason.the_send, tt)))

domain_field_send : IsSend (Domain.the_field).row
domain_field_send = struct_send (struct.shape Domain.the_type) (
  uuid.the_send,
  (
    name.the_send,
    (
      option.the_field_send DomainDef.the_row definition.the_send,
      (
        option.the_field_send Live.the_row live.the_send,
        (
          plain_send _ _ _ _ _,
          (
            list_send,
            (
              option.the_field_send Name.the_row name.the_send,
              (
                option.the_field_send Op.the_row op.the_send,
                (plain_send _ _ _ _ _, (option.the_field_send (tuple.Tuple ended) ended_send, tt)),
              ),
            ),
          ),
        ),
      ),
    ),
  ),
)

pub state_field_send : IsSend (State.the_field).row
state_field_send = enum_send (enum.shape State.the_type) ((plain_send _ _ _ _ _, tt), ((domain_field_send, tt), tt))

pub state_send : IsSend State.the_row
state_send = recorded_send (State.the_field).row _ _ (State.the_type).to_one state_field_send

pub new_send : IsSend NewSnap.the_row
new_send = view_send new.the_row _ _ _ _ (recorded_send (new.the_field).row _ _ (new.the_type).to_one (struct_send (struct.shape new.the_type)
    (Box-send SnapTree.the_row tree_send, (snap_send, (Box-send SnapTree.the_row tree_send, tt)))))
