-- The history of a chapter, with what is in force after it, may go to another thread.
use denote.Builtin.{u64}
use denote.Param.Send.{IsSend, plain_send, recorded_send, struct_send, view_send}
use denote.Struct.Declared as struct
use Rattle.domain_obj.proofs.Below.core_chapter.base.KeptRegistration.TheSendSync as registration
use Rattle.domain_obj.proofs.Below.core_chapter.open.Underway.TheSendSync as underway
use Rattle.domain_obj.specs.Below.core_chapter.contracts.base.ChapterBase
use Rattle.domain_obj.specs.Below.core_chapter.contracts.base.ChapterBase.TheInside as base
use Rattle.domain_obj.specs.Below.core_chapter.contracts.base.KeptRegistration
use Rattle.domain_obj.specs.Below.core_chapter.contracts.chapter.Chapter
use Rattle.domain_obj.specs.Below.core_chapter.contracts.chapter.Chapter.TheInside as chapter
use Rattle.domain_obj.specs.Below.core_chapter.contracts.open.LetIn
use Rattle.domain_obj.specs.Below.core_chapter.contracts.open.LetIn.TheInside as let_in
use Rattle.domain_obj.specs.Below.core_chapter.contracts.open.Underway
use Rattle.domain_spec.proofs.mark.Mark.TheSendSync as mark
use Rattle.domain_spec.specs.contracts.mark.Mark
use Rattle.domain_threads.proofs.States.{state_field_send}
use Rattle.history_spec.proofs.stamp.Stamp.TheSendSync as stamp
use Rattle.history_spec.specs.contracts.stamp.Stamp
use Rattle.std.proofs.Crossing.{crosses}
use Rattle.std.proofs.option.Option.TheSendSync as option
use Rattle.std.specs.contracts.snapshot.Snapshot
use Rattle.virt_types.proofs.answer.Job.TheSendSync as job
use Rattle.virt_types.proofs.call.Call.TheSendSync as call
use Rattle.virt_types.proofs.Below.types_base.caller.Who.TheSendSync as who
use Rattle.virt_types.proofs.Below.types_base.list.ListOf.TheSendSync as list
use Rattle.virt_types.proofs.Below.types_base.room.RoomyList.TheSendSync as roomy
use Rattle.virt_types.specs.contracts.domain.State

base_send : IsSend ChapterBase.the_row
base_send = view_send base.the_row _ _ _ _ (recorded_send (base.the_field).row _ _ (base.the_type).to_one (struct_send (struct.shape base.the_type)
    (state_field_send, (option.the_field_send Underway.the_row underway.the_send, (list.the_send KeptRegistration.the_row registration.the_send, tt)))))

let_in_send : IsSend LetIn.the_row
let_in_send = view_send let_in.the_row _ _ _ _ (recorded_send (let_in.the_field).row _ _ (let_in.the_type).to_one (struct_send (struct.shape let_in.the_type) (
  stamp.the_send,
  (
    who.the_field_send,
    (
      job.the_field_send,
      (
        call.the_field_send,
        (
          option.the_field_send u64 (plain_send _ _ _ _ _),
          (option.the_field_send (Snapshot.the_row State.the_row) (search crosses), tt),
        ),
      ),
    ),
  ),
)))

pub chapter_send : IsSend Chapter.the_row
chapter_send = view_send chapter.the_row _ _ _ _ (recorded_send (chapter.the_field).row _ _ (chapter.the_type).to_one (struct_send (struct.shape chapter.the_type) (
  plain_send _ _ _ _ _,
  (
    base_send,
    (
      roomy.the_send (Mark.the_row Stamp.the_row) (mark.the_send Stamp.the_row stamp.the_send),
      (state_field_send, (option.the_field_send LetIn.the_row let_in_send, (option.the_field_send Underway.the_row underway.the_send, tt))),
    ),
  ),
)))
