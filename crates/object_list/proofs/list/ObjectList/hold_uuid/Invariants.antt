use Rattle.book_spec.specs.declared.list.ListCall.TheVariants as call
use Rattle.object_list.proofs.list.ObjectList.hold_uuid.Given as goal

abbrev pub ghost-hold_found : goal.ghost-hold_found
ghost-hold_found g a = g.number

abbrev pub ghost-mark_uuid : goal.ghost-mark_uuid
ghost-mark_uuid g a = (g.number, call.HoldUuid a._uuid)
