use Rattle.book_spec.specs.declared.list.ListCall.TheVariants as call
use Rattle.object_list.proofs.list.ObjectList.hold_name.Given as goal

abbrev pub ghost-hold_found : goal.ghost-hold_found
ghost-hold_found g a = g.number

abbrev pub ghost-mark_name : goal.ghost-mark_name
ghost-mark_name g a = (g.number, call.HoldName a._name.now)
