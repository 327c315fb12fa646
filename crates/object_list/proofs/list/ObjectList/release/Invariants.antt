use Rattle.book_spec.specs.declared.list.ListCall.TheVariants as call
use Rattle.object_list.proofs.list.ObjectList.release.Given as goal

abbrev pub ghost-release : goal.ghost-release
ghost-release g a = g.number

abbrev pub ghost-mark_release : goal.ghost-mark_release
ghost-mark_release g a = (g.number, call.Release a._slot a._front a._occupied)
