use Rattle.std.proofs.Common.{[], ◌∷◌}
use Rattle.def_keeper.specs.declared.mark.StoreAction.TheVariants as action
use Rattle.def_keeper.specs.Chapters.{by}
use Rattle.def_keeper.proofs.keep.settle.Given as goal

abbrev pub ghost-mark_change : goal.ghost-mark_change
ghost-mark_change g a = by g.number (action.Tried a._change.now) ∷ []
