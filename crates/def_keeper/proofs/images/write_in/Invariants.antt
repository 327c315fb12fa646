use Rattle.std.proofs.Common.{[], ◌∷◌}
use Rattle.def_keeper.specs.declared.mark.StoreAction.TheVariants as action
use Rattle.def_keeper.specs.Chapters.{by}
use Rattle.def_keeper.proofs.images.write_in.Given as goal

abbrev pub ghost-mark_written : goal.ghost-mark_written
ghost-mark_written g a = by g.number (action.ImageWritten a._name.now a._image.now a._answer) ∷ []
