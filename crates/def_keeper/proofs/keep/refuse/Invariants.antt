use Rattle.std.proofs.Common.{[], ◌∷◌, Err}
use Rattle.def_keeper.specs.declared.mark.StoreAction.TheVariants as action
use Rattle.def_keeper.specs.Chapters.{by, moment_of}
use Rattle.def_keeper.proofs.keep.refuse.Given as goal

abbrev pub ghost-mark_answer : goal.ghost-mark_answer
ghost-mark_answer g a = by g.number (action.Changed a._change.now (Err a._answer) (moment_of (g.F.Files.told a._files.now))) ∷ []
