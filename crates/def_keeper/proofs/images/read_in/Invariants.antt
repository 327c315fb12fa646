use Rattle.std.proofs.Common.{[], ◌∷◌, Ok, Err}
use Rattle.def_keeper.specs.declared.mark.StoreAction.TheVariants as action
use Rattle.def_keeper.specs.Chapters.{by}
use Rattle.def_keeper.proofs.images.read_in.Given as goal

abbrev pub ghost-mark_read : goal.ghost-mark_read
ghost-mark_read g a = by g.number (action.ImageRead a._name.now (Ok a._image.now)) ∷ []

abbrev pub ghost-mark_unread : goal.ghost-mark_unread
ghost-mark_unread g a = by g.number (action.ImageRead a._name.now (Err a._fault)) ∷ []
