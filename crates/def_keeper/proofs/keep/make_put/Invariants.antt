use Rattle.std.proofs.Common.{[], ◌∷◌, Ok, Err}
use Rattle.std.specs.Prelude.{◌==◌, if◌then◌else◌}
use Rattle.store_spec.specs.declared.change.Change.TheVariants as change
use Rattle.def_keeper.specs.declared.mark.StoreAction.TheVariants as action
use Rattle.def_keeper.specs.declared.mark.StoreFault.TheVariants as store
use Rattle.def_keeper.specs.Chapters.{by, moment_of}
use Rattle.def_keeper.proofs.keep.make_put.Given as goal

abbrev pub ghost-mark_put : goal.ghost-mark_put
ghost-mark_put g a = if a.count == 1 then by g.number (action.Changed (change.Put a._kind a._uuid a._entry.now) (Ok tt) (moment_of (g.F.Files.told a._files.now))) ∷ []
    else by g.number (action.Tried (change.Put a._kind a._uuid a._entry.now)) ∷ by g.number (action.Changed (change.Put a._kind a._uuid a._entry.now) (Err store.Device) (moment_of (g.F.Files.told a._files.now))) ∷ []
