use Rattle.std.proofs.Common.{[], ◌∷◌, Err, refl, subst, sym}
use Rattle.def_keeper.specs.declared.mark.StoreAction.TheVariants as action
use Rattle.def_keeper.specs.declared.mark.StoreFault.TheVariants as store
use Rattle.def_keeper.specs.Chapters.{by, moment_of}
use Rattle.def_map.specs.Map.{found}
use Rattle.def_keeper.specs.Safe.{IsKeptAt}
use Rattle.def_keeper.proofs.Knowing.{at_answered, left_by}
use Rattle.def_keeper.proofs.keep.change_free.Goals as goal

pub returns-in-Ok-clause-kept : goal.returns-in-Ok-clause-kept
returns-in-Ok-clause-kept g c = λ kept. c.make.ensures.kept
    (subst (λ d. IsKeptAt (g.F.Files.told c.settle.new.files) c.settle.new.chronicle (found c.args.map.now) d) c.in-Ok.ensures.settled (c.in-Ok.ensures.kept kept))

pub returns-in-Ok-clause-marks : goal.returns-in-Ok-clause-marks
returns-in-Ok-clause-marks g c =
    let s = c.in-Ok.ensures.marks in
    left_by g.number c.args.change c.args.doubt.now (found c.args.map.now) (moment_of (g.F.Files.told c.make.new.files)) c.args.chronicle.now c.settle.new.chronicle c.make.new.chronicle s.0 s.1 s.2 c.make.result c.make.ensures.marks

pub returns-in-Err-Failed-clause-kept : goal.returns-in-Err-Failed-clause-kept
returns-in-Err-Failed-clause-kept g c = λ kept.
    let now = g.F.Files.told c.settle.new.files in
    subst (λ h. IsKeptAt now h (found c.args.map.now) c.settle.new.doubt) (sym c.fail.ensures)
    (at_answered g.number now c.settle.new.chronicle (found c.args.map.now) c.settle.new.doubt (by g.number (action.Changed c.args.change (Err store.Device) (moment_of now)) ∷ []) refl (c.in-Err-Failed.ensures.kept kept))
