use Rattle.std.proofs.Common.{[], ◌∷◌, Err, refl, subst, sym}
use Rattle.store_spec.specs.Changes.{uuid_of}
use Rattle.def_keeper.specs.declared.mark.StoreAction.TheVariants as action
use Rattle.def_keeper.specs.declared.mark.StoreFault.TheVariants as store
use Rattle.def_keeper.specs.Chapters.{by, moment_of}
use Rattle.def_map.specs.Map.{found}
use Rattle.def_keeper.specs.Safe.{IsKeptAt}
use Rattle.def_keeper.proofs.Knowing.{at_answered}
use Rattle.def_keeper.proofs.keep.change_in.Goals as goal

pub returns-in-Some-clause-kept : goal.returns-in-Some-clause-kept
returns-in-Some-clause-kept g c = λ kept.
    let now = g.F.Files.told c.args.files.now in
    subst (λ h. IsKeptAt now h (found c.args.map.now) c.args.doubt.now) (sym c.refuse-fault.ensures.marks)
    (at_answered g.number now c.args.chronicle.now (found c.args.map.now) c.args.doubt.now (by g.number (action.Changed c.args.change (Err (store.NameKept c.in-Some.one (uuid_of c.args.change))) (moment_of now)) ∷ []) refl kept)
