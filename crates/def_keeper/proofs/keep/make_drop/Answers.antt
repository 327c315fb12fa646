use Rattle.std.proofs.Common.{None, Some, subst, sym}
use Rattle.store_spec.specs.declared.change.Change.TheVariants as change
use Rattle.def_map.specs.Map.{found}
use Rattle.def_keeper.specs.Safe.{IsKeptAt}
use Rattle.def_keeper.specs.Chapters.{moment_of}
use Rattle.def_keeper.proofs.Knowing.{at_done, at_failed}
use Rattle.def_keeper.proofs.keep.make_drop.Goals as goal

pub returns-in-Ok-clause-kept : goal.returns-in-Ok-clause-kept
returns-in-Ok-clause-kept g c = λ kept.
    let told = g.F.Files.told c.args.files.now in
    let now = g.F.Files.told c.drop_of.new.files in
    subst (λ d. IsKeptAt now c.mark_drop.new.chronicle (found c.take.new.self) d) (sym c.requires.1.0)
    (subst (λ h. IsKeptAt now h (found c.take.new.self) None) (sym c.mark_drop.ensures)
    (at_done g.number told now c.args.chronicle.now (found c.args.map.now) (found c.take.new.self) (change.Drop c.args.kind c.args.uuid) c.requires.1.1.1 c.take.ensures.dropped c.in-Ok.ensures.tries kept))

pub returns-in-Err-Failed-clause-kept : goal.returns-in-Err-Failed-clause-kept
returns-in-Err-Failed-clause-kept g c = λ kept.
    let told = g.F.Files.told c.args.files.now in
    let now = g.F.Files.told c.drop_of.new.files in
    subst (λ h. IsKeptAt now h (found c.args.map.now) (Some (record { kind = c.args.kind; uuid = c.args.uuid }))) (sym c.mark_drop-in-Err-Failed.ensures)
    (at_failed g.number told now c.args.chronicle.now (found c.args.map.now) (change.Drop c.args.kind c.args.uuid) (moment_of now) c.requires.1.1.1 (rw c.in-Err-Failed.field-0-is at c.in-Err-Failed.ensures.tries) kept)
