use Rattle.std.proofs.Common.{None, Some, subst, sym, ◌∙◌}
use Rattle.store_spec.specs.declared.change.Change.TheVariants as change
use Rattle.def_map.specs.Map.{found}
use Rattle.def_keeper.specs.Safe.{IsKeptAt}
use Rattle.def_keeper.specs.Chapters.{moment_of}
use Rattle.def_keeper.proofs.Knowing.{at_alike, at_done, at_drafted, at_failed, changed_alike}
use Rattle.def_keeper.proofs.keep.make_put.Goals as goal

pub returns-in-Ok-put-clause-kept : goal.returns-in-Ok-put-clause-kept
returns-in-Ok-put-clause-kept g c = λ kept.
    let told = g.F.Files.told c.args.files.now in
    let now = g.F.Files.told c.put.new.files in
    let this = change.Put c.args.kind c.args.uuid c.args.entry in
    subst (λ d. IsKeptAt now c.mark_put.new.chronicle (found c.set.new.self) d) (sym c.requires.1.0)
    (subst (λ h. IsKeptAt now h (found c.set.new.self) None) (sym c.mark_put.ensures)
    (at_done g.number told now c.args.chronicle.now (found c.args.map.now) (found c.set.new.self) this c.requires.1.1.1.1
    (λ k u. c.set.ensures.put k u ∙ changed_alike this (found c.prepare.new.self) (found c.args.map.now) k u (c.in-Ok.ensures.same k u))
    c.in-Ok-put.ensures.tries kept))

pub returns-in-Err-Failed-clause-kept : goal.returns-in-Err-Failed-clause-kept
returns-in-Err-Failed-clause-kept g c = λ kept.
    let told = g.F.Files.told c.args.files.now in
    let now = g.F.Files.told c.put.new.files in
    let this = change.Put c.args.kind c.args.uuid c.args.entry in
    let doubt = Some (record { kind = c.args.kind; uuid = c.args.uuid }) in
    at_alike now c.mark_put-in-Err-Failed.new.chronicle (found c.args.map.now) (found c.give_up-in-Err-Failed.new.self) doubt (λ k u. c.give_up-in-Err-Failed.ensures.same k u ∙ c.in-Ok.ensures.same k u)
    (subst (λ h. IsKeptAt now h (found c.args.map.now) doubt) (sym c.mark_put-in-Err-Failed.ensures)
    (at_failed g.number told now c.args.chronicle.now (found c.args.map.now) this (moment_of now) c.requires.1.1.1.1 (rw c.in-Err-Failed.field-0-is at c.in-Err-Failed.ensures.tries) kept))

pub returns-clause-kept : goal.returns-clause-kept
returns-clause-kept g c = λ kept.
    let told = g.F.Files.told c.args.files.now in
    let now = g.F.Files.told c.put.new.files in
    let this = change.Put c.args.kind c.args.uuid c.args.entry in
    subst (λ d. IsKeptAt now c.args.chronicle.now (found c.give_up-in-Err-NoMemory.new.self) d) (sym c.requires.1.0)
    (at_alike now c.args.chronicle.now (found c.args.map.now) (found c.give_up-in-Err-NoMemory.new.self) None (λ k u. c.give_up-in-Err-NoMemory.ensures.same k u ∙ c.in-Ok.ensures.same k u)
    (at_drafted g.number told now c.args.chronicle.now (found c.args.map.now) None this (rw c.in-Err-NoMemory.field-0-is at c.in-Err-NoMemory.ensures.tries) kept))
