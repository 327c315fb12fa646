use Rattle.std.proofs.Common.{Some, None, subst, sym}
use Rattle.def_map.specs.Map.{found}
use Rattle.def_keeper.specs.Safe.{IsKeptAt}
use Rattle.def_keeper.proofs.Knowing.{at_drafted, at_settled, at_unsettled, settling_good}
use Rattle.def_keeper.proofs.keep.settle.Goals as goal

pub returns-in-Ok-try_change-clause-kept : goal.returns-in-Ok-try_change-clause-kept
returns-in-Ok-try_change-clause-kept g c = λ kept.
    let told = g.F.Files.told c.args.files.now in
    let now = g.F.Files.told c.try_change.new.files in
    let s = c.in-Ok.ensures in
    subst (λ h. IsKeptAt now h (found c.args.map.now) None) (sym c.mark_change.ensures)
    (at_settled g.number told now c.args.chronicle.now (found c.args.map.now) c.in-Some.key c.in-Ok.change s.kind s.uuid s.entry (settling_good c.in-Some.key (found c.args.map.now) c.in-Ok.change s c.requires.1.1 c.known_uuid.ensures)
    c.in-Ok-try_change.ensures.tries (subst (λ d. IsKeptAt told c.args.chronicle.now (found c.args.map.now) d) c.in-Some.is kept))

pub returns-in-Err-Failed-clause-kept : goal.returns-in-Err-Failed-clause-kept
returns-in-Err-Failed-clause-kept g c = λ kept.
    let told = g.F.Files.told c.args.files.now in
    let now = g.F.Files.told c.try_change.new.files in
    let s = c.in-Ok.ensures in
    subst (λ d. IsKeptAt now c.mark_change-in-Err-Failed.new.chronicle (found c.args.map.now) d) (sym c.in-Some.is)
    (subst (λ h. IsKeptAt now h (found c.args.map.now) (Some c.in-Some.key)) (sym c.mark_change-in-Err-Failed.ensures)
    (at_unsettled g.number told now c.args.chronicle.now (found c.args.map.now) c.in-Some.key c.in-Ok.change s.kind s.uuid (settling_good c.in-Some.key (found c.args.map.now) c.in-Ok.change s c.requires.1.1 c.known_uuid.ensures)
    (rw c.in-Err-Failed.field-0-is at c.in-Err-Failed.ensures.tries) (subst (λ d. IsKeptAt told c.args.chronicle.now (found c.args.map.now) d) c.in-Some.is kept)))

pub returns-in-Err-NoMemory-clause-kept : goal.returns-in-Err-NoMemory-clause-kept
returns-in-Err-NoMemory-clause-kept g c = λ kept.
    at_drafted g.number (g.F.Files.told c.args.files.now) (g.F.Files.told c.try_change.new.files) c.args.chronicle.now (found c.args.map.now) c.args.doubt.now c.in-Ok.change (rw c.in-Err-NoMemory.field-0-is at c.in-Err-NoMemory.ensures.tries) kept
