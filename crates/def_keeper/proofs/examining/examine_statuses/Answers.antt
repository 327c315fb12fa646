use Rattle.std.proofs.Common.{◌≡◌, ◌+◌, ◌++◌, List, [], ◌∷◌, ℕ, ap, arith, refl, subst, sym, take, ◌∙◌}
use Rattle.std.proofs.lemmas.List.{take_all, take_more}
use Rattle.files_disk.specs.Telling.{Told}
use Rattle.def_keeper.specs.Judging.{AddsStatus}
use Rattle.def_keeper.proofs.Examines.{StatusesAt, statuses_first, statuses_more, statuses_whole}
use Rattle.def_keeper.proofs.examining.examine_statuses.Goals as goal

pub loop-file-init : goal.loop-file-init
loop-file-init g c = (statuses_first (g.F.Files.told c.args.files.now) c.args.reports.now, refl, omega arith)

pub loop-file-preserved : goal.loop-file-preserved
loop-file-preserved g c =
    let told = g.F.Files.told c.args.files.now in
    let all = c.args.all.now in
    let item = c.file-item.result in
    let inv = c.loop-file.invariant in
    let cut : take (c.loop-file.file-index + 1) all ≡ take c.loop-file.file-index all ++ item ∷ [] =
    take_more all c.loop-file.file-index item c.loop-file-test.true ∙ ap (λ (x : List ℕ). take c.loop-file.file-index all ++ x ∷ []) (sym c.file-item.is) in (
      statuses_more told all c.loop-file.file-index item c.args.reports.now c.loop-file.reports c.examine_status.new.reports
          c.requires.listed c.requires.ordered c.loop-file-test.true c.file-item.is cut inv.0
          (subst (λ (t : Told). AddsStatus t item c.loop-file.reports c.examine_status.new.reports) inv.1 c.in-Ok.ensures.ok),
      c.examine_status.ensures.told ∙ inv.1,
      omega (arith, inv.2, c.examine_status.ensures.faults),
    )

pub returns-clause-ok : goal.returns-clause-ok
returns-clause-ok g c =
    let told = g.F.Files.told c.args.files.now in
    let all = c.args.all.now in
    statuses_whole told all c.args.reports.now c.loop-file.reports c.requires.listed
    (subst (λ (l : List (List ℕ)). StatusesAt told l c.args.reports.now c.loop-file.reports) (take_all c.loop-file.file-index all (omega (arith, c.loop-file-test.false))) c.loop-file.invariant.0)
