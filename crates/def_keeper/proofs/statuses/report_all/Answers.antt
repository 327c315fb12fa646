use Rattle.std.proofs.Common.{◌≡◌, ◌+◌, ◌++◌, List, [], ◌∷◌, ℕ, ap, arith, refl, subst, sym, take, ◌∙◌}
use Rattle.std.proofs.lemmas.List.{take_more}
use Rattle.files_disk.specs.Telling.{Told}
use Rattle.def_keeper.specs.Tidying.{ReportsAt}
use Rattle.def_keeper.proofs.Tidies.{report_first, report_step}
use Rattle.def_keeper.proofs.statuses.report_all.Goals as goal

pub loop-name-init : goal.loop-name-init
loop-name-init g c = (report_first (g.F.Files.told c.args.files.now) c.args.statuses.now c.requires.statuses, refl, omega arith)

pub loop-name-preserved : goal.loop-name-preserved
loop-name-preserved g c =
    let told = g.F.Files.told c.args.files.now in
    let before = take c.loop-name.name-index c.args.names.now in
    let item = c.name-item.result in
    let inv = c.loop-name.invariant in
    let cut : take (c.loop-name.name-index + 1) c.args.names.now ≡ before ++ item ∷ [] =
    take_more c.args.names.now c.loop-name.name-index item c.loop-name-test.true ∙ ap (λ (x : List ℕ). before ++ x ∷ []) (sym c.name-item.is) in (
      report_step told c.args.names.now c.loop-name.name-index item c.loop-name.statuses c.report.new.statuses c.requires.listed c.requires.ordered c.loop-name-test.true c.name-item.is cut inv.0
          (subst (λ (t : Told). ReportsAt t item c.loop-name.statuses c.report.new.statuses) inv.1 c.in-Ok.ensures.ok),
      c.report.ensures.told ∙ inv.1,
      omega (arith, inv.2, c.report.ensures.faults),
    )
