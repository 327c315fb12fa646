use Rattle.std.proofs.Common.{◌≡◌, ◌+◌, ◌++◌, List, [], ◌∷◌, ap, arith, refl, subst, sym, take, ◌∙◌}
use Rattle.std.proofs.lemmas.List.{take_all, take_more}
use Rattle.files_disk.specs.Telling.{Told}
use Rattle.def_keeper.specs.declared.report.Report.{Report}
use Rattle.store_check.specs.Adding.{HasSaid, JudgesMore}
use Rattle.store_check.proofs.Saying.{IsReportAt, reported, said_more}
use Rattle.store_check.proofs.check.judge_all.Goals as goal

pub loop-report-preserved : goal.loop-report-preserved
loop-report-preserved g c =
    let told = g.F.Files.told c.args.files.now in
    let all = c.args.reports.now in
    let at = c.loop-report.report-index in
    let item = c.report-item.result in
    let inv = c.loop-report.invariant in
    let cut : take (at + 1) all ≡ take at all ++ item ∷ [] =
    take_more all at item c.loop-report-test.true ∙ ap (λ (x : Report). take at all ++ x ∷ []) (sym c.report-item.is) in
    let there : IsReportAt told item = subst (λ (x : Report). IsReportAt told x) (sym c.report-item.is) (reported told all at item c.requires c.loop-report-test.true) in
    record {
      said = subst (λ (x : List Report). HasSaid told x c.judge.new.lines) (sym cut)
          (said_more told (take at all) item c.loop-report.lines c.judge.new.lines inv.said there
          (subst (λ (t : Told). JudgesMore t item c.loop-report.lines c.judge.new.lines) inv.told c.in-Ok.ensures.ok));
      told = c.judge.ensures.told ∙ inv.told;
      faults = omega (arith, inv.faults, c.judge.ensures.faults);
    }
