use Rattle.std.proofs.Common.{◌≡◌, ◌+◌, ◌++◌, List, [], ◌∷◌, ℕ, ap, arith, refl, subst, sym, take, ◌∙◌}
use Rattle.std.proofs.lemmas.List.{take_all, take_more}
use Rattle.files_disk.specs.Telling.{Told}
use Rattle.def_keeper.specs.Judging.{AddsDefinition}
use Rattle.def_keeper.proofs.Examines.{JudgedAt, judged_first, judged_more, judged_whole}
use Rattle.def_keeper.proofs.examining.examine_definitions.Goals as goal

pub loop-file-init : goal.loop-file-init
loop-file-init g c = (judged_first (g.F.Files.told c.args.files.now) c.new-names.result c.args.reports.now c.new-names.ensures c.requires.reports, refl, omega arith)

pub loop-file-preserved : goal.loop-file-preserved
loop-file-preserved g c =
    let told = g.F.Files.told c.args.files.now in
    let all = c.args.all.now in
    let item = c.file-item.result in
    let inv = c.loop-file.invariant in
    let cut : take (c.loop-file.file-index + 1) all ≡ take c.loop-file.file-index all ++ item ∷ [] =
    take_more all c.loop-file.file-index item c.loop-file-test.true ∙ ap (λ (x : List ℕ). take c.loop-file.file-index all ++ x ∷ []) (sym c.file-item.is) in (
      judged_more told all c.loop-file.file-index item c.loop-file.names c.examine_definition.new.names c.loop-file.reports c.examine_definition.new.reports
          c.requires.listed c.requires.ordered c.loop-file-test.true c.file-item.is cut inv.0
          (subst (λ (t : Told). AddsDefinition t item c.loop-file.names c.examine_definition.new.names c.loop-file.reports c.examine_definition.new.reports) inv.1 c.in-Ok.ensures.ok),
      c.examine_definition.ensures.told ∙ inv.1,
      omega (arith, inv.2, c.examine_definition.ensures.faults),
    )

pub returns-clause-ok : goal.returns-clause-ok
returns-clause-ok g c =
    let told = g.F.Files.told c.args.files.now in
    let all = c.args.all.now in
    judged_whole told all c.loop-file.names c.loop-file.reports c.requires.listed
    (subst (λ (l : List (List ℕ)). JudgedAt told l c.loop-file.names c.loop-file.reports) (take_all c.loop-file.file-index all (omega (arith, c.loop-file-test.false))) c.loop-file.invariant.0)
