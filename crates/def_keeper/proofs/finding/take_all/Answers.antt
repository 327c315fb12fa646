use Rattle.std.proofs.Common.{◌≡◌, ◌+◌, ◌++◌, List, [], ◌∷◌, ℕ, ap, arith, refl, subst, sym, take, ◌∙◌}
use Rattle.std.proofs.lemmas.List.{take_more}
use Rattle.files_disk.specs.Telling.{Told}
use Rattle.def_keeper.specs.Finding.{Finds}
use Rattle.def_map.specs.Map.{found}
use Rattle.def_keeper.proofs.Knowing.{none_good}
use Rattle.def_keeper.proofs.OpenedSo.{first_at}
use Rattle.def_keeper.proofs.Opens.{find_step}
use Rattle.def_keeper.proofs.finding.take_all.Goals as goal

pub loop-name-init : goal.loop-name-init
loop-name-init g c = (first_at (g.F.Files.told c.args.files.now) c.args.map.now c.args.rows.now c.requires.map c.requires.rows, refl, omega arith, none_good c.args.map.now c.requires.map)

pub loop-name-preserved : goal.loop-name-preserved
loop-name-preserved g c =
    let told = g.F.Files.told c.args.files.now in
    let before = take c.loop-name.name-index c.args.names.now in
    let item = c.name-item.result in
    let inv = c.loop-name.invariant in
    let cut : take (c.loop-name.name-index + 1) c.args.names.now ≡ before ++ item ∷ [] =
    take_more c.args.names.now c.loop-name.name-index item c.loop-name-test.true ∙ ap (λ (x : List ℕ). before ++ x ∷ []) (sym c.name-item.is) in (
      find_step told c.args.names.now c.loop-name.name-index item (found c.loop-name.map) (found c.take_named.new.map) c.loop-name.rows c.take_named.new.rows
          c.requires.listed c.requires.ordered c.loop-name-test.true c.name-item.is cut inv.0
          (subst (λ (t : Told). Finds t item (found c.loop-name.map) (found c.take_named.new.map) c.loop-name.rows c.take_named.new.rows) inv.1 c.in-Ok.ensures.ok),
      c.take_named.ensures.told ∙ inv.1,
      omega (arith, inv.2, c.take_named.ensures.faults),
      c.in-Ok.ensures.good inv.3,
    )
