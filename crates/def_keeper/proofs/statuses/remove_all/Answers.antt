use Rattle.std.proofs.Common.{◌≡◌, ◌+◌, ◌++◌, List, [], ◌∷◌, ℕ, ap, arith, subst, sym, take, ◌∙◌}
use Rattle.std.proofs.lemmas.List.{take_more}
use Rattle.def_keeper.specs.Tidying.{HasRemovedAt}
use Rattle.def_keeper.proofs.Tidies.{remove_first, remove_step, removed_tidies, tidies_failed}
use Rattle.def_keeper.proofs.statuses.remove_all.Goals as goal

pub loop-name-init : goal.loop-name-init
loop-name-init g c = (remove_first (g.F.Files.told c.args.files.now), omega arith)

pub loop-name-preserved : goal.loop-name-preserved
loop-name-preserved g c =
    let told = g.F.Files.told c.args.files.now in
    let before = take c.loop-name.name-index c.args.names.now in
    let item = c.name-item.result in
    let inv = c.loop-name.invariant in
    let cut : take (c.loop-name.name-index + 1) c.args.names.now ≡ before ++ item ∷ [] =
    take_more c.args.names.now c.loop-name.name-index item c.loop-name-test.true ∙ ap (λ (x : List ℕ). before ++ x ∷ []) (sym c.name-item.is) in (
      subst (λ (l : List (List ℕ)). HasRemovedAt told l (g.F.Files.told c.remove.new.files)) (sym cut)
          (remove_step told before item (g.F.Files.told c.loop-name.files) (g.F.Files.told c.remove.new.files) inv.0 c.in-Ok.ensures.told),
      omega (arith, inv.1, c.remove.ensures.cause.later),
    )

pub returns-in-Err-clause-told : goal.returns-in-Err-clause-told
returns-in-Err-clause-told g c =
    let told = g.F.Files.told c.args.files.now in
    tidies_failed told (g.F.Files.told c.loop-name.files) (g.F.Files.told c.remove.new.files) c.name-item.result
    (removed_tidies told (take c.loop-name.name-index c.args.names.now) (g.F.Files.told c.loop-name.files) c.loop-name.invariant.0) c.in-Err.ensures.told

pub returns-clause-told : goal.returns-clause-told
returns-clause-told g c =
    removed_tidies (g.F.Files.told c.args.files.now) (take c.loop-name.name-index c.args.names.now) (g.F.Files.told c.loop-name.files) c.loop-name.invariant.0
