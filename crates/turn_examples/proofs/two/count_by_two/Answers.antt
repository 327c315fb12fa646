use Rattle.std.proofs.Common.{◌∙◌, ap, subst}
use Rattle.turn_cell.specs.Passes.{Passed, IsFirst}
use Rattle.turn_examples.specs.declared.counter.Amount.{Amount}
use Rattle.turn_examples.specs.Keeping.{meaning}
use Rattle.turn_examples.proofs.Totals.{both_totals}
use Rattle.turn_examples.proofs.two.count_by_two.Goals as goal

pub returns : goal.returns
returns g c =
    let kept = c.split-one.ensures.kept in
    c.total-2.ensures
    ∙ both_totals c.args.times c.close.result _ _ _ _ _ _
    (subst (λ (v : Rattle.std.specs.Prelude.List Amount). IsFirst meaning v 0 c.in-Ok.pass) c.new.ensures c.in-Ok.ensures.pass)
    (ap (λ (p : Passed (Unit {0}) Amount (Unit {0})). p.mine) kept)
    (ap (λ (p : Passed (Unit {0}) Amount (Unit {0})). p.ended) kept)
    c.split-one.ensures.new
    c.in_ok-one.ensures.one
    c.in_ok-one.ensures.other
    c.join-pass.ensures.both
    c.close.ensures
