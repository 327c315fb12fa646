use Rattle.std.proofs.Common.{◌≡◌, ◌∙◌, ap, sym, subst, All, arith}
use Rattle.std.proofs.lemmas.List.Elements.{All-push}
use Rattle.turn_examples.proofs.Adding.{Pass, one_cut}
use Rattle.turn_examples.proofs.crowd.cut_off.Goals as goal

pub loop-preserved : goal.loop-preserved
loop-preserved c =
    let cell : c.split-rest.result.1.cell ≡ c.args.cell.now = ap (λ (p : Pass). p.cell) c.split-rest.ensures.new.rest ∙ (ap (λ (p : Pass). p.cell) c.loop.invariant.1 ∙ c.requires.own) in (
      omega (arith, c.loop.invariant.0),
      one_cut c.loop.counter c.args.pass c.loop.pass c.split-rest.result.0 c.loop.invariant.1 c.split-rest.ensures.kept,
      subst (All (λ (p : Pass). p.cell ≡ c.args.cell.now)) (sym c.push_reserved.ensures.items) (All-push (λ (p : Pass). p.cell ≡ c.args.cell.now) c.reserve.new.self.items c.split-rest.result.1 (subst (All (λ (p : Pass). p.cell ≡ c.args.cell.now)) (sym c.reserve.ensures.items) c.loop.invariant.2) cell),
    )
