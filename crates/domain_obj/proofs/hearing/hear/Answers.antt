use Rattle.std.proofs.Common.{◌∙◌, subst, arith}
use Rattle.std.proofs.lemmas.Bool.Decides.{nat_tests}
use Rattle.domain_obj.specs.Hearing.{HasHeardOnce}
use Rattle.domain_obj.specs.declared.ends.Hushed.TheVariants as hushed
use Rattle.domain_obj.specs.declared.once.Once.{Once}
use Rattle.domain_obj.proofs.Hearings.{cell_then, keeps_first, keeps_on, last_of_all, left_so, often, ready_then}
use Rattle.domain_obj.proofs.hearing.hear.Goals as goal

pub loop-before-init : goal.loop-before-init
loop-before-init g c = record {
  own = c.requires.own;
  ready = c.requires.ready;
  few = omega arith;
  keeps = keeps_first g.G.E.Ears.ends g.G.E.Ears.faults g.G.E.Ears.unheard c.args.pass;
}

pub loop-before-preserved : goal.loop-before-preserved
loop-before-preserved g c =
    let now = c.loop-before.pass in
    let after = c.hear_once-after.result.0 in
    let kept = c.loop-before.invariant in
    let heard = subst (λ (o : Once). HasHeardOnce g.G.E.Ears.ends g.G.E.Ears.faults g.G.E.Ears.unheard now after o) c.in-Heard.is c.hear_once-after.ensures in
    let few = c.loop-before.invariant.few in
    let other = c.if-before-eq-MOST.false in
    record {
      own = cell_then g.G.E.Ears.ends g.G.E.Ears.faults g.G.E.Ears.unheard now after c.in-Heard.seen kept.ready heard ∙ kept.own;
      ready = ready_then g.G.E.Ears.ends g.G.E.Ears.faults g.G.E.Ears.unheard now after c.in-Heard.seen kept.ready heard;
      few = first_of (omega (arith, few, other), grind (arith, nat_tests, few, other));
      keeps = keeps_on g.G.E.Ears.ends g.G.E.Ears.faults g.G.E.Ears.unheard c.loop-before.before c.args.pass now after c.in-Heard.seen kept.ready kept.keeps heard;
    }

pub returns-then-before-eq-MOST-clause-heard : goal.returns-then-before-eq-MOST-clause-heard
returns-then-before-eq-MOST-clause-heard g c =
    often g.G.E.Ears.ends g.G.E.Ears.faults g.G.E.Ears.unheard c.loop-before.before c.args.pass c.loop-before.pass c.hear_once-after.result.0 c.in-Heard.seen c.if-before-eq-MOST.true c.loop-before.invariant.ready c.loop-before.invariant.keeps
    (subst (λ (o : Once). HasHeardOnce g.G.E.Ears.ends g.G.E.Ears.faults g.G.E.Ears.unheard c.loop-before.pass c.hear_once-after.result.0 o) c.in-Heard.is c.hear_once-after.ensures)

pub returns-then-before-eq-MOST-clause-leaves : goal.returns-then-before-eq-MOST-clause-leaves
returns-then-before-eq-MOST-clause-leaves g c =
    left_so g.G.E.Ears.ends g.G.E.Ears.faults g.G.E.Ears.unheard c.args.pass c.hear_once-after.result.0 (hushed.Often c.in-Heard.seen)
    (often g.G.E.Ears.ends g.G.E.Ears.faults g.G.E.Ears.unheard c.loop-before.before c.args.pass c.loop-before.pass c.hear_once-after.result.0 c.in-Heard.seen c.if-before-eq-MOST.true c.loop-before.invariant.ready c.loop-before.invariant.keeps
    (subst (λ (o : Once). HasHeardOnce g.G.E.Ears.ends g.G.E.Ears.faults g.G.E.Ears.unheard c.loop-before.pass c.hear_once-after.result.0 o) c.in-Heard.is c.hear_once-after.ensures))

pub returns-in-Last-clause-heard : goal.returns-in-Last-clause-heard
returns-in-Last-clause-heard g c =
    last_of_all g.G.E.Ears.ends g.G.E.Ears.faults g.G.E.Ears.unheard c.loop-before.before c.args.pass c.loop-before.pass c.hear_once-after.result.0 c.in-Last.hushed c.loop-before.invariant.few c.loop-before.invariant.keeps
    (subst (λ (o : Once). HasHeardOnce g.G.E.Ears.ends g.G.E.Ears.faults g.G.E.Ears.unheard c.loop-before.pass c.hear_once-after.result.0 o) c.in-Last.is c.hear_once-after.ensures)

pub returns-in-Last-clause-leaves : goal.returns-in-Last-clause-leaves
returns-in-Last-clause-leaves g c =
    left_so g.G.E.Ears.ends g.G.E.Ears.faults g.G.E.Ears.unheard c.args.pass c.hear_once-after.result.0 c.in-Last.hushed
    (last_of_all g.G.E.Ears.ends g.G.E.Ears.faults g.G.E.Ears.unheard c.loop-before.before c.args.pass c.loop-before.pass c.hear_once-after.result.0 c.in-Last.hushed c.loop-before.invariant.few c.loop-before.invariant.keeps
    (subst (λ (o : Once). HasHeardOnce g.G.E.Ears.ends g.G.E.Ears.faults g.G.E.Ears.unheard c.loop-before.pass c.hear_once-after.result.0 o) c.in-Last.is c.hear_once-after.ensures))
