use Rattle.domain_stories.proofs.acting.act.Given as goal

abbrev pub invariant-loop-step : goal.invariant-loop-step
invariant-loop-step g l = g.O.Stage.is_part l.stage l.pass
