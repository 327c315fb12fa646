use Rattle.domain_stories.proofs.acting.watch.Given as goal

abbrev pub invariant-loop : goal.invariant-loop
invariant-loop g l = g.O.Stage.is_part l.stage l.pass
