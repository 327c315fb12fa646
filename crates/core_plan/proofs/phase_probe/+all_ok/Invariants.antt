use Rattle.core_plan.proofs.phase_probe.+all_ok.Given as goal

abbrev pub decreases-all_ok : goal.decreases-all_ok
decreases-all_ok l = l.count
