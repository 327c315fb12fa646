use Rattle.job_rules.proofs.queue.Queue.leave.Given as goal

abbrev pub ghost-without : goal.ghost-without
ghost-without g a = g.number
