use Rattle.job_rules.proofs.queue.Queue.look.Given as goal

abbrev pub ghost-with : goal.ghost-with
ghost-with g a = g.number
