use Rattle.object_list.proofs.turns.claim_as.Given as goal

abbrev pub ghost-claim : goal.ghost-claim
ghost-claim g a = g.number
