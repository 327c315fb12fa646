use Rattle.object_list.proofs.turns.claim_in.Given as goal

abbrev pub ghost-claim_as : goal.ghost-claim_as
ghost-claim_as a = a.turn.now.pass.number
