use Rattle.object_list.proofs.list.claim_from.Given as goal

abbrev pub ghost-hold_or_put : goal.ghost-hold_or_put
ghost-hold_or_put g a = g.number
