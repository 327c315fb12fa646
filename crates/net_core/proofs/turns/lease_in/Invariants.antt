use Rattle.net_core.proofs.turns.lease_in.Given as goal

abbrev pub ghost-lease_as : goal.ghost-lease_as
ghost-lease_as a = a.turn.now.pass.number
