use Rattle.domain_obj.proofs.lending.lend_in.Given as goal

abbrev pub ghost-lend_as : goal.ghost-lend_as
ghost-lend_as g a = a.turn.now.pass.number
