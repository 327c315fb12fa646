use Rattle.domain_obj.proofs.operating.going.end_in.Given as goal

abbrev pub ghost-end_as : goal.ghost-end_as
ghost-end_as g a = a.turn.now.pass.number
