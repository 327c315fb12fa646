use Rattle.domain_obj.proofs.operating.going.go_on.Given as goal

abbrev pub ghost-phase_as : goal.ghost-phase_as
ghost-phase_as g a = a.turn.now.pass.number
