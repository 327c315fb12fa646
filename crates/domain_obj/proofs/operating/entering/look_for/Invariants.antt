use Rattle.domain_obj.proofs.operating.entering.look_for.Given as goal

abbrev pub ghost-look_as : goal.ghost-look_as
ghost-look_as g a = a.turn.now.pass.number
