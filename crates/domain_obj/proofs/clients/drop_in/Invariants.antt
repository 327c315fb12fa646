use Rattle.domain_obj.proofs.clients.drop_in.Given as goal

abbrev pub ghost-drop_as : goal.ghost-drop_as
ghost-drop_as g a = a.turn.now.pass.number
