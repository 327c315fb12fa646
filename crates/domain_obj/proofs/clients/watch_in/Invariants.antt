use Rattle.domain_obj.proofs.clients.watch_in.Given as goal

abbrev pub ghost-watch_as : goal.ghost-watch_as
ghost-watch_as g a = a.turn.now.pass.number
