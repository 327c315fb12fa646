use Rattle.domain_obj.proofs.RunsEntering.{may_enter_then}
use Rattle.domain_obj.proofs.operating.entering.enter_in.Goals as goal

pub enter_or_give_up-requires-clause-may : goal.enter_or_give_up-requires-clause-may
enter_or_give_up-requires-clause-may g c = may_enter_then c.args.who c.args.turn.now c.end_long_chapter.new.turn c.in-Ok.ensures.ok c.end_long_chapter.ensures.same c.requires.may
