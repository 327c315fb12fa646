use Rattle.domain_obj.proofs.Moving.{may_renewed_then}
use Rattle.domain_obj.proofs.attempting.attempt_in.Goals as goal

pub look_or_give_up-requires-clause-may : goal.look_or_give_up-requires-clause-may
look_or_give_up-requires-clause-may g c =
    may_renewed_then c.args.who c.args.call.now c.args.first c.args.turn.now c.end_long_chapter.new.turn c.in-Ok.ensures.ok c.end_long_chapter.ensures.same c.requires.may
