use Rattle.domain_obj.proofs.Renewing.{due_then, waits_as_none}
use Rattle.domain_obj.proofs.operating.going.phase_in.Goals as goal

pub end_chapter_if_can-requires-clause-waits : goal.end_chapter_if_can-requires-clause-waits
end_chapter_if_can-requires-clause-waits g c = waits_as_none c.args.turn.now.pass.number c.args.who c.args.turn.now.value c.requires.may

pub go_on-requires : goal.go_on-requires
go_on-requires g c = record { due = due_then c.args.who c.args.turn.now c.end_chapter_if_can.new.turn c.end_chapter_if_can.ensures.renewed c.end_chapter_if_can.ensures.same c.requires.may }
