use Rattle.core_steps.proofs.Applied.{event_free}
use Rattle.core_steps.proofs.applying.apply.Goals as goal

pub returns-in-Some-clause-free : goal.returns-in-Some-clause-free
returns-in-Some-clause-free c = event_free c.args.kept.now c.event.new.self c.held.inside.boot c.held.inside.event c.event.ensures.told c.requires.free
