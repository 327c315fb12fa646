use Rattle.core_steps.proofs.ClientKeeping.{rotate_keeps}
use Rattle.core_steps.proofs.rotating.rotate.Goals as goal

pub returns-in-Ok-clause-kept : goal.returns-in-Ok-clause-kept
returns-in-Ok-clause-kept c held ears k =
    rotate_keeps c.args.kept.now c.rotate.new.self held ears c.args.rooms k c.requires.none
    (record { history = c.in-Ok.ensures.history; listeners = c.in-Ok.ensures.listeners; course = c.in-Ok.ensures.course }) c.in-Ok.ensures.room
