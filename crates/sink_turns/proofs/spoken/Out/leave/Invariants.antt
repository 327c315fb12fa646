use Rattle.sink_turns.specs.declared.mark.Deed.TheVariants.{Said}
use Rattle.sink_turns.specs.Marks.{mark}
use Rattle.sink_turns.proofs.spoken.Out.leave.Given as goal

abbrev pub ghost-note_said : goal.ghost-note_said
ghost-note_said g a = mark g.number (Said a._message.now)
