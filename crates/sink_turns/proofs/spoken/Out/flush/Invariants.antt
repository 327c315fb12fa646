use Rattle.sink_turns.specs.declared.mark.Deed.TheVariants.{Put, Cut}
use Rattle.sink_turns.specs.Marks.{mark}
use Rattle.sink_turns.proofs.spoken.Out.flush.Given as goal

abbrev pub ghost-note_put : goal.ghost-note_put
ghost-note_put g a = mark g.number Put

abbrev pub ghost-note_cut : goal.ghost-note_cut
ghost-note_cut g a = mark g.number (Cut a._count)
