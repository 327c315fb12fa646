use Rattle.sink_turns.proofs.Texts.{messages_add_up}
use Rattle.sink_turns.proofs.laws.messages_add_up.Goals as goal

pub returns : goal.returns
returns c = messages_add_up
