-- Laws of the marks of a sink: each is on a function of `src/laws.rt`.
use Rattle.std.specs.Prelude.{◌≡◌, ◌++◌, true, List, []}
use Rattle.sink_turns.specs.declared.mark.Mark.{Mark}
use Rattle.sink_turns.specs.Marks.{bytes_of, messages}
use Rattle.sink_turns.specs.Text.{AreLawful, nothing, text}

-- nothing follows a fault
abbrev pub FaultsStay : Type 0
FaultsStay = (marks more : List Mark) → AreLawful nothing (marks ++ more) → (text marks).cut ≡ true → more ≡ []

-- what the sink took and what waits are the bytes of all messages, in order
abbrev pub MessagesAddUp : Type 0
MessagesAddUp = (marks : List Mark) → (text marks).sent ++ (text marks).waits ≡ bytes_of (messages marks)
