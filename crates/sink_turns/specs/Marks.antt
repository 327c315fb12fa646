-- The marks of a sink that threads share, and the messages among them.
use Rattle.std.specs.Prelude.{ℕ, List, [], ◌∷◌, map}
use Rattle.std.specs.List.{flat_map}
use Rattle.sink_turns.specs.declared.mark.Deed.{Deed}
use Rattle.sink_turns.specs.declared.mark.Deed.TheVariants.{Said, Put, Cut}
use Rattle.sink_turns.specs.declared.mark.Mark.{Mark}
use Rattle.sink_turns.specs.declared.message.Message.{Message}

-- a change in the turn of the pass of this number
abbrev pub mark : ℕ → Deed → Mark
mark by deed = record { by = by; deed = deed }

abbrev pub marks_by : ℕ → List Deed → List Mark
marks_by by deeds = map (mark by) deeds

-- the message that was said, where one was
abbrev pub said : Deed → List Message
said (Said message) = message ∷ []
said Put = []
said (Cut count) = []

-- the messages that were said, in order
abbrev pub messages : List Mark → List Message
messages marks = flat_map (λ m. said m.deed) marks

-- their bytes, one after the other
abbrev pub bytes_of : List Message → List ℕ
bytes_of all = flat_map (λ m. m.bytes) all
