-- What a sink holds once no more is said, and what is known of the passes that said it.
use Rattle.std.specs.Prelude.{◌≡◌, ◌<◌, ◌≤◌, ℕ, List, [], ◌∷◌, length, take, Option, Result, Ok, Err}
use Rattle.std.specs.Io.KnownBytes.{Appends}
use Rattle.history_spec.specs.Begins.{IsPrefix}
use Rattle.history_spec.specs.Chapter.{in_chapter}
use Rattle.history_spec.specs.declared.history.Ended.{Ended}
use Rattle.outside_spec.specs.Faults.{Rose}
use Rattle.types_base.specs.declared.memory.Failed.{Failed}
use Rattle.turn_cell.specs.Known.{AreApart}
use Rattle.turn_cell.specs.Passes.{AreAmong}
use Rattle.sink_turns.specs.declared.mark.Mark.{Mark}
use Rattle.sink_turns.specs.declared.mark.Start.{Start}
use Rattle.sink_turns.specs.Keeping.{OutPass, meaning, own_marks}
use Rattle.sink_turns.specs.Marks.{bytes_of, messages}
use Rattle.sink_turns.specs.Saying.{Spoken}
use Rattle.sink_turns.specs.Text.{AreLawful, nothing}

-- all messages were put whole and in order; or the sink failed, and a front of them was, and not all
abbrev pub Wrote : List Mark → Start → Option (List ℕ) → ℕ → Result (Unit {0}) Failed → Type 0
Wrote marks start held faults (Ok _) = Appends start.held held (bytes_of (messages marks))
Wrote marks start held faults (Err _) = Rose start.faults faults × ((count : ℕ) × (count < length (bytes_of (messages marks))) × Appends start.held held (take count (bytes_of (messages marks))))

pub record Ends (o : Spoken) (held : Option (List ℕ)) (faults : ℕ) (result : Result (Unit {0}) Failed) : Type 0 where
  pub lawful : AreLawful nothing o.marks
  pub later : o.start.faults ≤ faults
  pub wrote : Wrote o.marks o.start held faults result

-- the marks that a pass kept are its own in the whole history
abbrev pub HasOwn : List Mark → ℕ → List (ℕ × Mark) → Type 0
HasOwn marks number mine = own_marks number marks ≡ in_chapter 0 mine

abbrev pub HaveOwn : List Mark → List (Ended Mark) → Type 0
HaveOwn marks [] = Unit {0}
HaveOwn marks (e ∷ es) = HasOwn marks e.number e.mine × HaveOwn marks es

-- the last pass, which all others were joined into, closes the cell: what it saw begins the whole history, each mark there
-- bears the number of one of the passes, those of each number are that pass's own in order, and the sink holds just what
-- was said
pub record HasClosed (pass : OutPass) (held : Option (List ℕ)) (faults : ℕ) (result : Result (Unit {0}) Failed) : Type 0 where
  pub marks : List Mark
  pub lawful : AreLawful nothing marks
  pub seen : IsPrefix pass.seen.marks marks
  pub own : HasOwn marks pass.number pass.mine
  pub ended : HaveOwn marks pass.ended
  pub apart : AreApart pass.number pass.ended
  pub among : AreAmong meaning pass.number pass.ended marks
  pub later : pass.seen.base.faults ≤ faults
  pub wrote : Wrote marks pass.seen.base held faults result
