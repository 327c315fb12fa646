-- What a pass knows after a turn at the book.
use Rattle.std.specs.Prelude.{◌≡◌, ◌⊎◌, [], ◌∷◌}
use Rattle.history_spec.specs.Chapter.{tagged}
use Rattle.turn_cell.specs.Passes.{Passed}
use Rattle.turn_cell.specs.Turning.{Went}
use Rattle.book_spec.specs.declared.book.NetAnswer.{NetAnswer}
use Rattle.book_spec.specs.declared.book.NetAnswer.TheVariants.{Refused}
use Rattle.book_spec.specs.declared.book.NetCall.{NetCall}
use Rattle.book_spec.specs.declared.book.NetMark.{NetMark}
use Rattle.book_spec.specs.Networks.{Networks}
use Rattle.book_spec.specs.NetCalls.{answer, no_memory}
use Rattle.net_core.specs.Keeping.{meaning}

abbrev pub NetPassed : Type 0
NetPassed = Passed Networks NetMark (Unit {0})

-- a pass, after a turn in which it called: these networks it found, and they say what it is answered; its mark is the one
-- that it left
pub record HasTurn (c : NetCall) (given : NetAnswer) (before after : NetPassed) : Type 0 where
  pub networks : Networks
  pub answered : given ≡ answer c networks
  pub went : Went meaning 1 (tagged after.seen.chapter (record { number = before.number; call = c; answer = given } ∷ [])) before after

-- or there was no memory, and it left none
abbrev pub HasAsked : NetCall → NetAnswer → NetPassed → NetPassed → Type 0
HasAsked c given before after = HasTurn c given before after ⊎ ((given ≡ Refused no_memory) × Went meaning 1 [] before after)
