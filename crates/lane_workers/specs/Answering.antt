-- Pieces that were answered, one after the other.
use Rattle.std.specs.Prelude.{◌≡◌, List, [], ◌∷◌, Option, Some}
use Rattle.sink_turns.specs.declared.message.Message.{Message}

-- a piece, and the message that answered it
pub record Answered (T : Type 0) : Type 0 where
  pub piece : T
  pub message : Message

abbrev pub answered : {T : Type 0} → T → Message → Answered T
answered piece message = record { piece = piece; message = message }

module _ {T W : Type 0} (HasAnswered : W → T → Option Message → W → Type 0) where
  -- each was answered with the row that the one before it left
  abbrev pub AnswersAll : W → List (Answered T) → W → Type 0
  AnswersAll before [] after = after ≡ before
  AnswersAll before (a ∷ others) after = (then : W) × HasAnswered before a.piece (Some a.message) then × AnswersAll then others after
