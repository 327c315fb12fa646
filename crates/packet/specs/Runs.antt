-- Runs of a feed: any pieces, with packets taken out at any time.
use Rattle.std.specs.Prelude.{◌≡◌, ℕ, List, [], ◌∷◌, ◌++◌}
use Rattle.wire_spec.specs.declared.message.Packet.{Packet}
use Rattle.packet.specs.Feeding.{Grows, Held, IsSplit}

-- a piece that was taken, or a packet that was given
pub data Step : Type 0 where
  Fed : List ℕ → Step
  Given : Packet → Step

-- each step does what `feed` and `next` say that they do
abbrev pub Run : List Step → Held → Held → Type 0
Run [] old new = new ≡ old
Run (Fed piece ∷ steps) old new = (held : Held) × Grows old piece held × IsSplit held × Run steps held new
Run (Given packet ∷ steps) old new = (held : Held) × (old.ready ≡ packet ∷ held.ready) × (held.rest ≡ old.rest) × Run steps held new

abbrev pub bytes_fed : List Step → List ℕ
bytes_fed [] = []
bytes_fed (Fed piece ∷ steps) = piece ++ bytes_fed steps
bytes_fed (Given packet ∷ steps) = bytes_fed steps

abbrev pub packets_given : List Step → List Packet
packets_given [] = []
packets_given (Fed piece ∷ steps) = packets_given steps
packets_given (Given packet ∷ steps) = packet ∷ packets_given steps
