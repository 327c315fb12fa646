-- The packet that is written, and when none is.
use Rattle.std.specs.Prelude.{◌≡◌, ◌<◌, ◌≤◌, ◌^◌, ℕ, List, ◌++◌, length, drop, Result, Ok, Err}
use Rattle.types_base.specs.declared.memory.OrNoMemory.{OrNoMemory}
use Rattle.types_base.specs.declared.memory.OrNoMemory.TheVariants.{Fault, NoMemory}
use Rattle.wire_spec.specs.Xdr.{word}
use Rattle.wire_spec.specs.declared.message.Header.{Header}
use Rattle.wire_spec.specs.declared.message.Packet.{Packet}
use Rattle.wire_spec.specs.declared.message.TheConstants.{MOST_BYTES}
use Rattle.packet.specs.declared.write.WriteFault.{WriteFault}
use Rattle.packet.specs.declared.write.WriteFault.TheVariants.{TooBig}

abbrev pub packet_with : Header → List ℕ → Packet
packet_with header payload = record { header = header; payload = payload }

-- words that fit
pub record HasWords (h : Header) : Type 0 where
  pub prog : h.prog < 2 ^ 32
  pub vers : h.vers < 2 ^ 32
  pub procedure : h.procedure < 2 ^ 32
  pub serial : h.serial < 2 ^ 32

-- the length word is in place of the first word of what was written, or all is too long
abbrev pub Frames : List ℕ → Result (List ℕ) (OrNoMemory WriteFault) → Type 0
Frames written (Ok bytes) = (bytes ≡ word (length written) ++ drop 4 written) × (length written ≤ MOST_BYTES)
Frames written (Err (Fault (TooBig l))) = (l ≡ length written) × (MOST_BYTES < length written)
Frames written (Err NoMemory) = ⊥

-- why a packet of this length is not written: it is too long, or it is not and there was no memory
abbrev pub IsRefused : ℕ → OrNoMemory WriteFault → Type 0
IsRefused length (Fault (TooBig l)) = (l ≡ length) × (MOST_BYTES < length)
IsRefused length NoMemory = length ≤ MOST_BYTES

-- why a packet whose payload is written piece by piece is not: it is too long, or there was no memory
abbrev pub IsTooBig : ℕ → OrNoMemory WriteFault → Type 0
IsTooBig length (Fault (TooBig l)) = (l ≡ length) × (MOST_BYTES < length)
IsTooBig length NoMemory = Unit {0}
