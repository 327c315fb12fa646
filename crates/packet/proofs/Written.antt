-- What was written after its header is the packet, once its length word is there.
use Rattle.std.proofs.Common.{◌≡◌, ◌+◌, ◌≤◌, ℕ, List, ◌++◌, length, drop, Result, Ok, Err, refl, sym, ap, ◌∙◌, append_assoc, arith}
use Rattle.std.specs.Prelude.{IfErr, IfOk, OnOk}
use Rattle.types_base.specs.declared.memory.OrNoMemory.{OrNoMemory}
use Rattle.types_base.specs.declared.memory.OrNoMemory.TheVariants.{Fault, NoMemory}
use Rattle.wire_spec.specs.Packets.{HasKind, IsPacket, header, spelling}
use Rattle.wire_spec.specs.Xdr.{word}
use Rattle.wire_spec.specs.declared.message.Header.{Header}
use Rattle.wire_spec.specs.declared.message.TheConstants.{HEADER_LENGTH, MOST_BYTES}
use Rattle.packet.specs.Writing.{Frames, HasWords, IsRefused, IsTooBig, packet_with}
use Rattle.packet.specs.declared.write.WriteFault.{WriteFault}
use Rattle.packet.specs.declared.write.WriteFault.TheVariants.{TooBig}

after_length : (h : Header) (payload : List ℕ) → drop 4 ((word 0 ++ header h) ++ payload) ≡ header h ++ payload
unfolding word
after_length h payload = refl

whole_length : (h : Header) (payload : List ℕ) → length ((word 0 ++ header h) ++ payload) ≡ HEADER_LENGTH + length payload
unfolding word
whole_length h payload = omega arith

pub long_enough : (h : Header) (payload written : List ℕ) → written ≡ (word 0 ++ header h) ++ payload → HEADER_LENGTH ≤ length written
long_enough h payload written e = rw e (omega (arith, whole_length h payload))

pub packet_bytes : (h : Header) (payload written : List ℕ) (result : Result (List ℕ) (OrNoMemory WriteFault)) → written ≡ (word 0 ++ header h) ++ payload → Frames written result → IfOk result (λ bytes. bytes ≡ spelling (packet_with h payload))
packet_bytes h payload written (Ok bytes) e frames =
    let size : length written ≡ HEADER_LENGTH + length payload = ap length e ∙ whole_length h payload in
    let rest : drop 4 written ≡ header h ++ payload = ap (drop 4) e ∙ after_length h payload in
    frames.0 ∙ (λ i. word (size i) ++ rest i) ∙ sym (append_assoc (word (HEADER_LENGTH + length payload)) (header h) payload)
packet_bytes h payload written (Err f) e frames = tt

pub is_packet : (h : Header) (payload written : List ℕ) (result : Result (List ℕ) (OrNoMemory WriteFault)) → HasWords h → HasKind h → written ≡ (word 0 ++ header h) ++ payload → Frames written result → OnOk result (IsPacket (packet_with h payload))
is_packet h payload written (Ok bytes) words kind e frames = record {
  header = record { prog = words.prog; vers = words.vers; procedure = words.procedure; serial = words.serial; allowed = kind };
  length = omega (arith, frames.1, ap length e, whole_length h payload);
}
is_packet h payload written (Err f) words kind e frames = tt

pub too_big : (h : Header) (payload written : List ℕ) (result : Result (List ℕ) (OrNoMemory WriteFault)) → written ≡ (word 0 ++ header h) ++ payload → Frames written result → IfErr result (IsTooBig (HEADER_LENGTH + length payload))
too_big h payload written (Ok bytes) e frames = tt
too_big h payload written (Err (Fault (TooBig l))) e frames =
    let size : length written ≡ HEADER_LENGTH + length payload = ap length e ∙ whole_length h payload in
    (frames.0 ∙ size, omega (arith, size, frames.1))
too_big h payload written (Err NoMemory) e frames = tt

-- a packet that is not too long is refused only where there is no memory
pub refused : (n : ℕ) (result : Result (List ℕ) (OrNoMemory WriteFault)) → n ≤ MOST_BYTES → IfErr result (IsTooBig n) → IfErr result (IsRefused n)
refused n (Ok bytes) short big = tt
refused n (Err (Fault (TooBig l))) short big = big
refused n (Err NoMemory) short big = short
