-- One more packet after those that are ready.
use Rattle.std.proofs.Common.{◌≡◌, ◌≤◌, ◌<◌, ◌+◌, ◌++◌, ℕ, List, [], ◌∷◌, length, drop, take, sym, ap, ◌∙◌, arith, append_assoc}
use Rattle.std.proofs.lemmas.Grind.{flat_map-append}
use Rattle.std.proofs.lemmas.List.{append-nil, drop-drop, length-drop}
use Rattle.std.proofs.Math.Seq.{take-append_seam}
use Rattle.std.specs.List.{flat_map, AllByRecursion}
use Rattle.wire_spec.specs.Packets.{spelling, IsPacket}
use Rattle.wire_spec.specs.Split.{stream}
use Rattle.wire_spec.specs.declared.message.Packet.{Packet}

pub one_more : (packets : List Packet) (packet : Packet) (bytes left : List ℕ) → bytes ≡ spelling packet ++ left → stream packets bytes ≡ stream (packets ++ packet ∷ []) left
one_more packets packet bytes left e =
    let f : flat_map spelling (packets ++ packet ∷ []) ≡ flat_map spelling packets ++ flat_map spelling (packet ∷ []) = flat_map-append spelling packets (packet ∷ []) in
    let g : flat_map spelling (packet ∷ []) ≡ spelling packet = append-nil (spelling packet) in
    rw (f, g, e) (sym (append_assoc (flat_map spelling packets) (spelling packet) left))

pub each-one_more : (packets : List Packet) (packet : Packet) → AllByRecursion IsPacket packets → IsPacket packet → AllByRecursion IsPacket (packets ++ packet ∷ [])
each-one_more [] packet h p = (p, tt)
each-one_more (x ∷ xs) packet h p = (h.0, each-one_more xs packet h.1 p)

-- some packets of the bytes, up to a place, come after those that were ready
pub record Decoding (ready : List Packet) (bytes : List ℕ) (now : List Packet) (used : ℕ) : Type 0 where
  pub more : List Packet
  pub behind : now ≡ ready ++ more
  pub within : used ≤ length bytes
  pub whole : stream now (drop used bytes) ≡ stream ready bytes
  pub each : AllByRecursion IsPacket ready → AllByRecursion IsPacket now

-- what the front of the bytes after that place was found to be
abbrev pub IsFront : Packet → ℕ → List ℕ → Type 0
IsFront packet size bytes = IsPacket packet × (size ≤ length bytes) × (0 < size) × (bytes ≡ spelling packet ++ drop size bytes)

pub decoding_more : (ready : List Packet) (bytes : List ℕ) (now after : List Packet) (used size : ℕ) (packet : Packet) → Decoding ready bytes now used → after ≡ now ++ packet ∷ [] → IsFront packet size (drop used bytes) → Decoding ready bytes after (used + size)
decoding_more ready bytes now after used size packet kept is found =
    let le : used + size ≤ length bytes = omega (arith, found.1, length-drop used bytes, kept.within) in
    let left : drop size (drop used bytes) ≡ drop (used + size) bytes = drop-drop size used bytes in
    let next : drop used bytes ≡ spelling packet ++ drop (used + size) bytes = rw (← left) found.3 in
    rw is (record {
      more = kept.more ++ packet ∷ [];
      behind = ap (λ (ps : List Packet). ps ++ packet ∷ []) kept.behind ∙ append_assoc ready kept.more (packet ∷ []);
      within = le;
      whole = sym (one_more now packet (drop used bytes) (drop (used + size) bytes) next) ∙ kept.whole;
      each = λ all. each-one_more now packet (kept.each all) found.0;
    })

-- without what was put after them, the packets are those that were ready
pub decoding_back : (ready : List Packet) (bytes : List ℕ) (now : List Packet) (used : ℕ) → Decoding ready bytes now used → take (length ready) now ≡ ready
decoding_back ready bytes now used kept = ap (λ (ps : List Packet). take (length ready) ps) kept.behind ∙ take-append_seam ready kept.more
