-- A fault stays whatever follows, and no packet begins with it.
use Rattle.std.proofs.Common.{◌≡◌, ℕ, ◌+◌, ◌≤◌, Bool, true, false, cond, ltb, List, ◌++◌, length, take, drop, Option, Some, None, refl, sym, ap, ◌∙◌, arith}
use Rattle.std.proofs.lemmas.Bool.{ltb-false}
use Rattle.std.proofs.lemmas.List.{length-append, length-drop, take-append-le, drop-append-le}
use Rattle.std.specs.Int.{w32, from_be_bytes}
use Rattle.wire_spec.specs.Packets.{word_at, spelling, fault, length_fault, kind_fault, status_fault, IsPacket}
use Rattle.wire_spec.specs.declared.fault.BadPacket.{BadPacket}
use Rattle.wire_spec.specs.declared.fault.BadPacket.TheVariants.{Kind, LengthHigh, LengthLow}
use Rattle.wire_spec.specs.declared.message.Packet.{Packet}
use Rattle.packet.proofs.Unique.{off, not_below, sound_front}

-- a word does not change by what follows it
pub word_stays : (i : ℕ) (bytes more : List ℕ) → i + 4 ≤ length bytes → word_at i (bytes ++ more) ≡ word_at i bytes
word_stays i bytes more le =
    let behind : drop i (bytes ++ more) ≡ drop i bytes ++ more = drop-append-le i bytes more (omega arith) in
    let four : take 4 (drop i bytes ++ more) ≡ take 4 (drop i bytes) = take-append-le 4 (drop i bytes) more (omega (arith, length-drop i bytes)) in
    ap (λ (b : List ℕ). from_be_bytes w32 (take 4 b)) behind ∙ ap (λ (b : List ℕ). from_be_bytes w32 b) four

-- a test that had to fail before a fault was found
pub waited : (b : Bool) (o : Option BadPacket) (bad : BadPacket) → cond b None o ≡ Some bad → (b ≡ false) × (o ≡ Some bad)
waited true o bad e = absurd cc
waited false o bad e = (refl, e)

-- the faults after a test may change, if they stay where it fails
pub behind_test : (b : Bool) (x y z : Option BadPacket) (bad : BadPacket) → cond b x y ≡ Some bad → (y ≡ Some bad → z ≡ Some bad) → cond b x z ≡ Some bad
behind_test true x y z bad e f = e
behind_test false x y z bad e f = f e

abbrev behind_kind : List ℕ → ℕ → Option BadPacket
behind_kind bytes kind = cond (ltb (length bytes) 28) None (status_fault kind (word_at 24 bytes))

pub kind_stays : (bytes more : List ℕ) (kind : ℕ) (bad : BadPacket) → kind_fault bytes kind ≡ Some bad → kind_fault (bytes ++ more) kind ≡ Some bad
kind_stays bytes more kind bad e = behind_test (ltb 2 kind) (Some (Kind kind)) (behind_kind bytes kind) (behind_kind (bytes ++ more) kind) bad e (λ (f : behind_kind bytes kind ≡ Some bad).
    let w = waited _ _ bad f in
    let long : 28 ≤ length bytes = ltb-false _ _ w.0 in
    off _ _ _ (not_below (length (bytes ++ more)) 28 (omega (arith, length-append bytes more))) ∙ (ap (status_fault kind) (word_stays 24 bytes more (omega arith)) ∙ w.1))

abbrev behind_length : List ℕ → Option BadPacket
behind_length bytes = cond (ltb (length bytes) 20) None (kind_fault bytes (word_at 16 bytes))

abbrev behind_low : List ℕ → ℕ → Option BadPacket
behind_low bytes l = cond (ltb 4194304 l) (Some (LengthHigh l)) (behind_length bytes)

pub length_stays : (bytes more : List ℕ) (l : ℕ) (bad : BadPacket) → length_fault bytes l ≡ Some bad → length_fault (bytes ++ more) l ≡ Some bad
length_stays bytes more l bad e = behind_test (ltb l 28) (Some (LengthLow l)) (behind_low bytes l) (behind_low (bytes ++ more) l) bad e (λ (f : behind_low bytes l ≡ Some bad). behind_test (ltb 4194304 l) (Some (LengthHigh l)) (behind_length bytes) (behind_length (bytes ++ more)) bad f (λ (g : behind_length bytes ≡ Some bad).
    let w = waited _ _ bad g in
    let long : 20 ≤ length bytes = ltb-false _ _ w.0 in
    off _ _ _ (not_below (length (bytes ++ more)) 20 (omega (arith, length-append bytes more))) ∙ (ap (kind_fault (bytes ++ more)) (word_stays 16 bytes more (omega arith)) ∙ kind_stays bytes more (word_at 16 bytes) bad w.1)))

pub fault_stays : (bytes more : List ℕ) (bad : BadPacket) → fault bytes ≡ Some bad → fault (bytes ++ more) ≡ Some bad
fault_stays bytes more bad e =
    let w = waited _ _ bad e in
    let long : 4 ≤ length bytes = ltb-false _ _ w.0 in
    off _ _ _ (not_below (length (bytes ++ more)) 4 (omega (arith, length-append bytes more))) ∙ (ap (length_fault (bytes ++ more)) (word_stays 0 bytes more (omega arith)) ∙ length_stays bytes more (word_at 0 bytes) bad w.1)

pub no_such_packet : (bytes more tail : List ℕ) (bad : BadPacket) (p : Packet) → fault bytes ≡ Some bad → IsPacket p → bytes ++ more ≡ spelling p ++ tail → ⊥
no_such_packet bytes more tail bad p f is e =
    let clash : Some bad ≡ None = sym (fault_stays bytes more bad f) ∙ (ap fault e ∙ sound_front p tail is) in
    absurd (cc)
