-- A front without a fault, with all its bytes there, is a packet.
use Rattle.std.proofs.Common.{◌≡◌, ◌==◌, ℕ, ◌+◌, ◌-◌, ◌≤◌, Bool, true, false, cond, ltb, ◌||◌, ◌&&◌, List, ◌++◌, length, drop, Option, Some, None, refl, sym, arith, append_assoc}
use Rattle.std.proofs.lemmas.Bool.{ltb-false}
use Rattle.std.proofs.lemmas.Bool.Decides.{nat_tests}
use Rattle.std.proofs.lemmas.List.{length-take, length-drop}
use Rattle.std.proofs.lemmas.List.Folds.{drop_split}
use Rattle.std.specs.List.{slice_range}
use Rattle.wire_spec.specs.Packets.{word_at, spelling, fault, length_fault, kind_fault, status_fault, IsHeader, IsPacket}
use Rattle.wire_spec.specs.declared.message.Header.{Header}
use Rattle.packet.specs.Front.{header_at}
use Rattle.packet.proofs.Words.{IsBytes, piece, word_below}

-- a test that chose no fault
pub chosen : {A : Type 0} (b : Bool) (x : A) (o : Option A) → cond b (Some x) o ≡ None → (b ≡ false) × (o ≡ None)
chosen true x o e = absurd cc
chosen false x o e = (refl, e)

pub passed : {A : Type 0} (b : Bool) (o : Option A) → b ≡ false → cond b None o ≡ None → o ≡ None
passed b o e h = rw e at h

pub status_low : (kind status : ℕ) → (ltb 2 status || ((kind == 0) && ltb 0 status)) ≡ false → status ≤ 2
status_low kind status h = grind (arith, nat_tests)

pub call_low : (kind status : ℕ) → kind ≡ 0 → (ltb 2 status || ((kind == 0) && ltb 0 status)) ≡ false → status ≡ 0
call_low kind status is h = grind (arith, nat_tests)

pub length_low : (bytes : List ℕ) (l : ℕ) → length_fault bytes l ≡ None → 28 ≤ l
length_low bytes l e = let a = chosen _ _ _ e in ltb-false _ _ a.0

pub IsHeader-at : (bytes : List ℕ) → IsBytes bytes → 28 ≤ length bytes → (l : ℕ) → length_fault bytes l ≡ None → (28 ≤ l) × (l ≤ 4194304) × IsHeader (header_at bytes)
IsHeader-at bytes fits long l e =
    let a = chosen _ _ _ e in
    let b = chosen _ _ _ a.1 in
    let c : kind_fault bytes (word_at 16 bytes) ≡ None = passed _ _ (grind (arith, nat_tests)) b.1 in
    let d = chosen _ _ _ c in
    let f : status_fault (word_at 16 bytes) (word_at 24 bytes) ≡ None = passed _ _ (grind (arith, nat_tests)) d.1 in
    let g = chosen _ _ _ f in (
      ltb-false _ _ a.0,
      ltb-false _ _ b.0,
      record {
        prog = word_below 4 bytes fits;
        vers = word_below 8 bytes fits;
        procedure = word_below 12 bytes fits;
        serial = word_below 20 bytes fits;
        allowed = record {
          kind = ltb-false _ _ d.0;
          status = status_low (word_at 16 bytes) (word_at 24 bytes) g.0;
          call = λ is. call_low (word_at 16 bytes) (word_at 24 bytes) is g.0;
        };
      },
    )

pub spelled : (bytes payload : List ℕ) (n : ℕ) → IsBytes bytes → 28 ≤ n → n ≤ length bytes → n ≡ word_at 0 bytes → payload ≡ slice_range bytes 28 n
    → bytes ≡ spelling record { header = header_at bytes; payload = payload } ++ drop n bytes
spelled bytes payload n fits low le is e =
    let tail : payload ++ drop n bytes ≡ drop 28 bytes = rw e (sym (drop_split bytes 28 n low)) in
    let size : length payload ≡ n - 28 = rw e (omega (arith, length-take (n - 28) (drop 28 bytes), length-drop 28 bytes)) in
    let len : 28 + length payload ≡ word_at 0 bytes = omega (arith, size, is) in
    let p0 = piece bytes 0 4 refl (omega arith) fits in
    let p4 = piece bytes 4 8 refl (omega arith) fits in
    let p8 = piece bytes 8 12 refl (omega arith) fits in
    let p12 = piece bytes 12 16 refl (omega arith) fits in
    let p16 = piece bytes 16 20 refl (omega arith) fits in
    let p20 = piece bytes 20 24 refl (omega arith) fits in
    let p24 = piece bytes 24 28 refl (omega arith) fits in
    simp append_assoc (rw (tail, p24, p20, p16, p12, p8, p4, len, p0) refl)

pub a_packet : (bytes payload : List ℕ) (n : ℕ) (h : Header) → IsBytes bytes → fault bytes ≡ None → 4 ≤ length bytes → n ≡ word_at 0 bytes → n ≤ length bytes → h ≡ header_at bytes → payload ≡ slice_range bytes 28 n
    → IsPacket record { header = h; payload = payload } × (bytes ≡ spelling record { header = h; payload = payload } ++ drop n bytes)
a_packet bytes payload n h fits sound four is le e p =
    let a : length_fault bytes (word_at 0 bytes) ≡ None = passed _ _ (grind (arith, nat_tests)) sound in
    let size : length payload ≡ n - 28 = rw p (omega (arith, length-take (n - 28) (drop 28 bytes), length-drop 28 bytes)) in
    let low : 28 ≤ word_at 0 bytes = length_low bytes (word_at 0 bytes) a in
    let b = IsHeader-at bytes fits (omega arith) (word_at 0 bytes) a in
    rw e (record { header = b.2; length = omega (arith, b.1) }, spelled bytes payload n fits (omega arith) le is p)
