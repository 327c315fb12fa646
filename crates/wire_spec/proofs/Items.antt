-- Each item is read where it is spelled, and what is read is spelled so.
use Rattle.std.proofs.Common.{◌≡◌, ℕ, ◌+◌, ◌^◌, ◌<◌, ◌≤◌, false, cond, ltb, List, ◌++◌, length, take, drop, Result, Ok, Err, refl, sym, subst, arith}
use Rattle.std.specs.Int.{Width, w32, w64, byte_len, from_be_bytes, to_be_bytes}
use Rattle.std.proofs.lemmas.Bool.{ltb-false, le-ltb}
use Rattle.std.proofs.lemmas.List.{take_at, drop_at, take-append-drop, length-append, length-take}
use Rattle.std.proofs.lemmas.Nat.{be_bytes_4, be_bytes_8, from_be_bytes-to_be_bytes_4, from_be_bytes-to_be_bytes_8}
use Rattle.wire_spec.specs.declared.fault.XdrFault.{XdrFault}
use Rattle.wire_spec.specs.declared.fault.XdrFault.TheVariants.{Short}
use Rattle.wire_spec.specs.Xdr.{word, double_word, IsWord, IsDoubleWord}
use Rattle.wire_spec.specs.XdrAnswer.{Takes}
use Rattle.wire_spec.specs.XdrReading.{IsBytes, Left, behind, first_word, first_double_word}
use Rattle.wire_spec.proofs.Steps.{IsBytes-drop, IsBytes-take, guard_ok}

-- the front of what is left is read as this value, whatever follows
abbrev pub taken : {A : Type 0} → Left → A → List ℕ → List ℕ → A × Left
taken l v item rest = (v, record { place = l.place + length item; bytes = rest })

-- what is read is a value and is spelled so, and what is spelled so is read
pub record IsItem {A : Type 0} (IsValue : A → Type 0) (spelled : A → List ℕ) (first : Left → Result (A × Left) XdrFault) : Type 0 where
  pub found : (l : Left) (x : A × Left) → IsBytes l.bytes → first l ≡ Ok x → IsValue x.0 × Takes l (spelled x.0) x.1 × IsBytes x.1.bytes
  pub again : (l : Left) (v : A) (rest : List ℕ) → IsValue v → l.bytes ≡ spelled v ++ rest → first l ≡ Ok (taken l v (spelled v) rest)

-- ---- numbers

record IsWide (w : Width) (limit : ℕ) : Type 0 where
  pub len : (n : ℕ) → length (to_be_bytes w n) ≡ byte_len w
  pub back : (bytes : List ℕ) → length bytes ≡ byte_len w → IsBytes bytes → to_be_bytes w (from_be_bytes w bytes) ≡ bytes
  pub again : (n : ℕ) → n < limit → from_be_bytes w (to_be_bytes w n) ≡ n
  pub below : (bytes : List ℕ) → IsBytes bytes → from_be_bytes w bytes < limit

wide32 : IsWide w32 (2 ^ 32)
wide32 = record {
  len = λ n. refl;
  back = λ bytes len fits. be_bytes_4 bytes _ len fits refl;
  again = λ n lt. from_be_bytes-to_be_bytes_4 n lt;
  below = λ bytes fits. omega (arith, fits 0, fits 1, fits 2, fits 3);
}

wide64 : IsWide w64 (2 ^ 64)
wide64 = record {
  len = λ n. refl;
  back = λ bytes len fits. be_bytes_8 bytes _ len fits refl;
  again = λ n lt. from_be_bytes-to_be_bytes_8 n lt;
  below = λ bytes fits. omega (arith, fits 0, fits 1, fits 2, fits 3, fits 4, fits 5, fits 6, fits 7);
}

abbrev first_number : Width → Left → Result (ℕ × Left) XdrFault
first_number w l = cond (ltb (length l.bytes) (byte_len w)) (Err (Short l.place)) (Ok (from_be_bytes w (take (byte_len w) l.bytes), behind (byte_len w) l))

number_found : (w : Width) (limit : ℕ) → IsWide w limit → (l : Left) (x : ℕ × Left) → IsBytes l.bytes → first_number w l ≡ Ok x → (x.0 < limit) × Takes l (to_be_bytes w x.0) x.1 × IsBytes x.1.bytes
number_found w limit wide l x fits e =
    let k : ℕ = byte_len w in
    let front : List ℕ = take (byte_len w) l.bytes in
    let g = guard_ok (ltb (length l.bytes) (byte_len w)) (Short l.place) (from_be_bytes w front, behind (byte_len w) l) x e in
    let long : byte_len w ≤ length l.bytes = ltb-false _ _ g.0 in
    let fit : IsBytes front = IsBytes-take (byte_len w) l.bytes fits in
    let len : length front ≡ byte_len w = omega (arith, length-take (byte_len w) l.bytes) in
    let back : to_be_bytes w (from_be_bytes w front) ≡ front = wide.back front len fit in
    let made : (from_be_bytes w front < limit) × Takes l (to_be_bytes w (from_be_bytes w front)) (behind (byte_len w) l) × IsBytes (drop (byte_len w) l.bytes) = (
      wide.below front fit,
      record { parts = rw back (sym (take-append-drop (byte_len w) l.bytes)); place = rw (back, len) refl },
      IsBytes-drop (byte_len w) l.bytes fits,
    ) in
    subst (λ (y : ℕ × Left). (y.0 < limit) × Takes l (to_be_bytes w y.0) y.1 × IsBytes y.1.bytes) g.1 made

number_again : (w : Width) (limit : ℕ) → IsWide w limit → (l : Left) (n : ℕ) (rest : List ℕ) → n < limit → l.bytes ≡ to_be_bytes w n ++ rest → first_number w l ≡ Ok (taken l n (to_be_bytes w n) rest)
number_again w limit wide l n rest lt e =
    let len = wide.len n in
    let long : ltb (length (to_be_bytes w n ++ rest)) (byte_len w) ≡ false = le-ltb _ _ (omega (arith, length-append (to_be_bytes w n) rest)) in
    rw (e, long, take_at (to_be_bytes w n) rest (byte_len w) len, drop_at (to_be_bytes w n) rest (byte_len w) len, wide.again n lt, len) refl

pub IsItem-word : IsItem IsWord word first_word
unfolding word first_word
IsItem-word = record { found = number_found w32 (2 ^ 32) wide32; again = number_again w32 (2 ^ 32) wide32 }

pub IsItem-double_word : IsItem IsDoubleWord double_word first_double_word
unfolding double_word first_double_word
IsItem-double_word = record { found = number_found w64 (2 ^ 64) wide64; again = number_again w64 (2 ^ 64) wide64 }
