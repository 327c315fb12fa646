-- Bytes and their padding are read where they are spelled, and what is read is spelled so.
use Rattle.std.proofs.Common.{◌≡◌, ℕ, zero, suc, ◌+◌, ◌≤◌, ◌==◌, not, Bool, true, false, cond, ltb, List, [], ◌∷◌, ◌++◌, length, take, drop, replicate, Some, None, Ok, refl, sym, ap, subst, ◌∙◌, arith}
use Rattle.std.specs.List.{position_or_len}
use Rattle.std.specs.Option.{option_map}
use Rattle.std.proofs.lemmas.Bool.{eqb-true, ltb-false, le-ltb}
use Rattle.std.proofs.lemmas.List.{take_at, drop_at, take-append-drop, length-append, length-take, length-drop, length-replicate}
use Rattle.std.proofs.lemmas.List.Sums.{prefix_len-le-length}
use Rattle.wire_spec.specs.declared.fault.XdrFault.TheVariants.{Short, Pad}
use Rattle.wire_spec.specs.Xdr.{padding_length, padding}
use Rattle.wire_spec.specs.XdrAnswer.{Takes}
use Rattle.wire_spec.specs.XdrReading.{IsBytes, Left, behind, behind_padding, first_bytes, is_set, pad_fault}
use Rattle.wire_spec.proofs.Steps.{IsBytes-drop, guard_ok, unless_ok}
use Rattle.wire_spec.proofs.Items.{taken}

-- ---- bytes

pub bytes_found : (start n : ℕ) (l : Left) (x : List ℕ × Left) → IsBytes l.bytes → first_bytes start n l ≡ Ok x → (length x.0 ≡ n) × Takes l x.0 x.1 × IsBytes x.1.bytes × (padding_length n ≤ length x.1.bytes)
bytes_found start n l x fits e =
    let g = guard_ok (ltb (length l.bytes) (n + padding_length n)) (Short start) (take n l.bytes, behind n l) x e in
    let long : n + padding_length n ≤ length l.bytes = ltb-false _ _ g.0 in
    let len : length (take n l.bytes) ≡ n = omega (arith, length-take n l.bytes) in
    let made : (length (take n l.bytes) ≡ n) × Takes l (take n l.bytes) (behind n l) × IsBytes (drop n l.bytes) × (padding_length n ≤ length (drop n l.bytes)) = (
      len,
      record { parts = sym (take-append-drop n l.bytes); place = rw len refl },
      IsBytes-drop n l.bytes fits,
      omega (arith, length-drop n l.bytes),
    ) in
    subst (λ (y : List ℕ × Left). (length y.0 ≡ n) × Takes l y.0 y.1 × IsBytes y.1.bytes × (padding_length n ≤ length y.1.bytes)) g.1 made

pub bytes_again : (start n : ℕ) (l : Left) (v rest : List ℕ) → length v ≡ n → padding_length n ≤ length rest → l.bytes ≡ v ++ rest → first_bytes start n l ≡ Ok (taken l v v rest)
bytes_again start n l v rest len room e =
    let long : ltb (length (v ++ rest)) (n + padding_length n) ≡ false = le-ltb _ _ (omega (arith, length-append v rest)) in
    rw (e, long, take_at v rest n len, drop_at v rest n len, len) refl

-- ---- padding

zero_before : (b : ℕ) (bs : List ℕ) (v : Bool) → (b == 0) ≡ v → position_or_len is_set (b ∷ bs) ≡ suc (length bs) → (b ≡ 0) × (position_or_len is_set bs ≡ length bs)
zero_before b bs true t e =
    let more : 1 + position_or_len is_set bs ≡ suc (length bs) = rw t at e in
    (eqb-true b 0 t, omega (arith, more))
zero_before b bs false t e = let none : zero ≡ suc (length bs) = rw t at e in absurd cc

zeros_from : (bs : List ℕ) → position_or_len is_set bs ≡ length bs → bs ≡ replicate (length bs) 0
zeros_from [] e = refl
zeros_from (b ∷ bs) e =
    let h = zero_before b bs (b == 0) refl e in
    (λ i. h.0 i ∷ zeros_from bs h.1 i)

zeros_pass : (n : ℕ) → position_or_len is_set (replicate n 0) ≡ n
zeros_pass zero = refl
zeros_pass (suc n) = omega (arith, zeros_pass n)

no_place : (n len place : ℕ) (b : Bool) → ltb n len ≡ b → option_map (λ i. Pad (place + i)) (cond b (Some n) None) ≡ None → len ≤ n
no_place n len place true t e = absurd cc
no_place n len place false t e = ltb-false n len t

pad_none : (place : ℕ) (bytes : List ℕ) → pad_fault place bytes ≡ None → bytes ≡ replicate (length bytes) 0
pad_none place bytes e =
    let past : length bytes ≤ position_or_len is_set bytes = no_place (position_or_len is_set bytes) (length bytes) place (ltb (position_or_len is_set bytes) (length bytes)) refl e in
    zeros_from bytes (omega (arith, prefix_len-le-length (λ x. not (is_set x)) bytes))

zeros_none : (place n : ℕ) → pad_fault place (replicate n 0) ≡ None
zeros_none place n =
    let off : ltb (position_or_len is_set (replicate n 0)) (length (replicate {A = ℕ} n 0)) ≡ false = le-ltb _ _ (omega (arith, zeros_pass n, length-replicate {A = ℕ} n 0)) in
    rw off refl

pub padding_found : (n : ℕ) (l r : Left) → IsBytes l.bytes → padding_length n ≤ length l.bytes → behind_padding n l ≡ Ok r → Takes l (padding n) r × IsBytes r.bytes
padding_found n l r fits room e =
    let k : ℕ = padding_length n in
    let u = unless_ok (pad_fault l.place (take (padding_length n) l.bytes)) (behind (padding_length n) l) r e in
    let len : length (take (padding_length n) l.bytes) ≡ padding_length n = omega (arith, length-take (padding_length n) l.bytes) in
    let zero : take (padding_length n) l.bytes ≡ padding n = pad_none l.place (take (padding_length n) l.bytes) u.0 ∙ ap (λ (m : ℕ). replicate m 0) len in
    let parts : l.bytes ≡ padding n ++ drop (padding_length n) l.bytes = sym (take-append-drop (padding_length n) l.bytes) ∙ ap (λ (t : List ℕ). t ++ drop (padding_length n) l.bytes) zero in
    let made : Takes l (padding n) (behind (padding_length n) l) × IsBytes (drop (padding_length n) l.bytes) = (
      record { parts = parts; place = rw (length-replicate {A = ℕ} (padding_length n) 0) refl },
      IsBytes-drop (padding_length n) l.bytes fits,
    ) in
    subst (λ (y : Left). Takes l (padding n) y × IsBytes y.bytes) u.1 made

pub padding_again : (n : ℕ) (l : Left) (rest : List ℕ) → l.bytes ≡ padding n ++ rest → behind_padding n l ≡ Ok (record { place = l.place + padding_length n; bytes = rest })
padding_again n l rest e =
    let len : length (padding n) ≡ padding_length n = length-replicate {A = ℕ} (padding_length n) 0 in
    rw (e, take_at (padding n) rest (padding_length n) len, drop_at (padding n) rest (padding_length n) len, zeros_none l.place (padding_length n)) refl
