-- Opaque data and strings are read where they are spelled, and what is read is spelled so.
use Rattle.std.proofs.Common.{◌≡◌, ℕ, ◌+◌, ◌^◌, ◌<◌, ◌≤◌, Bool, true, false, cond, ltb, List, ◌++◌, length, Some, None, Result, Ok, Err, refl, sym, ap, subst, ◌∙◌, append_assoc, add_assoc, arith}
use Rattle.std.specs.Str.{IsUtf8, is_utf8}
use Rattle.std.specs.Str.Lossy.{utf8_valid_len}
use Rattle.std.proofs.lemmas.Bool.{ltb-false, le-ltb}
use Rattle.std.proofs.lemmas.List.{length-append, length-replicate}
use Rattle.std.proofs.lemmas.Str.{IsUtf8-from_is_utf8, is_utf8-from_IsUtf8}
use Rattle.wire_spec.specs.declared.fault.XdrFault.{XdrFault}
use Rattle.wire_spec.specs.declared.fault.XdrFault.TheVariants.{TooLong, Text}
use Rattle.wire_spec.specs.Xdr.{word, padding_length, padding, fixed, opaque, IsString}
use Rattle.wire_spec.specs.XdrAnswer.{Takes}
use Rattle.wire_spec.specs.XdrReading.{IsBytes, Left, ◌>>=◌, unless, behind_padding, first_bytes, first_fixed, first_length, first_opaque, first_string, first_word, text_fault}
use Rattle.wire_spec.proofs.Bytes.{bytes_again, bytes_found, padding_again, padding_found}
use Rattle.wire_spec.proofs.Items.{IsItem, IsItem-word, taken}
use Rattle.wire_spec.proofs.Steps.{Takes-then, bind_ok, guard_ok, ok_is, unless_ok}

-- ---- bytes and their padding

fixed_parts : (v rest : List ℕ) → fixed v ++ rest ≡ v ++ (padding (length v) ++ rest)
fixed_parts v rest = append_assoc v (padding (length v)) rest

room : (n : ℕ) (rest : List ℕ) → padding_length n ≤ length (padding n ++ rest)
room n rest = omega (arith, length-append (padding n) rest, length-replicate {A = ℕ} (padding_length n) 0)

abbrev padded : ℕ → ℕ → Left → Result (List ℕ × Left) XdrFault
padded start n l = first_bytes start n l >>= λ b. behind_padding n b.1 >>= λ r. Ok (b.0, r)

padded_found : (start n : ℕ) (l : Left) (x : List ℕ × Left) → IsBytes l.bytes → padded start n l ≡ Ok x → (length x.0 ≡ n) × Takes l (fixed x.0) x.1 × IsBytes x.1.bytes
padded_found start n l x fits e =
    let a = bind_ok (first_bytes start n l) (λ b. behind_padding n b.1 >>= λ r. Ok (b.0, r)) x e in
    let b = bind_ok (behind_padding n a.0.1) (λ r. Ok (a.0.0, r)) x a.2 in
    let f = bytes_found start n l a.0 fits a.1 in
    let p = padding_found n a.0.1 b.0 f.2 f.3 b.1 in
    let both : Takes l (a.0.0 ++ padding n) b.0 = Takes-then l a.0.1 b.0 a.0.0 (padding n) f.1 p.0 in
    let made : (length a.0.0 ≡ n) × Takes l (fixed a.0.0) b.0 × IsBytes b.0.bytes = (f.0, rw f.0 both, p.1) in
    let same : (a.0.0, b.0) ≡ x = ok_is (a.0.0, b.0) x b.2 in
    subst (λ (y : List ℕ × Left). (length y.0 ≡ n) × Takes l (fixed y.0) y.1 × IsBytes y.1.bytes) same made

padded_again : (start n : ℕ) (l : Left) (v rest : List ℕ) → length v ≡ n → l.bytes ≡ fixed v ++ rest → padded start n l ≡ Ok (taken l v (fixed v) rest)
padded_again start n l v rest len e =
    let first = bytes_again start n l v (padding n ++ rest) len (room n rest) (e ∙ fixed_parts v rest ∙ ap (λ (k : ℕ). v ++ (padding k ++ rest)) len) in
    let second = padding_again n (taken l v v (padding n ++ rest)).1 rest refl in
    let total : length (fixed v) ≡ length v + padding_length n = omega (arith, length-append v (padding (length v)), length-replicate {A = ℕ} (padding_length (length v)) 0, ap padding_length len) in
    rw (first, second, total, add_assoc) refl

pub IsItem-fixed : (n : ℕ) → IsItem (λ v. length v ≡ n) fixed (first_fixed n)
unfolding first_fixed
IsItem-fixed n = record {
  found = λ l x fits e. padded_found l.place n l x fits e;
  again = λ l v rest len e. padded_again l.place n l v rest len e;
}

-- ---- a length word

length_found : (most : ℕ) (l : Left) (x : ℕ × Left) → IsBytes l.bytes → first_length most l ≡ Ok x → (x.0 ≤ most) × (x.0 < 2 ^ 32) × Takes l (word x.0) x.1 × IsBytes x.1.bytes
unfolding first_length
length_found most l x fits e =
    let a = bind_ok (first_word l) (λ w. cond (ltb most w.0) (Err (TooLong l.place w.0)) (Ok w)) x e in
    let g = guard_ok (ltb most a.0.0) (TooLong l.place a.0.0) a.0 x a.2 in
    let f = IsItem-word.found l a.0 fits a.1 in
    let made : (a.0.0 ≤ most) × (a.0.0 < 2 ^ 32) × Takes l (word a.0.0) a.0.1 × IsBytes a.0.1.bytes = (ltb-false _ _ g.0, f.0, f.1, f.2) in
    subst (λ (y : ℕ × Left). (y.0 ≤ most) × (y.0 < 2 ^ 32) × Takes l (word y.0) y.1 × IsBytes y.1.bytes) g.1 made

length_again : (most : ℕ) (l : Left) (n : ℕ) (rest : List ℕ) → n ≤ most → n < 2 ^ 32 → l.bytes ≡ word n ++ rest → first_length most l ≡ Ok (taken l n (word n) rest)
unfolding first_length
length_again most l n rest le lt e =
    let off : ltb most n ≡ false = le-ltb most n le in
    rw (IsItem-word.again l n rest lt e, off) refl

-- ---- variable-length opaque data

opaque_found : (most : ℕ) (l : Left) (x : List ℕ × Left) → IsBytes l.bytes → first_opaque most l ≡ Ok x → (length x.0 ≤ most) × Takes l (opaque x.0) x.1 × IsBytes x.1.bytes
unfolding first_opaque
opaque_found most l x fits e =
    let a = bind_ok (first_length most l) (λ n. padded l.place n.0 n.1) x e in
    let n = length_found most l a.0 fits a.1 in
    let b = padded_found l.place a.0.0 a.0.1 x n.3 a.2 in
    let both : Takes l (word a.0.0 ++ fixed x.0) x.1 = Takes-then l a.0.1 x.1 (word a.0.0) (fixed x.0) n.2 b.1 in
    (rw b.0 n.0, subst (λ (k : ℕ). Takes l (word k ++ fixed x.0) x.1) (sym b.0) both, b.2)

opaque_parts : (v rest : List ℕ) → opaque v ++ rest ≡ word (length v) ++ (fixed v ++ rest)
opaque_parts v rest = append_assoc (word (length v)) (fixed v) rest

behind_both : (a b : List ℕ) (place : ℕ) → place + length a + length b ≡ place + length (a ++ b)
behind_both a b place = omega (arith, length-append a b)

opaque_again : (most : ℕ) (l : Left) (v rest : List ℕ) → most < 2 ^ 32 → length v ≤ most → l.bytes ≡ opaque v ++ rest → first_opaque most l ≡ Ok (taken l v (opaque v) rest)
unfolding first_opaque
opaque_again most l v rest small le e =
    let first = length_again most l (length v) (fixed v ++ rest) le (omega arith) (e ∙ opaque_parts v rest) in
    let second = padded_again l.place (length v) (taken l (length v) (word (length v)) (fixed v ++ rest)).1 v rest refl refl in
    rw (first, second, behind_both (word (length v)) (fixed v) l.place) refl

pub IsItem-opaque : (most : ℕ) → most < 2 ^ 32 → IsItem (λ v. length v ≤ most) opaque (first_opaque most)
IsItem-opaque most small = record {
  found = opaque_found most;
  again = λ l v rest le e. opaque_again most l v rest small le e;
}

-- ---- a string

text_none : (place : ℕ) (bytes : List ℕ) (b : Bool) → is_utf8 bytes ≡ b → cond b None (Some (Text (place + utf8_valid_len bytes))) ≡ None → is_utf8 bytes ≡ true
text_none place bytes true t e = t
text_none place bytes false t e = absurd cc

pub none_text : (place : ℕ) (bytes : List ℕ) → IsUtf8 bytes → text_fault place bytes ≡ None
none_text place bytes text = rw (is_utf8-from_IsUtf8 bytes text) refl

text_by : (place n : ℕ) (bytes : List ℕ) (b : Bool) → is_utf8 bytes ≡ b → (IsUtf8 bytes → ⊥) → n ≡ utf8_valid_len bytes → text_fault place bytes ≡ Some (Text (place + n))
text_by place n bytes true t bad e = absurd (bad (IsUtf8-from_is_utf8 bytes t))
text_by place n bytes false t bad e = rw (t, e) refl

pub some_text : (place n : ℕ) (bytes : List ℕ) → (IsUtf8 bytes → ⊥) → n ≡ utf8_valid_len bytes → text_fault place bytes ≡ Some (Text (place + n))
some_text place n bytes bad e = text_by place n bytes (is_utf8 bytes) refl bad e

abbrev padded_text : ℕ → ℕ → Left → Result (List ℕ × Left) XdrFault
padded_text start n l = first_bytes start n l >>= λ b. unless (text_fault l.place b.0) b >>= λ t. behind_padding n t.1 >>= λ r. Ok (t.0, r)

first_of : (v : List ℕ) (r : Left) (x : List ℕ × Left) → (let y : Result (List ℕ × Left) XdrFault = Ok (v, r) in y ≡ Ok x) → v ≡ x.0
first_of v r x e = ap (λ (y : List ℕ × Left). y.0) (ok_is (v, r) x e)

padded_text_found : (start n : ℕ) (l : Left) (x : List ℕ × Left) → IsBytes l.bytes → padded_text start n l ≡ Ok x → (length x.0 ≡ n) × IsUtf8 x.0 × Takes l (fixed x.0) x.1 × IsBytes x.1.bytes
padded_text_found start n l x fits e =
    let a = bind_ok (first_bytes start n l) (λ b. unless (text_fault l.place b.0) b >>= λ t. behind_padding n t.1 >>= λ r. Ok (t.0, r)) x e in
    let t = bind_ok (unless (text_fault l.place a.0.0) a.0) (λ t. behind_padding n t.1 >>= λ r. Ok (t.0, r)) x a.2 in
    let u = unless_ok (text_fault l.place a.0.0) a.0 t.0 t.1 in
    let text : IsUtf8 a.0.0 = IsUtf8-from_is_utf8 a.0.0 (text_none l.place a.0.0 (is_utf8 a.0.0) refl u.0) in
    let rest : (behind_padding n a.0.1 >>= λ r. Ok (a.0.0, r)) ≡ Ok x = subst (λ (y : List ℕ × Left). (behind_padding n y.1 >>= λ r. Ok (y.0, r)) ≡ Ok x) (sym u.1) t.2 in
    let again : padded start n l ≡ Ok x = rw a.1 rest in
    let f = padded_found start n l x fits again in
    let b = bind_ok (behind_padding n a.0.1) (λ r. Ok (a.0.0, r)) x rest in
    let same : a.0.0 ≡ x.0 = first_of a.0.0 b.0 x b.2 in
    (f.0, subst IsUtf8 same text, f.1, f.2)

padded_text_again : (start n : ℕ) (l : Left) (v rest : List ℕ) → length v ≡ n → IsUtf8 v → l.bytes ≡ fixed v ++ rest → padded_text start n l ≡ Ok (taken l v (fixed v) rest)
padded_text_again start n l v rest len text e =
    let first = bytes_again start n l v (padding n ++ rest) len (room n rest) (e ∙ fixed_parts v rest ∙ ap (λ (k : ℕ). v ++ (padding k ++ rest)) len) in
    let second = padding_again n (taken l v v (padding n ++ rest)).1 rest refl in
    let total : length (fixed v) ≡ length v + padding_length n = omega (arith, length-append v (padding (length v)), length-replicate {A = ℕ} (padding_length (length v)) 0, ap padding_length len) in
    rw (first, none_text l.place v text, second, total, add_assoc) refl

string_found : (most : ℕ) (l : Left) (x : List ℕ × Left) → IsBytes l.bytes → first_string most l ≡ Ok x → IsString most x.0 × Takes l (opaque x.0) x.1 × IsBytes x.1.bytes
unfolding first_string
string_found most l x fits e =
    let a = bind_ok (first_length most l) (λ n. padded_text l.place n.0 n.1) x e in
    let n = length_found most l a.0 fits a.1 in
    let b = padded_text_found l.place a.0.0 a.0.1 x n.3 a.2 in
    let both : Takes l (word a.0.0 ++ fixed x.0) x.1 = Takes-then l a.0.1 x.1 (word a.0.0) (fixed x.0) n.2 b.2 in
    (record { bounded = rw b.0 n.0; text = b.1 }, subst (λ (k : ℕ). Takes l (word k ++ fixed x.0) x.1) (sym b.0) both, b.3)

string_again : (most : ℕ) (l : Left) (v rest : List ℕ) → most < 2 ^ 32 → IsString most v → l.bytes ≡ opaque v ++ rest → first_string most l ≡ Ok (taken l v (opaque v) rest)
unfolding first_string
string_again most l v rest small is e =
    let first = length_again most l (length v) (fixed v ++ rest) is.bounded (omega (arith, is.bounded)) (e ∙ opaque_parts v rest) in
    let second = padded_text_again l.place (length v) (taken l (length v) (word (length v)) (fixed v ++ rest)).1 v rest refl is.text refl in
    rw (first, second, behind_both (word (length v)) (fixed v) l.place) refl

pub IsItem-string : (most : ℕ) → most < 2 ^ 32 → IsItem (IsString most) opaque (first_string most)
IsItem-string most small = record {
  found = string_found most;
  again = λ l v rest is e. string_again most l v rest small is e;
}
