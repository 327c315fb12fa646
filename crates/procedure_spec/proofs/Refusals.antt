-- A refusal is read from a payload exactly where the payload is its error's.
use Rattle.std.proofs.Common.{◌≡◌, ℕ, ◌+◌, ◌<◌, ◌^◌, ◌==◌, not, Bool, true, false, List, [], ◌∷◌, ◌++◌, length, Option, None, Some, Ok, refl, sym, ap, subst, ◌∙◌, append_assoc, eq-eqb, arith, lit<}
use Rattle.std.specs.Prelude.{IfSome}
use Rattle.std.proofs.lemmas.Bool.{eqb-true}
use Rattle.std.proofs.lemmas.List.{length-append}
use Rattle.std.proofs.lemmas.Slice.Eq.{bytes_eq-Decides}
use Rattle.std.proofs.lemmas.Str.{IsUtf8-nil}
use Rattle.virt_types.specs.Refusal.{refusal_message, refusal_number}
use Rattle.virt_types.specs.Below.types_base.declared.refusal.Refusal.{Refusal}
use Rattle.virt_types.specs.Below.types_base.declared.refusal.RefusalCode.{RefusalCode}
use Rattle.wire_spec.specs.Xdr.{IsString, IsTruth, IsWord, opaque, optional, truth, word}
use Rattle.wire_spec.specs.XdrAnswer.{Takes}
use Rattle.wire_spec.specs.XdrReading.{IsBytes, Left, first_optional, first_string, first_truth, first_word}
use Rattle.wire_spec.proofs.Items.{IsItem-word, taken}
use Rattle.wire_spec.proofs.Seen.{IsItem-truth}
use Rattle.wire_spec.proofs.Steps.{Takes-then}
use Rattle.wire_spec.proofs.Wholes.{IsItem-optional}
use Rattle.procedure_spec.specs.Codes.{code_numbered}
use Rattle.procedure_spec.specs.Errors.{IsErrorOf, head, kept_string, refusal_payload, tail}
use Rattle.procedure_spec.specs.ErrorsReading.{error_of, first_code, first_head, first_kept, first_refusal, is_text, kept_of, known_code, told_absent, told_head, told_tail, told_text, told_word}
use Rattle.procedure_spec.specs.Reading.{◌>>=◌, item}
use Rattle.procedure_spec.proofs.Codes.{code_again, code_found, code_small}
use Rattle.procedure_spec.proofs.Messages.{message_string}
use Rattle.procedure_spec.proofs.Parts.{IsPart, IsPart-as, IsPart-item, all_again, all_found, bind_ok, ok_is}
use Rattle.procedure_spec.proofs.Targets.{IsItem-name}
use Rattle.procedure_spec.proofs.Told.{IsPart-then, IsTold, IsTold-as, IsTold-part, IsTold-then}
use Rattle.procedure_spec.specs.declared.words.TheConstants.{PACKET_BOUND}

-- ---- items that have one value here

pub IsTold-word : (n : ℕ) → n < 2 ^ 32 → IsTold (word n) (told_word n)
unfolding told_word
IsTold-word n small = IsTold-part IsWord word (item first_word) (IsPart-item IsWord word first_word IsItem-word) n (λ w. w == n) small (eq-eqb n n refl) (λ w e. eqb-true w n e)

false_where : (b : Bool) → not b ≡ true → b ≡ false
false_where true e = sym e
false_where false e = refl

pub IsTold-absent : IsTold (word 0) told_absent
unfolding told_absent
IsTold-absent = IsTold-part IsTruth truth (item first_truth) (IsPart-item IsTruth truth first_truth IsItem-truth) false not tt refl (λ b e. false_where b e)

part_optional : IsPart (λ o. IfSome o (IsString PACKET_BOUND)) (optional opaque) (item (first_optional (first_string PACKET_BOUND)))
part_optional = IsPart-item (λ o. IfSome o (IsString PACKET_BOUND)) (optional opaque) (first_optional (first_string PACKET_BOUND)) (IsItem-optional (IsString PACKET_BOUND) opaque (first_string PACKET_BOUND) IsItem-name)

same_text : (wanted : List ℕ) (o : Option (List ℕ)) → is_text wanted o ≡ true → o ≡ Some wanted
same_text wanted None e = absurd cc
same_text wanted (Some text) e = ap (λ t. Some t) ((bytes_eq-Decides text wanted).0 e)

is_itself : (wanted : List ℕ) → is_text wanted (Some wanted) ≡ true
is_itself wanted = (bytes_eq-Decides wanted wanted).1 refl

pub IsTold-text : (wanted : List ℕ) → IsString PACKET_BOUND wanted → IsTold (optional opaque (Some wanted)) (told_text wanted)
unfolding told_text
IsTold-text wanted is = IsTold-part (λ o. IfSome o (IsString PACKET_BOUND)) (optional opaque) (item (first_optional (first_string PACKET_BOUND))) part_optional (Some wanted) (is_text wanted) is (is_itself wanted) (λ o e. same_text wanted o e)

-- ---- the head

known_ok : (place : ℕ) (code : Option RefusalCode) (l : Left) (x : RefusalCode × Left) → known_code place code l ≡ Ok x → (code ≡ Some x.0) × (l ≡ x.1)
known_ok place None l x e = absurd cc
known_ok place (Some c) l x e = let same = ok_is (c, l) x e in (ap (λ (y : RefusalCode × Left). Some y.0) same, ap (λ (y : RefusalCode × Left). y.1) same)

part_word : IsPart IsWord word (item first_word)
part_word = IsPart-item IsWord word first_word IsItem-word

code_part : IsPart (λ c. Unit {0}) (λ c. word (refusal_number c)) first_code
unfolding first_code
code_part = record {
  found = λ l x fits e.
      let m = bind_ok (item first_word l) (λ n. known_code l.place (code_numbered n.0) n.1) x e in
      let f = part_word.found l m.0 fits m.1 in
      let k = known_ok l.place (code_numbered m.0.0) m.0.1 x m.2 in
      let number = code_found m.0.0 x.0 k.0 in
      let t = subst (λ (q : Left). Takes l (word (refusal_number x.0)) q × IsBytes q.bytes) k.1 (subst (λ (n : ℕ). Takes l (word n) m.0.1) (sym number) f.1, f.2) in
      (tt, t.0, t.1);
  again = λ l c rest value e. rw (part_word.again l (refusal_number c) rest (code_small c) e, code_again c) refl;
}

head_told : (message : List ℕ) → IsString PACKET_BOUND message → IsTold (word 10 ++ (optional opaque (Some message) ++ (word 2 ++ word 0))) (told_head message)
unfolding told_head
head_told message is =
    IsTold-then (word 10) (optional opaque (Some message) ++ (word 2 ++ word 0)) (told_word 10) _ (IsTold-word 10 (lit< tt))
    (IsTold-then (optional opaque (Some message)) (word 2 ++ word 0) (told_text message) _ (IsTold-text message is)
    (IsTold-then (word 2) (word 0) (told_word 2) told_absent (IsTold-word 2 (lit< tt)) IsTold-absent))

five_parts : (a b c d e : List ℕ) → a ++ (b ++ (c ++ (d ++ e))) ≡ a ++ b ++ c ++ d ++ e
five_parts a b c d e = sym (simp append_assoc)

head_part : IsPart (λ c. Unit {0}) (λ c. head (refusal_number c) (refusal_message c)) first_head
unfolding first_head
head_part = IsPart-as (λ c. Unit {0}) _ _ _ (λ c. five_parts (word (refusal_number c)) (word 10) (optional opaque (Some (refusal_message c))) (word 2) (word 0))
    (IsPart-then (λ c. Unit {0}) (λ c. word (refusal_number c)) (λ c. word 10 ++ (optional opaque (Some (refusal_message c)) ++ (word 2 ++ word 0))) first_code (λ c. told_head (refusal_message c)) code_part (λ c. head_told (refusal_message c) (message_string c)))

-- ---- the kept text

empty_string : IsString PACKET_BOUND []
empty_string = record { bounded = omega arith; text = IsUtf8-nil }

kept_ok : (place : ℕ) (o : Option (List ℕ)) (l : Left) (x : List ℕ × Left) → IfSome o (IsString PACKET_BOUND) → kept_of place o l ≡ Ok x → IsString PACKET_BOUND x.0 × (o ≡ kept_string x.0) × (l ≡ x.1)
kept_ok place None l x is e =
    let same = ok_is ([], l) x e in
    subst (λ (y : List ℕ × Left). IsString PACKET_BOUND y.0 × (None ≡ kept_string y.0) × (l ≡ y.1)) same (empty_string, refl, refl)
kept_ok place (Some []) l x is e = absurd cc
kept_ok place (Some (b ∷ bs)) l x is e =
    let same = ok_is (b ∷ bs, l) x e in
    subst (λ (y : List ℕ × Left). IsString PACKET_BOUND y.0 × (Some (b ∷ bs) ≡ kept_string y.0) × (l ≡ y.1)) same (is, refl, refl)

kept_is : (k : List ℕ) → IsString PACKET_BOUND k → IfSome (kept_string k) (IsString PACKET_BOUND)
kept_is [] is = tt
kept_is (b ∷ bs) is = is

kept_again : (place : ℕ) (k : List ℕ) (l : Left) → kept_of place (kept_string k) l ≡ Ok (k, l)
kept_again place [] l = refl
kept_again place (b ∷ bs) l = refl

kept_part : IsPart (IsString PACKET_BOUND) (λ k. optional opaque (kept_string k)) first_kept
unfolding first_kept
kept_part = record {
  found = λ l x fits e.
      let m = bind_ok (item (first_optional (first_string PACKET_BOUND)) l) (λ o. kept_of l.place o.0 o.1) x e in
      let f = part_optional.found l m.0 fits m.1 in
      let k = kept_ok l.place m.0.0 m.0.1 x f.0 m.2 in
      let t = subst (λ (q : Left). Takes l (optional opaque (kept_string x.0)) q × IsBytes q.bytes) k.2 (subst (λ (o : Option (List ℕ)). Takes l (optional opaque o) m.0.1) k.1 f.1, f.2) in
      (k.0, t.0, t.1);
  again = λ l k rest is e. rw (part_optional.again l (kept_string k) rest (kept_is k is) e) (kept_again l.place k _);
}

-- ---- the tail

tail_told : IsTold tail told_tail
unfolding told_tail
tail_told = IsTold-as _ _ _ (five_parts (word 0) (word 0) (word 0) (word 0) (word 0))
    (IsTold-then (word 0) (word 0 ++ (word 0 ++ (word 0 ++ word 0))) told_absent _ IsTold-absent
    (IsTold-then (word 0) (word 0 ++ (word 0 ++ word 0)) told_absent _ IsTold-absent
    (IsTold-then (word 0) (word 0 ++ word 0) (told_word 0) _ (IsTold-word 0 (lit< tt))
    (IsTold-then (word 0) (word 0) (told_word 0) told_absent (IsTold-word 0 (lit< tt)) IsTold-absent))))

-- ---- the whole

refusal_found : (l : Left) (x : Refusal × Left) → IsBytes l.bytes → first_refusal l ≡ Ok x → IsString PACKET_BOUND x.0.kept × Takes l (refusal_payload x.0) x.1 × IsBytes x.1.bytes
unfolding first_refusal
refusal_found l x fits e =
    let c = bind_ok (first_head l) (λ code. first_kept code.1 >>= λ kept. told_tail kept.1 >>= λ rest. Ok (record { code = code.0; kept = kept.0 }, rest)) x e in
    let k = bind_ok (first_kept c.0.1) (λ kept. told_tail kept.1 >>= λ rest. Ok (record { code = c.0.0; kept = kept.0 }, rest)) x c.2 in
    let t = bind_ok (told_tail k.0.1) (λ rest. Ok (record { code = c.0.0; kept = k.0.0 }, rest)) x k.2 in
    let f = head_part.found l c.0 fits c.1 in
    let g = kept_part.found c.0.1 k.0 f.2 k.1 in
    let h = tail_told.found k.0.1 t.0 g.2 t.1 in
    let r : Refusal = record { code = c.0.0; kept = k.0.0 } in
    let one : List ℕ = head (refusal_number c.0.0) (refusal_message c.0.0) in
    let two : List ℕ = optional opaque (kept_string k.0.0) in
    let both : Takes l (one ++ two) k.0.1 = Takes-then l c.0.1 k.0.1 one two f.1 g.1 in
    let all : Takes l ((one ++ two) ++ tail) t.0 = Takes-then l k.0.1 t.0 (one ++ two) tail both h.0 in
    subst (λ (y : Refusal × Left). IsString PACKET_BOUND y.0.kept × Takes l (refusal_payload y.0) y.1 × IsBytes y.1.bytes) (ok_is (r, t.0) x t.2) (g.0, all, h.1)

after_three : (a b c : List ℕ) (place : ℕ) → place + length a + length b + length c ≡ place + length (a ++ b ++ c)
after_three a b c place = omega (arith, length-append (a ++ b) c, length-append a b)

refusal_again : (l : Left) (r : Refusal) (rest : List ℕ) → IsString PACKET_BOUND r.kept → l.bytes ≡ refusal_payload r ++ rest → first_refusal l ≡ Ok (taken l r (refusal_payload r) rest)
unfolding first_refusal
refusal_again l r rest is e =
    let one : List ℕ = head (refusal_number r.code) (refusal_message r.code) in
    let two : List ℕ = optional opaque (kept_string r.kept) in
    let parts : refusal_payload r ++ rest ≡ one ++ (two ++ (tail ++ rest)) = append_assoc (one ++ two) tail rest ∙ append_assoc one two (tail ++ rest) in
    let f = head_part.again l r.code (two ++ (tail ++ rest)) tt (e ∙ parts) in
    let g = kept_part.again (taken l r.code one (two ++ (tail ++ rest))).1 r.kept (tail ++ rest) is refl in
    let h = tail_told.again (taken (taken l r.code one (two ++ (tail ++ rest))).1 r.kept two (tail ++ rest)).1 rest refl in
    rw (f, g, h, after_three one two tail l.place) refl

refusal_part : IsPart (λ r. IsString PACKET_BOUND r.kept) refusal_payload first_refusal
refusal_part = record { found = refusal_found; again = refusal_again }

pub error_found : (payload : List ℕ) (r : Refusal) → IsBytes payload → error_of payload ≡ Ok r → IsErrorOf payload r
error_found payload r fits e =
    let f = all_found (λ (r : Refusal). IsString PACKET_BOUND r.kept) refusal_payload first_refusal refusal_part payload r fits e in
    record { kept = f.0; spelled = f.1 }

pub error_again : (payload : List ℕ) (r : Refusal) → IsErrorOf payload r → error_of payload ≡ Ok r
error_again payload r is = all_again (λ (r : Refusal). IsString PACKET_BOUND r.kept) refusal_payload first_refusal refusal_part payload r is.kept is.spelled
