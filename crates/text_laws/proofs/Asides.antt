-- The text that asides and runs add.
use Rattle.std.proofs.Common.{◌≡◌, ℕ, zero, suc, ◌+◌, ◌-◌, ◌≤◌, List, [], ◌∷◌, ◌++◌, Bool, true, false, Result, Err, refl, ◌∙◌, sym, ap, subst, inl, inr, arith, length, take, drop, length-append}
use Rattle.std.specs.Prelude.{◌&&◌, ◌||◌, ◌==◌, not, codes, if◌then◌else◌}
use Rattle.std.specs.List.{AllByRecursion, prefix_len}
use Rattle.std.proofs.lemmas.Bool.Decides.{nat_tests}
use Rattle.text_spec.specs.declared.ahead.Ahead.{Ahead}
use Rattle.text_spec.specs.declared.ahead.Ahead.TheVariants as ahead
use Rattle.text_spec.specs.declared.fault.Flaw.{Flaw}
use Rattle.text_spec.specs.declared.fault.TextKind.TheVariants as kind
use Rattle.text_spec.specs.Reading.{Reading, ◌>>=◌, flaw, expect}
use Rattle.text_spec.specs.Character.{hyphen, question, greater, less, ampersand, open_bracket, is_char, is_run_char}
use Rattle.text_spec.specs.Aside.{comment_at, targeted, brackets_after, section_at, sectioned, without_text, whole_comment_at, doctype_at, whole_section_at, after_bang, after_less, aside_at, ends_section, run_then, run_at}
use Rattle.text_spec.specs.Reference.{reference_at}
use Rattle.text_spec.specs.Element.{piece_at}
use Rattle.text_spec.specs.Writable.{AreChars}
use Rattle.text_laws.proofs.Parts.{bound, right, same_ok, chosen, passed, kept, both_of}
use Rattle.text_laws.proofs.Values.{prefix_all, reference_good}

-- ---- sections
-- characters before the rest
record Before (cs rest : List ℕ) : Type 0 where
  front : List ℕ
  is : cs ≡ front ++ rest
  are : AreChars front

is_same : (a b : ℕ) → (a == b) ≡ true → a ≡ b
is_same a b e = grind (arith, nat_tests)

greater_is : is_char greater ≡ true
unfolding is_char
greater_is = refl

one_more : (c : ℕ) (cs rest : List ℕ) → is_char c ≡ true → Before cs rest → Before (c ∷ cs) rest
one_more c cs rest is b = record { front = c ∷ b.front; is = ap (λ xs. c ∷ xs) b.is; are = (is, b.are) }

section_good : (told : Flaw) (brackets : ℕ) (cs rest : List ℕ) → section_at told brackets cs ≡ right rest → Before cs rest
unfolding section_at
section_good told brackets [] rest e = absurd cc
section_good told brackets (c ∷ cs) rest e =
    let ends = (c == greater) && (brackets == 2) in
    let more = section_at told (brackets_after brackets c) cs in
    elim (chosen ends (right cs) (if is_char c then more else Err told) (right rest) e) [
      | inl end ↦ (let same = is_same c greater (both_of (c == greater) (brackets == 2) end.0).0 in
          let is : is_char c ≡ true = ap is_char same ∙ greater_is in
          one_more c cs rest is (record { front = []; is = same_ok cs rest end.1; are = tt }))
      | inr goes ↦ (let p = passed (is_char c) more told rest goes.1 in
          one_more c cs rest p.0 (section_good told (brackets_after brackets c) cs rest p.1))
    ]

front_chars : (n : ℕ) (front rest : List ℕ) → AreChars front → n ≤ length front → AreChars (take n (front ++ rest))
front_chars zero front rest are h = tt
front_chars (suc n) [] rest are h = absurd (omega (arith, h))
front_chars (suc n) (c ∷ front) rest are h = (are.0, front_chars n front rest are.1 (omega (arith, h)))

sectioned_good : (cs rest : List ℕ) → Before cs rest → AreChars (take (length cs - (length rest + 3)) cs)
sectioned_good cs rest b =
    let long : length cs ≡ length b.front + length rest = ap length b.is ∙ length-append b.front rest in
    subst (λ xs. AreChars (take (length cs - (length rest + 3)) xs)) (sym b.is)
    (front_chars (length cs - (length rest + 3)) b.front rest b.are (omega (arith, long)))

whole_section_good : (told : Flaw) (cs : List ℕ) (r : List ℕ × List ℕ) → whole_section_at told cs ≡ right r → AreChars r.0
unfolding whole_section_at
whole_section_good told cs r e =
    let b = bound (expect told (codes "CDATA[") cs) (λ content. section_at told 0 content >>= λ rest. sectioned content rest) r e in
    let d = bound (section_at told 0 b.value) (sectioned b.value) r b.behind in
    subst (λ q. AreChars q.0) (same_ok (take (length b.value - (length d.value + 3)) b.value, d.value) r d.behind)
    (sectioned_good b.value d.value (section_good told 0 b.value d.value d.before))

-- ---- asides
nothing_added : (read : Result (List ℕ) Flaw) (r : List ℕ × List ℕ) → without_text read ≡ right r → AreChars r.0
nothing_added read r e =
    let b = bound read (λ rest. right ([], rest)) r e in
    subst (λ q. AreChars q.0) (same_ok ([], b.value) r b.behind) tt

comment_good : (told : Flaw) (cs : List ℕ) (r : List ℕ × List ℕ) → whole_comment_at told cs ≡ right r → AreChars r.0
unfolding whole_comment_at
comment_good told cs r e = nothing_added (expect told (hyphen ∷ []) cs >>= λ rest. comment_at told false rest) r e

doctype_good : (told doctype : Flaw) (cs : List ℕ) (r : List ℕ × List ℕ) → doctype_at told doctype cs ≡ right r → AreChars r.0
unfolding doctype_at
doctype_good told doctype cs r e =
    let refused = λ (rest : List ℕ). let f : Reading (List ℕ) = Err doctype in f in
    let b = bound (expect told (codes "OCTYPE") cs) refused r e in
    absurd (let h = b.behind in cc)

after_bang_good : (inside : Bool) (start cs : List ℕ) (r : List ℕ × List ℕ) → after_bang inside start cs ≡ right r → AreChars r.0
unfolding after_bang
after_bang_good inside start [] r e = absurd cc
after_bang_good inside start (c ∷ cs) r e =
    let told = flaw kind.Tag start in
    let section = if inside && (c == open_bracket) then whole_section_at told cs else Err told in
    let doctype = doctype_at told (flaw kind.Doctype start) cs in
    elim (chosen (c == hyphen) (whole_comment_at told cs) (if c == 68 then doctype else section) (right r) e) [
      | inl comment ↦ comment_good told cs r comment.1
      | inr two ↦ elim (chosen (c == 68) doctype section (right r) two.1) [
        | inl type ↦ doctype_good told (flaw kind.Doctype start) cs r type.1
        | inr three ↦ whole_section_good told cs r (passed (inside && (c == open_bracket)) (whole_section_at told cs) told r three.1).1
      ]
    ]

after_less_good : (inside : Bool) (start cs : List ℕ) (r : List ℕ × List ℕ) → after_less inside start cs ≡ right r → AreChars r.0
after_less_good inside start [] r e = absurd cc
after_less_good inside start (c ∷ cs) r e =
    let instruction = targeted (flaw kind.Tag start) cs in
    elim (chosen (c == question) (without_text instruction) (after_bang inside start cs) (right r) e) [
      | inl one ↦ nothing_added instruction r one.1
      | inr bang ↦ after_bang_good inside start cs r bang.1
    ]

aside_good : (inside : Bool) (cs : List ℕ) (r : List ℕ × List ℕ) → aside_at inside cs ≡ right r → AreChars r.0
unfolding aside_at
aside_good inside [] r e = absurd cc
aside_good inside (c ∷ cs) r e = after_less_good inside (c ∷ cs) cs r e

-- ---- runs
run_chars : (cs : List ℕ) → AllByRecursion (λ c. is_run_char c ≡ true) cs → AreChars cs
run_chars [] all = tt
run_chars (c ∷ cs) all = ((both_of (is_char c) (not (c == less || c == ampersand)) all.0).0, run_chars cs all.1)

run_then_good : (told : Flaw) (run cs : List ℕ) (r : List ℕ × List ℕ) → run_then told run cs ≡ right r → run ≡ r.0
run_then_good told run [] r e = ap (λ q. q.0) (same_ok (run, []) r e)
run_then_good told run (c ∷ cs) r e =
    let p = passed (is_char c) (right (run, c ∷ cs)) told r e in
    ap (λ q. q.0) (same_ok (run, c ∷ cs) r p.1)

run_good : (cs : List ℕ) (r : List ℕ × List ℕ) → run_at cs ≡ right r → AreChars r.0
unfolding run_at
run_good cs r e =
    let n = prefix_len is_run_char cs in
    let k = kept (ends_section 0 (take n cs)) (run_then (flaw kind.Tag cs) (take n cs) (drop n cs)) (flaw kind.Tag cs) r e in
    subst AreChars (run_then_good (flaw kind.Tag cs) (take n cs) (drop n cs) r k.1) (run_chars (take n cs) (prefix_all is_run_char cs))

pub piece_good : (a : Ahead) (cs : List ℕ) (r : List ℕ × List ℕ) → piece_at a cs ≡ right r → AreChars r.0
unfolding piece_at
piece_good ahead.Nothing cs r e = absurd cc
piece_good ahead.ClosingTag cs r e = absurd cc
piece_good ahead.Element cs r e = absurd cc
piece_good ahead.Aside cs r e = aside_good true cs r e
piece_good ahead.Reference cs r e =
    let b = bound (reference_at cs) (λ x. right (x.0 ∷ [], x.1)) r e in
    subst (λ q. AreChars q.0) (same_ok (b.value.0 ∷ [], b.value.1) r b.behind) (reference_good cs b.value b.before, tt)
piece_good ahead.Run cs r e = run_good cs r e
