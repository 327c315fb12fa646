-- A run of text has a character at least. The blanks at the end of a text, one by one.
use Rattle.std.proofs.Common.{◌≡◌, ℕ, ◌+◌, ◌<◌, List, [], ◌∷◌, length, take, drop, Bool, true, false, true≢false, cond, Ok, Err, refl, ap, ◌∙◌, sym, arith, length-drop, Result, Bor, ap₂, ◌++◌}
use Rattle.std.specs.Prelude.{◌&&◌, ◌||◌, not, ◌==◌, IfOk, reverse}
use Rattle.std.proofs.lemmas.List.{reverse-append, reverse-reverse}
use Rattle.std.specs.List.{prefix_len}
use Rattle.text_spec.specs.declared.ahead.Ahead.TheVariants as ahead
use Rattle.text_spec.specs.declared.fault.Flaw.{Flaw}
use Rattle.text_spec.specs.Character.{less, ampersand, slash, bang, question, is_char, is_run_char, is_blank, after_blanks}
use Rattle.text_spec.specs.Element.{ahead_of, ahead_in_tag}
use Rattle.text_spec.specs.Aside.{run_then}
use Rattle.markup.specs.Gives.{Tells}

no_run : (a b : Bool) → cond a ahead.ClosingTag (cond b ahead.Aside ahead.Element) ≡ ahead.Run → ⊥
no_run true b e = cc
no_run false true e = cc
no_run false false e = cc

no_run_in_tag : (cs : List ℕ) → ahead_in_tag cs ≡ ahead.Run → ⊥
no_run_in_tag [] e = cc
no_run_in_tag (c ∷ cs) e = no_run (c == slash) (c == bang || c == question) e

plain_by : (a b i : Bool) (cs : List ℕ) → cond a (ahead_in_tag cs) (cond b ahead.Reference ahead.Run) ≡ ahead.Run → i ≡ true
    → (i && not (a || b)) ≡ true
plain_by true b i cs e is = absurd (no_run_in_tag cs e)
plain_by false true i cs e is = absurd cc
plain_by false false i cs e is = rw is

-- a character that is no markup
plain : (c : ℕ) (cs : List ℕ) → ahead_of (c ∷ cs) ≡ ahead.Run → is_char c ≡ true → is_run_char c ≡ true
unfolding ahead_of
plain c cs run is = plain_by (c == less) (c == ampersand) (is_char c) cs run is

chosen : {A B : Type 0} (b : Bool) (x y : A) (f : B) → ◌≡◌ {A = Result A B} (cond b (Ok x) (Err f)) (Ok y) → (b ≡ true) × (x ≡ y)
chosen true x y f e = (refl, cc)
chosen false x y f e = absurd cc

ok_same : {A B : Type 0} (x y : A) → ◌≡◌ {A = Result A B} (Ok x) (Ok y) → x ≡ y
ok_same x y e = cc

run_then_rest : (told : Flaw) (run rest r s : List ℕ) → run_then told run rest ≡ Ok (r, s) → s ≡ rest
run_then_rest told run [] r s e = sym (ap (λ p. p.1) (ok_same {A = List ℕ × List ℕ} {B = Flaw} (run, []) (r, s) e))
run_then_rest told run (c ∷ cs) r s e = sym (ap (λ p. p.1) (chosen {A = List ℕ × List ℕ} {B = Flaw} (is_char c) (run, c ∷ cs) (r, s) told e).1)

further_by : (told : Flaw) (c : ℕ) (cs run rest : List ℕ) (b : Bool) → is_run_char c ≡ b → ahead_of (c ∷ cs) ≡ ahead.Run
    → run_then told (take (prefix_len is_run_char (c ∷ cs)) (c ∷ cs)) (drop (prefix_len is_run_char (c ∷ cs)) (c ∷ cs)) ≡ Ok (run, rest)
    → length rest < length (c ∷ cs)
further_by told c cs run rest true is begins e =
    let n = prefix_len is_run_char (c ∷ cs) in
    let some : n ≡ 1 + prefix_len is_run_char cs = ap (λ b. cond b (1 + prefix_len is_run_char cs) 0) is in
    let same : rest ≡ drop n (c ∷ cs) = run_then_rest told (take n (c ∷ cs)) (drop n (c ∷ cs)) run rest e in
    omega (arith, some, ap length same, length-drop n (c ∷ cs))
further_by told c cs run rest false is begins e =
    let none : prefix_len is_run_char (c ∷ cs) ≡ 0 = ap (λ b. cond b (1 + prefix_len is_run_char cs) 0) is in
    let whole : run_then told (take 0 (c ∷ cs)) (drop 0 (c ∷ cs)) ≡ Ok (run, rest) =
    ap (λ n. run_then told (take n (c ∷ cs)) (drop n (c ∷ cs))) (sym none) ∙ e in
    absurd (true≢false (sym (plain c cs begins (chosen (is_char c) _ _ told whole).0) ∙ is))

pub run_further : (told : Flaw) (cs : List ℕ) (run rest : List ℕ) → ahead_of cs ≡ ahead.Run
    → run_then told (take (prefix_len is_run_char cs) cs) (drop (prefix_len is_run_char cs) cs) ≡ Ok (run, rest)
    → length rest < length cs
unfolding ahead_of
run_further told [] run rest begins e = absurd cc
run_further told (c ∷ cs) run rest begins e = further_by told c cs run rest (is_run_char c) refl begins e

-- what was answered leaves fewer characters
pub run_within : (told : Flaw) (cs front back : List ℕ) (n : ℕ) → n ≡ prefix_len is_run_char cs → front ≡ take n cs → back ≡ drop n cs
    → ahead_of cs ≡ ahead.Run → (r : Result (Bor (List ℕ) × Bor (List ℕ)) Flaw)
    → Tells (λ x. (x.0.now, x.1.now)) r (run_then told front back) → IfOk r (λ x. length x.1.now < length cs)
run_within told cs front back n counted front_is back_is begins (Err f) e = tt
run_within told cs front back n counted front_is back_is begins (Ok x) e =
    run_further told cs x.0.now x.1.now begins
    (ap₂ (run_then told) (sym (front_is ∙ ap (λ k. take k cs) counted)) (sym (back_is ∙ ap (λ k. drop k cs) counted)) ∙ e)

-- ---- the blanks at the end of a text
pub trim_more : (c : ℕ) (before rest : List ℕ) → rest ≡ before ++ c ∷ [] → is_blank c ≡ true
    → reverse (after_blanks (reverse rest)) ≡ reverse (after_blanks (reverse before))
unfolding after_blanks
trim_more c before rest e blank = rw (e, reverse-append, blank)

pub trim_stops : (c : ℕ) (before rest : List ℕ) → rest ≡ before ++ c ∷ [] → is_blank c ≡ false
    → reverse (after_blanks (reverse rest)) ≡ rest
unfolding after_blanks
trim_stops c before rest e other =
    rw (e, reverse-append, other) (reverse-append (c ∷ []) (reverse before) ∙ ap (λ xs. xs ++ c ∷ []) (reverse-reverse before))

pub trim_none : (rest : List ℕ) → length rest ≡ 0 → reverse (after_blanks (reverse rest)) ≡ rest
unfolding after_blanks
trim_none [] e = refl
trim_none (c ∷ cs) e = absurd (omega (arith, e))
