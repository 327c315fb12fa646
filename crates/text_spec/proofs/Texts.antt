-- An element's text that was written is read, run by run.
use Rattle.std.proofs.Common.{◌≡◌, ℕ, zero, suc, ◌<◌, ◌≤◌, List, [], ◌∷◌, ◌++◌, length, true, false, Result, Ok, Err, refl, sym, ◌∙◌, ap, ap₂, arith, length-append, append_assoc, inl, inr}
use Rattle.std.specs.List.{flat_map, AllByRecursion}
use Rattle.std.proofs.lemmas.List.{take_at, drop_at}
use Rattle.text_spec.specs.declared.ahead.Ahead.{Ahead}
use Rattle.text_spec.specs.declared.ahead.Ahead.TheVariants as ahead
use Rattle.text_spec.specs.declared.fault.Flaw.{Flaw}
use Rattle.text_spec.specs.Character.{is_char, is_run_char}
use Rattle.text_spec.specs.Aside.{ends_section, brackets_after, run_at}
use Rattle.text_spec.specs.Tree.{Tree, Trees, first, before}
use Rattle.text_spec.specs.Element.{Inside, ElementReading, ahead_of, piece_at, after_inside, inside_by, content_at}
use Rattle.text_spec.specs.Written.{in_text}
use Rattle.text_spec.specs.Writable.{AreChars}
use Rattle.text_spec.proofs.Words.{prefix_back}
use Rattle.text_spec.proofs.Escapes.{Plain, Referred, text_char}

no_end : (brackets : ℕ) (r : List ℕ) → AllByRecursion Plain r → ends_section brackets r ≡ false
unfolding ends_section
no_end brackets [] all = refl
no_end brackets (c ∷ r) all = rw all.0.greater (no_end (brackets_after brackets c) r all.1)

runs : (r : List ℕ) → AllByRecursion Plain r → AllByRecursion (λ c. is_run_char c ≡ true) r
runs [] all = tt
runs (c ∷ r) all = (all.0.run, runs r all.1)

run_back : (r : List ℕ) (x : ℕ) (xs : List ℕ) → AllByRecursion Plain r → is_run_char x ≡ false → is_char x ≡ true
    → run_at (r ++ x ∷ xs) ≡ Ok (r, x ∷ xs)
unfolding run_at
run_back r x xs all stop is =
    rw (prefix_back is_run_char r x xs (runs r all) stop, take_at r (x ∷ xs) (length r) refl, drop_at r (x ∷ xs) (length r) refl, no_end 0 r all, is)

-- ---- what is inside an element, a step at a time
pub before_before : (ts us : List Tree) (others : Trees) → before ts (before us others) ≡ before (ts ++ us) others
before_before [] us others = refl
before_before (t ∷ ts) us others = ap (first t) (before_before ts us others)

with_parts : Inside → List ℕ → Trees → Result Inside Flaw
with_parts i text children = Ok (record { text = text; children = children; room = i.room; rest = i.rest })

pub after_after : (a b : List ℕ) (xs ys : List Tree) (r : Result Inside Flaw)
    → after_inside a xs (after_inside b ys r) ≡ after_inside (a ++ b) (xs ++ ys) r
unfolding with_parts
after_after a b xs ys (Err f) = refl
after_after a b xs ys (Ok i) = ap₂ (with_parts i) (sym (append_assoc a b i.text)) (before_before xs ys i.children)

pub after_nothing : (r : Result Inside Flaw) → r ≡ after_inside [] [] r
after_nothing (Err f) = refl
after_nothing (Ok i) = refl

pub content_step : (child : ElementReading) (k room : ℕ) (cs : List ℕ) (a : Ahead) → ahead_of cs ≡ a
    → content_at child (suc k) room cs ≡ inside_by a child (content_at child k) room cs
unfolding content_at
content_step child k room cs a e = ap (λ b. inside_by b child (content_at child k) room cs) e

plain_ahead : (c : ℕ) (cs : List ℕ) → Plain c → ahead_of (c ∷ cs) ≡ ahead.Run
unfolding ahead_of
plain_ahead c cs p = rw (p.less, p.ampersand)

reference_ahead : (cs : List ℕ) → ahead_of (38 ∷ cs) ≡ ahead.Reference
unfolding ahead_of
reference_ahead cs = refl

ampersand_stops : is_run_char 38 ≡ false
unfolding is_char
ampersand_stops = refl

ampersand_is : is_char 38 ≡ true
unfolding is_char
ampersand_is = refl

all_snoc : (r : List ℕ) (c : ℕ) → AllByRecursion Plain r → Plain c → AllByRecursion Plain (r ++ c ∷ [])
all_snoc [] c all p = (p, tt)
all_snoc (x ∷ r) c all p = (all.0, all_snoc r c all.1 p)

pub one_less : (k m : ℕ) → k < m → (n : ℕ) × (suc n ≡ m) × (k ≤ n)
one_less k zero h = absurd (omega (arith, h))
one_less k (suc n) h = (n, refl, omega (arith, h))

module _ (child : ElementReading) (room : ℕ) where
  run_step : (k c : ℕ) (r : List ℕ) (y : ℕ) (ys : List ℕ) → AllByRecursion Plain (c ∷ r) → is_run_char y ≡ false → is_char y ≡ true
      → content_at child (suc k) room ((c ∷ r) ++ y ∷ ys) ≡ after_inside (c ∷ r) [] (content_at child k room (y ∷ ys))
  unfolding piece_at
  run_step k c r y ys all stop is =
      content_step child k room ((c ∷ r) ++ y ∷ ys) ahead.Run (plain_ahead c (r ++ y ∷ ys) all.0) ∙ rw (run_back (c ∷ r) y ys all stop is)

  reference_step : (k c : ℕ) (more : List ℕ) → Referred c
      → content_at child (suc k) room (in_text c ++ more) ≡ after_inside (c ∷ []) [] (content_at child k room more)
  unfolding piece_at
  reference_step k c more ref =
      content_step child k room (in_text c ++ more) ahead.Reference (ap (λ cs. ahead_of (cs ++ more)) ref.is ∙ reference_ahead (ref.others ++ more))
      ∙ rw (ref.reads more)

  module _ (x : ℕ) (xs : List ℕ) (stop : is_run_char x ≡ false) (is : is_char x ≡ true) where
    -- in k steps and one, the characters are read as the text before x, with steps left for what follows
    abbrev pub TextRead : ℕ → List ℕ → List ℕ → Type 0
    TextRead k cs text = (m : ℕ) × (length (x ∷ xs) ≤ m) × (content_at child (suc k) room cs ≡ after_inside text [] (content_at child (suc m) room (x ∷ xs)))

    reference_then : (k c : ℕ) (s : List ℕ) → Referred c → length (in_text c ++ (flat_map in_text s ++ x ∷ xs)) ≤ k
        → ((n : ℕ) → length (flat_map in_text s ++ x ∷ xs) ≤ n → TextRead n (flat_map in_text s ++ x ∷ xs) s)
        → TextRead k (in_text c ++ (flat_map in_text s ++ x ∷ xs)) (c ∷ s)
    reference_then k c s ref enough others =
        let more = flat_map in_text s ++ x ∷ xs in
        let fewer = one_less (length more) k (omega (arith, enough, length-append (in_text c) more, ap length ref.is)) in
        let following = others fewer.0 fewer.2 in (
          following.0,
          following.1,
          reference_step k c more ref
              ∙ ap (λ n. after_inside (c ∷ []) [] (content_at child n room more)) (sym fewer.1)
              ∙ ap (after_inside (c ∷ []) []) following.2
              ∙ after_after (c ∷ []) s [] [] (content_at child (suc following.0) room (x ∷ xs)),
        )

    run_then : (k c : ℕ) (r : List ℕ) (y : ℕ) (ys text : List ℕ) → AllByRecursion Plain (c ∷ r) → is_run_char y ≡ false → is_char y ≡ true
        → length ((c ∷ r) ++ y ∷ ys) ≤ k → ((n : ℕ) → length (y ∷ ys) ≤ n → TextRead n (y ∷ ys) text)
        → TextRead k ((c ∷ r) ++ y ∷ ys) ((c ∷ r) ++ text)
    run_then k c r y ys text all halts holds enough others =
        let fewer = one_less (length (y ∷ ys)) k (omega (arith, enough, length-append (c ∷ r) (y ∷ ys))) in
        let following = others fewer.0 fewer.2 in (
          following.0,
          following.1,
          run_step k c r y ys all halts holds
              ∙ ap (λ n. after_inside (c ∷ r) [] (content_at child n room (y ∷ ys))) (sym fewer.1)
              ∙ ap (after_inside (c ∷ r) []) following.2
              ∙ after_after (c ∷ r) text [] [] (content_at child (suc following.0) room (x ∷ xs)),
        )

    -- the same for other characters that are equal
    along : (k : ℕ) (cs ds text : List ℕ) → cs ≡ ds → TextRead k ds text → TextRead k cs text
    along k cs ds text e read = (read.0, read.1, ap (content_at child (suc k) room) e ∙ read.2)

    referred : (k : ℕ) (r : List ℕ) (c : ℕ) (s : List ℕ) → AllByRecursion Plain r → Referred c
        → length (r ++ (in_text c ++ (flat_map in_text s ++ x ∷ xs))) ≤ k
        → ((n : ℕ) → length (flat_map in_text s ++ x ∷ xs) ≤ n → TextRead n (flat_map in_text s ++ x ∷ xs) s)
        → TextRead k (r ++ (in_text c ++ (flat_map in_text s ++ x ∷ xs))) (r ++ c ∷ s)
    referred k [] c s all ref enough others = reference_then k c s ref enough others
    referred k (a ∷ r) c s all ref enough others =
        let more = flat_map in_text s ++ x ∷ xs in
        let spelled : in_text c ++ more ≡ 38 ∷ ref.others ++ more = ap (λ cs. cs ++ more) ref.is in
        along k _ _ ((a ∷ r) ++ c ∷ s) (ap (λ cs. (a ∷ r) ++ cs) spelled)
        (run_then k a r 38 (ref.others ++ more) (c ∷ s) all ampersand_stops ampersand_is
        (omega (arith, enough, ap (λ cs. length ((a ∷ r) ++ cs)) spelled))
        (λ n h. along n _ _ (c ∷ s) (sym spelled) (reference_then n c s ref (omega (arith, h, ap length spelled)) others)))

    pub text_by : (k : ℕ) (r s : List ℕ) → AllByRecursion Plain r → AreChars s → length (r ++ (flat_map in_text s ++ x ∷ xs)) ≤ k
        → TextRead k (r ++ (flat_map in_text s ++ x ∷ xs)) (r ++ s)
    text_by k [] [] all are enough = (k, enough, after_nothing (content_at child (suc k) room (x ∷ xs)))
    text_by k (c ∷ r) [] all are enough =
        run_then k c r x xs [] all stop is enough (λ n h. (n, h, after_nothing (content_at child (suc n) room (x ∷ xs))))
    text_by k r (c ∷ s) all are enough =
        let more = flat_map in_text s ++ x ∷ xs in
        let apart : r ++ (flat_map in_text (c ∷ s) ++ x ∷ xs) ≡ r ++ (in_text c ++ more) =
        ap (λ cs. r ++ cs) (append_assoc (in_text c) (flat_map in_text s) (x ∷ xs)) in
        elim (text_char c are.0) [
          | inl p ↦
              let moved : r ++ (in_text c ++ more) ≡ (r ++ c ∷ []) ++ more = ap (λ cs. r ++ (cs ++ more)) p.1 ∙ sym (append_assoc r (c ∷ []) more) in
              let read = text_by k (r ++ c ∷ []) s (all_snoc r c all p.0) are.1 (omega (arith, enough, ap length (apart ∙ moved))) in (
                read.0,
                read.1,
                ap (content_at child (suc k) room) (apart ∙ moved) ∙ read.2
                    ∙ ap (λ text. after_inside text [] (content_at child (suc read.0) room (x ∷ xs))) (append_assoc r (c ∷ []) s),
              )
          | inr ref ↦ along k _ _ (r ++ c ∷ s) apart (referred k r c s all ref (omega (arith, enough, ap length apart)) (λ n h. text_by n [] s tt are.1 h))
        ]

    pub text_back : (k : ℕ) (s : List ℕ) → AreChars s → length (flat_map in_text s ++ x ∷ xs) ≤ k → TextRead k (flat_map in_text s ++ x ∷ xs) s
    text_back k s are enough = text_by k [] s tt are enough
