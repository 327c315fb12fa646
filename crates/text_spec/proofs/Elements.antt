-- An element that was written is read.
use Rattle.std.proofs.Common.{◌≡◌, ℕ, zero, suc, ◌-◌, ◌<◌, ◌≤◌, List, [], ◌∷◌, ◌++◌, length, true, false, Result, Ok, refl, sym, ◌∙◌, ap, ap₂, arith, length-append, append_assoc, append-nil, ne_eqb, add-one, inl, inr, Bool}
use Rattle.std.specs.Prelude.{chars, encode_utf8_all}
use Rattle.std.specs.List.{flat_map}
use Rattle.std.proofs.lemmas.List.Concat.{flat_map-append}
use Rattle.std.proofs.lemmas.Str.{encodes-chars}
use Rattle.text_spec.specs.declared.ahead.Ahead.TheVariants as ahead
use Rattle.text_spec.specs.declared.fault.Flaw.{Flaw}
use Rattle.text_spec.specs.declared.pair.Pair.{Pair}
use Rattle.text_spec.specs.Character.{is_char, is_run_char, is_name_start}
use Rattle.text_spec.specs.Tree.{Tree, element, Trees, none, first}
use Rattle.text_spec.specs.Element.{Grown, Inside, ElementReading, ahead_of, after_inside, with_element, content_at, trimmed, after_opening, element_at}
use Rattle.text_spec.specs.Written.{in_text, attribute_written, deeper, content_written, tree_written, trees_written}
use Rattle.text_spec.specs.Writable.{AreChars, IsName, IsNamed, IsText, AreAttributes, IsTree, size}
use Rattle.text_spec.proofs.Blanks.{Blanks, blanks_chars, blanks_text, both_blanks, both_chars, trimmed_back}
use Rattle.text_spec.proofs.Escapes.{text_char}
use Rattle.text_spec.proofs.Tags.{name_begins, begins, TagEnd, opening_back, closing_back}
use Rattle.text_spec.proofs.Texts.{content_step, one_less, text_back}

less_stops : is_run_char 60 ≡ false
unfolding is_char
less_stops = refl

less_is : is_char 60 ≡ true
unfolding is_char
less_is = refl

-- ---- an element without the blanks before it and the line end after it
abbrev pub closing : List ℕ → List ℕ
closing name = 60 ∷ 47 ∷ name ++ 62 ∷ []

abbrev pub childless : List ℕ → List ℕ → List ℕ
childless name [] = 47 ∷ 62 ∷ []
childless name (c ∷ text) = 62 ∷ (c ∷ text) ++ closing name

abbrev pub with_trees : List ℕ → List ℕ → List ℕ → List ℕ → List ℕ
with_trees inset name text inner = 62 ∷ text ++ 10 ∷ (inner ++ (inset ++ closing name))

abbrev pub content_core : List ℕ → List ℕ → List ℕ → List ℕ → Trees → List ℕ
content_core inset name text inner none = childless name text
content_core inset name text inner (first t ts) = with_trees inset name text inner

abbrev pub core : List ℕ → Tree → List ℕ
core inset (element n ps t ts) =
    60 ∷ (chars n ++ (flat_map attribute_written ps ++ content_core inset (chars n) (flat_map in_text (chars t)) (trees_written (deeper inset) ts) ts))

content_is : (inset name text inner : List ℕ) (ts : Trees) → content_written inset name text inner ts ≡ content_core inset name text inner ts ++ 10 ∷ []
content_is inset name [] inner none = refl
content_is inset name (c ∷ text) inner none = simp append_assoc
content_is inset name text inner (first t ts) = simp append_assoc

core_by : (inset n A C D : List ℕ) → C ≡ D ++ 10 ∷ [] → ((inset ++ (60 ∷ n)) ++ A) ++ C ≡ inset ++ ((60 ∷ (n ++ (A ++ D))) ++ 10 ∷ [])
core_by inset n A C D e = rw e (simp append_assoc)

pub core_is : (inset : List ℕ) (t : Tree) → tree_written inset t ≡ inset ++ (core inset t ++ 10 ∷ [])
unfolding tree_written
core_is inset (element n ps t ts) =
    core_by inset (chars n) (flat_map attribute_written ps) _ _
    (content_is inset (chars n) (flat_map in_text (chars t)) (trees_written (deeper inset) ts) ts)

-- ---- the trees in an element
-- what is read after a text, up to a closing tag
abbrev pub TreesRead : ElementReading → ℕ → ℕ → List ℕ → List ℕ → Trees → ℕ → List ℕ → Type 0
TreesRead child k room cs s ts left tail =
    (w : List ℕ) × Blanks w × (content_at child (suc k) room cs ≡ Ok (record { text = s ++ w; children = ts; room = left; rest = tail }))

closing_ahead : (cs : List ℕ) → ahead_of (60 ∷ 47 ∷ cs) ≡ ahead.ClosingTag
unfolding ahead_of
closing_ahead cs = refl

pub element_ahead : (x : ℕ) (cs : List ℕ) → is_name_start x ≡ true → ahead_of (60 ∷ x ∷ cs) ≡ ahead.Element
unfolding ahead_of
element_ahead x cs is = let b = begins x is in rw (ne_eqb x 47 b.slash, ne_eqb x 33 b.bang, ne_eqb x 63 b.question)

-- only a text, blanks, and a closing tag
pub text_closed : (child : ElementReading) (k room : ℕ) (s w more : List ℕ) → AreChars s → Blanks w
    → length (flat_map in_text (s ++ w) ++ 60 ∷ 47 ∷ more) ≤ k
    → content_at child (suc k) room (flat_map in_text (s ++ w) ++ 60 ∷ 47 ∷ more)
    ≡ Ok (record { text = s ++ w; children = none; room = room; rest = 60 ∷ 47 ∷ more })
text_closed child k room s w more are blanks enough =
    let read = text_back child room 60 (47 ∷ more) less_stops less_is k (s ++ w) (both_chars s w are (blanks_chars w blanks)) enough in
    read.2
    ∙ ap (after_inside (s ++ w) []) (content_step child read.0 room (60 ∷ 47 ∷ more) ahead.ClosingTag (closing_ahead more))
    ∙ ap (λ text. Ok (record { text = text; children = none; room = room; rest = 60 ∷ 47 ∷ more })) (append-nil (s ++ w))

-- what has to be shown of reading an element
abbrev pub ElementRead : ElementReading → ℕ → List ℕ → Tree → Type 0
ElementRead child room inset t = (rest : List ℕ) → child room (core inset t ++ rest) ≡ Ok (record { tree = t; room = room - size t; rest = rest })

grown : Tree → Trees → List ℕ → ℕ → List ℕ → Result Inside Flaw
grown t ts text room rest = Ok (record { text = text; children = first t ts; room = room; rest = rest })

pub core_begins : (depth : ℕ) (inset : List ℕ) (t : Tree) (rest : List ℕ) → IsTree depth t
    → (x : ℕ) × (xs : List ℕ) × (core inset t ++ rest ≡ 60 ∷ x ∷ xs) × (is_name_start x ≡ true)
core_begins zero inset t rest is = absurd is
core_begins (suc depth) inset (element n ps t ts) rest is =
    let named = name_begins (chars n) is.0.name_chars in
    (named.0, _, ap (λ name. (60 ∷ (name ++ (flat_map attribute_written ps ++ content_core inset (chars n) (flat_map in_text (chars t)) (trees_written (deeper inset) ts) ts))) ++ rest) named.2, named.3)

core_long : (inset : List ℕ) (t : Tree) → 0 < length (core inset t)
core_long inset (element n ps t ts) = omega arith

-- one tree after a text, and others after it
pub first_read : (child : ElementReading) (depth k room left : ℕ) (s inset tail : List ℕ) (t : Tree) (ts : Trees) (others : List ℕ)
    → AreChars s → Blanks inset → IsTree depth t → ElementRead child room inset t
    → length (flat_map in_text s ++ (tree_written inset t ++ others)) ≤ k
    → ((n : ℕ) → length (10 ∷ others) ≤ n → TreesRead child n (room - size t) (10 ∷ others) (10 ∷ []) ts left tail)
    → TreesRead child k room (flat_map in_text s ++ (tree_written inset t ++ others)) s (first t ts) left tail
unfolding grown
first_read child depth k room left s inset tail t ts others are blanks is reads enough more =
    let following = core inset t ++ 10 ∷ others in
    let begun = core_begins depth inset t (10 ∷ others) is in
    let spelled : flat_map in_text s ++ (tree_written inset t ++ others) ≡ flat_map in_text (s ++ inset) ++ following =
    rw (core_is inset t, flat_map-append in_text s inset, blanks_text inset blanks) (simp append_assoc) in
    let from : following ≡ 60 ∷ begun.0 ∷ begun.1 = begun.2 in
    let apart : flat_map in_text (s ++ inset) ++ following ≡ flat_map in_text (s ++ inset) ++ 60 ∷ begun.0 ∷ begun.1 = ap (λ cs. flat_map in_text (s ++ inset) ++ cs) from in
    let read = text_back child room 60 (begun.0 ∷ begun.1) less_stops less_is k (s ++ inset) (both_chars s inset are (blanks_chars inset blanks))
    (omega (arith, enough, ap length (spelled ∙ apart))) in
    let fewer = one_less (length (10 ∷ others)) read.0 (omega (arith, read.1, ap length from, length-append (core inset t) (10 ∷ others), core_long inset t)) in
    let rest = more fewer.0 fewer.2 in (
      inset ++ 10 ∷ rest.0,
      both_blanks inset (10 ∷ rest.0) blanks (inr refl, rest.1),
      ap (content_at child (suc k) room) (spelled ∙ apart)
          ∙ read.2
          ∙ ap (after_inside (s ++ inset) [])
          (ap (content_at child (suc read.0) room) (sym from)
          ∙ content_step child read.0 room following ahead.Element (ap ahead_of from ∙ element_ahead begun.0 begun.1 begun.3)
          ∙ ap (with_element (content_at child read.0)) (reads (10 ∷ others))
          ∙ ap (λ n. after_inside [] (t ∷ []) (content_at child n (room - size t) (10 ∷ others))) (sym fewer.1)
          ∙ ap (after_inside [] (t ∷ [])) rest.2)
          ∙ ap (λ text. grown t ts text left tail) (append_assoc s inset (10 ∷ rest.0)),
    )

-- ---- whole elements
text_back_bytes : (t : List ℕ) (w : List ℕ) → IsText t → Blanks w → encode_utf8_all (trimmed (chars t ++ w)) ≡ t
text_back_bytes t w is blanks = ap encode_utf8_all (trimmed_back (chars t) w is.bare_front is.bare_end blanks) ∙ encodes-chars t is.utf8

grown_tree : (n : List ℕ) (ps : List Pair) (t : List ℕ) (ts : Trees) (room : ℕ) (rest : List ℕ) → Result Grown Flaw
grown_tree n ps t ts room rest = Ok (record { tree = element n ps t ts; room = room; rest = rest })

-- an element whose content is read up to its closing tag
pub closed_back : (child : ElementReading) (room left : ℕ) (n : List ℕ) (ps : List Pair) (t w : List ℕ) (ts : Trees) (body rest : List ℕ)
    → IsNamed n → IsText t → Blanks w
    → content_at child (suc (length body)) room body ≡ Ok (record { text = chars t ++ w; children = ts; room = left; rest = 60 ∷ 47 ∷ chars n ++ 62 ∷ rest })
    → after_opening child room (record { name = chars n; attributes = ps; is_empty = false }, body) ≡ Ok (record { tree = element n ps t ts; room = left; rest = rest })
unfolding grown_tree
closed_back child room left n ps t w ts body rest named text blanks e =
    rw (add-one, e, closing_back (chars n) rest)
    (ap₂ (λ name held. grown_tree name ps held ts left rest) (encodes-chars n named.utf8) (text_back_bytes t w text blanks))

-- an element without content
pub empty_back : (child : ElementReading) (room : ℕ) (n : List ℕ) (ps : List Pair) (t rest : List ℕ) → IsNamed n → IsText t → chars t ≡ []
    → after_opening child room (record { name = chars n; attributes = ps; is_empty = true }, rest) ≡ Ok (record { tree = element n ps t none; room = room; rest = rest })
unfolding grown_tree
empty_back child room n ps t rest named text none_there =
    ap₂ (λ name held. grown_tree name ps held none room rest) (encodes-chars n named.utf8)
    (ap (λ cs. encode_utf8_all (trimmed (cs ++ []))) (sym none_there) ∙ text_back_bytes t [] text tt)

pub nothing : (cs : List ℕ) → AreChars cs → flat_map in_text cs ≡ [] → cs ≡ []
nothing [] are e = refl
nothing (c ∷ cs) are e =
    let long : length (in_text c ++ flat_map in_text cs) ≡ 0 = ap length e in
    absurd (elim (text_char c are.0) [
      | inl p ↦ omega (arith, long, length-append (in_text c) (flat_map in_text cs), ap length p.1)
      | inr ref ↦ omega (arith, long, length-append (in_text c) (flat_map in_text cs), ap length ref.is)
    ])

regroup : (n A C rest : List ℕ) → (60 ∷ (n ++ (A ++ C))) ++ rest ≡ 60 ∷ n ++ (A ++ (C ++ rest))
regroup n A C rest = ap (λ xs. 60 ∷ xs) (append_assoc n (A ++ C) rest ∙ ap (λ ys. n ++ ys) (append_assoc A C rest))

pub opened_back : (depth room : ℕ) (n A C rest : List ℕ) (ps : List Pair) (empty : Bool) (following : List ℕ) → A ≡ flat_map attribute_written ps
    → IsName n → AreAttributes [] ps → TagEnd (C ++ rest) empty following
    → element_at (suc depth) (suc room) ((60 ∷ (n ++ (A ++ C))) ++ rest)
    ≡ after_opening (element_at depth) room (record { name = n; attributes = ps; is_empty = empty }, following)
unfolding element_at
opened_back depth room n A C rest ps empty following e is are end =
    let spelled : (60 ∷ (n ++ (A ++ C))) ++ rest ≡ 60 ∷ n ++ (flat_map attribute_written ps ++ (C ++ rest)) =
    regroup n A C rest ∙ ap (λ B. 60 ∷ n ++ (B ++ (C ++ rest))) e in
    ap (element_at (suc depth) (suc room)) spelled ∙ rw (opening_back n ps (C ++ rest) empty following is are end)
