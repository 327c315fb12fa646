-- Elements in elements that were written are read.
use Rattle.std.proofs.Common.{◌≡◌, ℕ, zero, suc, ◌+◌, ◌-◌, ◌≤◌, List, [], ◌∷◌, ◌++◌, length, true, false, Ok, refl, sym, ◌∙◌, ap, arith, append_assoc, append-nil, inl, inr}
use Rattle.std.specs.Prelude.{chars}
use Rattle.std.specs.List.{flat_map}
use Rattle.std.proofs.lemmas.List.Concat.{flat_map-append}
use Rattle.text_spec.specs.declared.pair.Pair.{Pair}
use Rattle.text_spec.specs.Tree.{Tree, element, Trees, none, first}
use Rattle.text_spec.specs.Element.{content_at, element_at}
use Rattle.text_spec.specs.Written.{in_text, attribute_written, deeper, tree_written, trees_written}
use Rattle.text_spec.specs.Writable.{AreChars, IsNamed, IsText, AreAttributes, IsTree, AreTrees, size, sizes}
use Rattle.text_spec.proofs.Blanks.{Blanks, blanks_text, both_blanks, line_chars}
use Rattle.text_spec.proofs.Tags.{full_end, empty_end}
use Rattle.text_spec.proofs.Elements.{closing, childless, core, TreesRead, text_closed, first_read, closed_back, empty_back, nothing, opened_back}

text_body : (X n rest : List ℕ) → (X ++ closing n) ++ rest ≡ X ++ (60 ∷ 47 ∷ (n ++ 62 ∷ rest))
text_body X n rest = append_assoc X (closing n) rest ∙ ap (λ c. X ++ c) (append_assoc (60 ∷ 47 ∷ n) (62 ∷ []) rest)

module _ (depth room : ℕ) (n : List ℕ) (ps : List Pair) (t rest : List ℕ) (named : IsNamed n) (are : AreAttributes [] ps) (text : IsText t) where
  childless_by : (X : List ℕ) → flat_map in_text (chars t) ≡ X
      → element_at (suc depth) (suc room) ((60 ∷ (chars n ++ (flat_map attribute_written ps ++ childless (chars n) X))) ++ rest)
      ≡ Ok (record { tree = element n ps t none; room = room; rest = rest })
  childless_by [] e =
      opened_back depth room (chars n) (flat_map attribute_written ps) (47 ∷ 62 ∷ []) rest ps true rest refl named.name_chars are (empty_end rest)
      ∙ empty_back (element_at depth) room n ps t rest named text (nothing (chars t) text.text_chars e)
  childless_by (c ∷ X) e =
      let body = ((c ∷ X) ++ closing (chars n)) ++ rest in
      let spelled : body ≡ flat_map in_text (chars t ++ []) ++ (60 ∷ 47 ∷ (chars n ++ 62 ∷ rest)) =
      text_body (c ∷ X) (chars n) rest
      ∙ ap (λ Y. Y ++ (60 ∷ 47 ∷ (chars n ++ 62 ∷ rest))) (sym e ∙ ap (flat_map in_text) (sym (append-nil (chars t)))) in
      opened_back depth room (chars n) (flat_map attribute_written ps) (62 ∷ ((c ∷ X) ++ closing (chars n))) rest ps false body refl named.name_chars are (full_end body)
      ∙ closed_back (element_at depth) room room n ps t [] none body rest named text tt
      (ap (content_at (element_at depth) (suc (length body)) room) spelled
      ∙ text_closed (element_at depth) (length body) room (chars t) [] (chars n ++ 62 ∷ rest) text.text_chars tt (omega (arith, ap length spelled)))

line_text : (s : List ℕ) → flat_map in_text (s ++ 10 ∷ []) ≡ flat_map in_text s ++ 10 ∷ []
line_text s = flat_map-append in_text s (10 ∷ []) ∙ ap (λ ys. flat_map in_text s ++ ys) (blanks_text (10 ∷ []) (inr refl, tt))

regroup : (X inner inset n rest : List ℕ) → (X ++ 10 ∷ (inner ++ (inset ++ closing n))) ++ rest
    ≡ (X ++ 10 ∷ []) ++ (inner ++ (inset ++ (60 ∷ 47 ∷ (n ++ 62 ∷ rest))))
regroup X inner inset n rest = simp append_assoc

-- an element whose trees are read
with_back : (depth room left : ℕ) (inset n : List ℕ) (ps : List Pair) (t rest : List ℕ) (kid : Tree) (kids : Trees)
    → IsNamed n → AreAttributes [] ps → IsText t
    → ((k : ℕ) → length (flat_map in_text (chars t ++ 10 ∷ []) ++ (trees_written (deeper inset) (first kid kids) ++ (inset ++ (60 ∷ 47 ∷ (chars n ++ 62 ∷ rest))))) ≤ k
    → TreesRead (element_at depth) k room
    (flat_map in_text (chars t ++ 10 ∷ []) ++ (trees_written (deeper inset) (first kid kids) ++ (inset ++ (60 ∷ 47 ∷ (chars n ++ 62 ∷ rest)))))
    (chars t ++ 10 ∷ []) (first kid kids) left ((60 ∷ 47 ∷ (chars n ++ 62 ∷ rest))))
    → element_at (suc depth) (suc room) (core inset (element n ps t (first kid kids)) ++ rest)
    ≡ Ok (record { tree = element n ps t (first kid kids); room = left; rest = rest })
with_back depth room left inset n ps t rest kid kids named are text reads =
    let X = flat_map in_text (chars t) in
    let inner = trees_written (deeper inset) (first kid kids) in
    let tail = (60 ∷ 47 ∷ (chars n ++ 62 ∷ rest)) in
    let body = (X ++ 10 ∷ (inner ++ (inset ++ closing (chars n)))) ++ rest in
    let spelled : body ≡ flat_map in_text (chars t ++ 10 ∷ []) ++ (inner ++ (inset ++ tail)) =
    regroup X inner inset (chars n) rest ∙ ap (λ Y. Y ++ (inner ++ (inset ++ tail))) (sym (line_text (chars t))) in
    let read = reads (length body) (omega (arith, ap length spelled)) in
    opened_back depth room (chars n) (flat_map attribute_written ps) (62 ∷ (X ++ 10 ∷ (inner ++ (inset ++ closing (chars n))))) rest ps false body refl named.name_chars are (full_end body)
    ∙ closed_back (element_at depth) room left n ps t (10 ∷ read.0) (first kid kids) body rest named text (inr refl, read.1)
    (ap (content_at (element_at depth) (suc (length body)) room) spelled
    ∙ read.2
    ∙ ap (λ held. Ok (record { text = held; children = first kid kids; room = left; rest = tail })) (append_assoc (chars t) (10 ∷ []) read.0))

last_blanks : (s last tail : List ℕ) → Blanks last → flat_map in_text s ++ (last ++ tail) ≡ flat_map in_text (s ++ last) ++ tail
last_blanks s last tail b =
    sym (ap (λ xs. xs ++ tail) (flat_map-append in_text s last ∙ ap (λ ys. flat_map in_text s ++ ys) (blanks_text last b))
    ∙ append_assoc (flat_map in_text s) last tail)

pub none_written : (i : List ℕ) → trees_written i none ≡ []
unfolding trees_written
none_written i = refl

pub first_written : (i : List ℕ) (t : Tree) (ts : Trees) → trees_written i (first t ts) ≡ tree_written i t ++ trees_written i ts
unfolding trees_written
first_written i t ts = refl

pub deeper_blanks : (i : List ℕ) → Blanks i → Blanks (deeper i)
deeper_blanks i b = both_blanks i (32 ∷ 32 ∷ []) b (inl refl, (inl refl, tt))

mutual
  pub element_back : (depth room left : ℕ) (inset : List ℕ) (t : Tree) → IsTree depth t → room ≡ left + size t → Blanks inset → (rest : List ℕ)
      → element_at depth room (core inset t ++ rest) ≡ Ok (record { tree = t; room = left; rest = rest })
  element_back zero room left inset t is e b rest = absurd is
  element_back (suc depth) zero left inset (element n ps t ts) is e b rest = absurd (omega (arith, e))
  element_back (suc depth) (suc room) left inset (element n ps t none) is e b rest =
      let same : room ≡ left = omega (arith, e) in
      childless_by depth room n ps t rest is.0 is.1 is.2 (flat_map in_text (chars t)) refl
      ∙ ap (λ r. Ok (record { tree = element n ps t none; room = r; rest = rest })) same
  element_back (suc depth) (suc room) left inset (element n ps t (first kid kids)) is e b rest =
      with_back depth room left inset n ps t rest kid kids is.0 is.1 is.2
      (λ k h. trees_back depth k room left (deeper inset) inset (chars t ++ 10 ∷ []) (chars n ++ 62 ∷ rest) (first kid kids) is.3 (omega (arith, e))
      (line_chars (chars t) is.2.text_chars) (deeper_blanks inset b) b h)

  pub trees_back : (depth k room left : ℕ) (i last s more : List ℕ) (ts : Trees) → AreTrees depth ts → room ≡ left + sizes ts → AreChars s → Blanks i → Blanks last
      → length (flat_map in_text s ++ (trees_written i ts ++ (last ++ 60 ∷ 47 ∷ more))) ≤ k
      → TreesRead (element_at depth) k room (flat_map in_text s ++ (trees_written i ts ++ (last ++ 60 ∷ 47 ∷ more))) s ts left (60 ∷ 47 ∷ more)
  trees_back depth k room left i last s more none is e are b d enough =
      let spelled = ap (λ xs. flat_map in_text s ++ (xs ++ (last ++ 60 ∷ 47 ∷ more))) (none_written i) ∙ last_blanks s last (60 ∷ 47 ∷ more) d in
      let same : room ≡ left = omega (arith, e) in (
        last,
        d,
        ap (content_at (element_at depth) (suc k) room) spelled
            ∙ text_closed (element_at depth) k room s last more are d (omega (arith, enough, ap length spelled))
            ∙ ap (λ r. Ok (record { text = s ++ last; children = none; room = r; rest = 60 ∷ 47 ∷ more })) same,
      )
  trees_back depth k room left i last s more (first t ts) is e are b d enough =
      let tail = 60 ∷ 47 ∷ more in
      let others = trees_written i ts ++ (last ++ tail) in
      let spelled = ap (λ xs. flat_map in_text s ++ (xs ++ (last ++ tail))) (first_written i t ts)
      ∙ ap (λ xs. flat_map in_text s ++ xs) (append_assoc (tree_written i t) (trees_written i ts) (last ++ tail)) in
      let line : flat_map in_text (10 ∷ []) ++ others ≡ 10 ∷ others = ap (λ xs. xs ++ others) (blanks_text (10 ∷ []) (inr refl, tt)) in
      let read = first_read (element_at depth) depth k room left s i tail t ts others are b is.0
      (λ rest. element_back depth room (room - size t) i t is.0 (omega (arith, e)) b rest)
      (omega (arith, enough, ap length spelled))
      (λ n h. let following = trees_back depth n (room - size t) left i last (10 ∷ []) more ts is.1 (omega (arith, e)) (line_chars [] tt) b d (omega (arith, h, ap length line)) in
      (following.0, following.1, ap (content_at (element_at depth) (suc n) (room - size t)) (sym line) ∙ following.2)) in
      (read.0, read.1, ap (content_at (element_at depth) (suc k) room) spelled ∙ read.2)
