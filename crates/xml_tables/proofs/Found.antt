-- What is found by words in a formed tree: elements that are formed, and values and texts of characters.
use Rattle.std.proofs.Common.{◌≡◌, ℕ, zero, suc, List, [], ◌∷◌, Bool, true, false, Option, Some, None, refl, chars}
use Rattle.std.specs.Prelude.{find, filter, option_map, option_and_then}
use Rattle.std.specs.List.{AllByRecursion}
use Rattle.text_spec.specs.declared.pair.Pair.{Pair}
use Rattle.text_spec.specs.Look.{listed, children_of, text_of}
use Rattle.text_spec.specs.Tree.{Tree, element, Trees, none, first}
use Rattle.text_spec.specs.Writable.{IsAttribute, AreAttributes, IsText, IsTree, AreTrees}
use Rattle.text_laws.specs.Given.{IsValue}
use Rattle.text_laws.specs.Texts.{Of}
use Rattle.xml_tables.specs.Called.{all_called, first_called, is_called, is_pair_called, text_called, value_called}

-- ---- parts that may be absent
pub then_of : {A B : Type 0} (P : A → Type 0) (Q : B → Type 0) (f : A → Option B) → ((x : A) → P x → Of Q (f x)) → (o : Option A) → Of P o
    → Of Q (option_and_then f o)
then_of P Q f each None is = tt
then_of P Q f each (Some x) is = each x is

pub map_of : {A B : Type 0} (P : A → Type 0) (Q : B → Type 0) (f : A → B) → ((x : A) → P x → Q (f x)) → (o : Option A) → Of P o → Of Q (option_map f o)
map_of P Q f each None is = tt
map_of P Q f each (Some x) is = each x is

-- ---- the elements of a list that pass a test
module _ {A : Type 0} (P : A → Type 0) (p : A → Bool) where
  found_by : (b : Bool) (x : A) (xs : List A) → p x ≡ b → P x → Of P (find p xs) → Of P (find p (x ∷ xs))
  found_by true x xs e is rest = rw e is
  found_by false x xs e is rest = rw e rest

  found_among : (xs : List A) → AllByRecursion P xs → Of P (find p xs)
  found_among [] all = tt
  found_among (x ∷ xs) all = found_by (p x) x xs refl all.0 (found_among xs all.1)

  sieved_by : (b : Bool) (x : A) (xs : List A) → p x ≡ b → P x → AllByRecursion P (filter p xs) → AllByRecursion P (filter p (x ∷ xs))
  sieved_by true x xs e is rest = rw e (is, rest)
  sieved_by false x xs e is rest = rw e rest

  sieved_among : (xs : List A) → AllByRecursion P xs → AllByRecursion P (filter p xs)
  sieved_among [] all = tt
  sieved_among (x ∷ xs) all = sieved_by (p x) x xs refl all.0 (sieved_among xs all.1)

-- ---- elements
-- a tree of some number of levels
pub record Formed (t : Tree) : Type 0 where
  pub depth : ℕ
  pub is : IsTree depth t

listed_formed : (depth : ℕ) (ts : Trees) → AreTrees depth ts → AllByRecursion Formed (listed ts)
listed_formed depth none are = tt
listed_formed depth (first t ts) are = (record { depth = depth; is = are.0 }, listed_formed depth ts are.1)

children_formed : (depth : ℕ) (t : Tree) → IsTree depth t → AllByRecursion Formed (children_of t)
children_formed zero t is = absurd is
children_formed (suc depth) (element name ps text kids) is = listed_formed depth kids is.3

pub first_formed : (word : List ℕ) (t : Tree) → Formed t → Of Formed (first_called word t)
unfolding first_called
first_formed word t f = found_among Formed (is_called word) (children_of t) (children_formed f.depth t f.is)

pub all_formed : (word : List ℕ) (t : Tree) → Formed t → AllByRecursion Formed (all_called word t)
unfolding all_called
all_formed word t f = sieved_among Formed (is_called word) (children_of t) (children_formed f.depth t f.is)

-- ---- texts and values
text_by : (depth : ℕ) (t : Tree) → IsTree depth t → IsText (text_of t)
text_by zero t is = absurd is
text_by (suc depth) (element name ps text kids) is = is.2

pub text_formed : (word : List ℕ) (t : Tree) → Formed t → Of IsText (text_called word t)
text_formed word t f = map_of Formed IsText text_of (λ e g. text_by g.depth e g.is) (first_called word t) (first_formed word t f)

abbrev value_among : List ℕ → List Pair → Option (List ℕ)
value_among word ps = option_map (λ p. p.value) (find (is_pair_called word) ps)

valued_by : (word : List ℕ) (p : Pair) (ps : List Pair) (b : Bool) → is_pair_called word p ≡ b → IsAttribute p → Of IsValue (value_among word ps)
    → Of IsValue (value_among word (p ∷ ps))
valued_by word p ps true e is rest = rw e (record { utf8 = is.value_utf8; value_chars = is.value })
valued_by word p ps false e is rest = rw e rest

valued_among : (word : List ℕ) (seen : List (List ℕ)) (ps : List Pair) → AreAttributes seen ps → Of IsValue (value_among word ps)
valued_among word seen [] are = tt
valued_among word seen (p ∷ ps) are = valued_by word p ps (is_pair_called word p) refl are.0 (valued_among word (chars p.name ∷ seen) ps are.2)

value_by : (word : List ℕ) (depth : ℕ) (t : Tree) → IsTree depth t → Of IsValue (value_called word t)
unfolding value_called
value_by word zero t is = absurd is
value_by word (suc depth) (element name ps text kids) is = valued_among word [] ps is.1

pub value_formed : (word : List ℕ) (t : Tree) → Formed t → Of IsValue (value_called word t)
value_formed word t f = value_by word f.depth t f.is
