-- What is found in a formed tree: elements that are formed, and values and texts of characters.
use Rattle.std.proofs.Common.{◌≡◌, ℕ, zero, suc, List, [], ◌∷◌, Bool, true, false, Option, Some, None, refl, chars}
use Rattle.std.specs.Prelude.{find, filter, map, option_map, option_and_then, unwrap_or}
use Rattle.std.specs.List.{AllByRecursion}
use Rattle.text_spec.specs.declared.pair.Pair.{Pair}
use Rattle.text_spec.specs.declared.row.Place.{Place}
use Rattle.text_spec.specs.declared.row.Place.TheVariants as place
use Rattle.text_spec.specs.declared.row.Source.TheVariants as source
use Rattle.text_spec.specs.declared.vocabulary.AttributeName.{AttributeName}
use Rattle.text_spec.specs.declared.vocabulary.ElementName.{ElementName}
use Rattle.text_spec.specs.Look.{listed, children_of, text_of, is_element, is_attribute, attribute_of, all_of, first_of, all_in, elements_at, element_at, value_at}
use Rattle.text_spec.specs.Tree.{Tree, element, Trees, none, first}
use Rattle.text_spec.specs.Writable.{IsAttribute, AreAttributes, IsText, IsTree, AreTrees}
use Rattle.text_laws.specs.Given.{IsValue}
use Rattle.text_laws.specs.Texts.{Of}
use Rattle.text_laws.proofs.Lookups.{value_of}

-- ---- parts that may be absent
pub then_of : {A B : Type 0} (P : A → Type 0) (Q : B → Type 0) (f : A → Option B) → ((x : A) → P x → Of Q (f x)) → (o : Option A) → Of P o
    → Of Q (option_and_then f o)
then_of P Q f each None is = tt
then_of P Q f each (Some x) is = each x is

pub map_of : {A B : Type 0} (P : A → Type 0) (Q : B → Type 0) (f : A → B) → ((x : A) → P x → Q (f x)) → (o : Option A) → Of P o → Of Q (option_map f o)
map_of P Q f each None is = tt
map_of P Q f each (Some x) is = each x is

pub or_of : {A : Type 0} (P : A → Type 0) (o : Option A) (default : A) → Of P o → P default → P (unwrap_or o default)
or_of P None default is other = other
or_of P (Some x) default is other = is

pub map_all : {A B : Type 0} (P : A → Type 0) (Q : B → Type 0) (f : A → B) → ((x : A) → P x → Q (f x)) → (xs : List A) → AllByRecursion P xs
    → AllByRecursion Q (map f xs)
map_all P Q f each [] all = tt
map_all P Q f each (x ∷ xs) all = (each x all.0, map_all P Q f each xs all.1)

-- ---- the elements of a list that pass a test
module _ {A : Type 0} (P : A → Type 0) (p : A → Bool) where
  found_by : (b : Bool) (x : A) (xs : List A) → p x ≡ b → P x → Of P (find p xs) → Of P (find p (x ∷ xs))
  found_by true x xs e is rest = rw e is
  found_by false x xs e is rest = rw e rest

  found_among : (xs : List A) → AllByRecursion P xs → Of P (find p xs)
  found_among [] all = tt
  found_among (x ∷ xs) all = found_by (p x) x xs refl all.0 (found_among xs all.1)

  sieved_by : (b : Bool) (x : A) (xs : List A) → p x ≡ b → P x → AllByRecursion P (filter p xs) → AllByRecursion P (filter p (x ∷ xs))
  sieved_by true x xs e is rest = rw e (is, rest)
  sieved_by false x xs e is rest = rw e rest

  sieved_among : (xs : List A) → AllByRecursion P xs → AllByRecursion P (filter p xs)
  sieved_among [] all = tt
  sieved_among (x ∷ xs) all = sieved_by (p x) x xs refl all.0 (sieved_among xs all.1)

-- ---- elements
-- a tree of some number of levels
pub record Formed (t : Tree) : Type 0 where
  pub depth : ℕ
  pub is : IsTree depth t

listed_formed : (depth : ℕ) (ts : Trees) → AreTrees depth ts → AllByRecursion Formed (listed ts)
listed_formed depth none are = tt
listed_formed depth (first t ts) are = (record { depth = depth; is = are.0 }, listed_formed depth ts are.1)

children_formed : (depth : ℕ) (t : Tree) → IsTree depth t → AllByRecursion Formed (children_of t)
children_formed zero t is = absurd is
children_formed (suc depth) (element name ps text kids) is = listed_formed depth kids is.3

first_formed : (n : ElementName) (t : Tree) → Formed t → Of Formed (first_of n t)
unfolding first_of
first_formed n t f = found_among Formed (is_element n) (children_of t) (children_formed f.depth t f.is)

all_formed : (n : ElementName) (t : Tree) → Formed t → AllByRecursion Formed (all_of n t)
unfolding all_of
all_formed n t f = sieved_among Formed (is_element n) (children_of t) (children_formed f.depth t f.is)

all_in_formed : (n : ElementName) (o : Option Tree) → Of Formed o → AllByRecursion Formed (all_in n o)
all_in_formed n None is = tt
all_in_formed n (Some t) is = all_formed n t is

pub formed_at : (p : Place) (t : Tree) → Formed t → Of Formed (element_at p t)
formed_at place.Here t f = f
formed_at (place.Child n) t f = first_formed n t f
formed_at (place.Inside outer n) t f = then_of Formed Formed (first_of n) (first_formed n) (first_of outer t) (first_formed outer t f)

pub all_formed_at : (p : Place) (t : Tree) → Formed t → AllByRecursion Formed (elements_at p t)
all_formed_at place.Here t f = (f, tt)
all_formed_at (place.Child n) t f = all_formed n t f
all_formed_at (place.Inside outer n) t f = all_in_formed n (first_of outer t) (first_formed outer t f)

-- ---- texts and values
text_by : (depth : ℕ) (t : Tree) → IsTree depth t → IsText (text_of t)
text_by zero t is = absurd is
text_by (suc depth) (element name ps text kids) is = is.2

valued_by : (n : AttributeName) (p : Pair) (ps : List Pair) (b : Bool) → is_attribute n p ≡ b → IsAttribute p → Of IsValue (value_of n ps)
    → Of IsValue (value_of n (p ∷ ps))
valued_by n p ps true e is rest = rw e (record { utf8 = is.value_utf8; value_chars = is.value })
valued_by n p ps false e is rest = rw e rest

valued_among : (n : AttributeName) (seen : List (List ℕ)) (ps : List Pair) → AreAttributes seen ps → Of IsValue (value_of n ps)
valued_among n seen [] are = tt
valued_among n seen (p ∷ ps) are = valued_by n p ps (is_attribute n p) refl are.0 (valued_among n (chars p.name ∷ seen) ps are.2)

attribute_by : (n : AttributeName) (depth : ℕ) (t : Tree) → IsTree depth t → Of IsValue (attribute_of n t)
unfolding attribute_of
attribute_by n zero t is = absurd is
attribute_by n (suc depth) (element name ps text kids) is = valued_among n [] ps is.1

pub attribute_formed : (n : AttributeName) (t : Tree) → Formed t → Of IsValue (attribute_of n t)
attribute_formed n t f = attribute_by n f.depth t f.is

pub text_at : (p : Place) (t : Tree) → Formed t → Of IsText (value_at p source.Text t)
text_at p t f = then_of Formed IsText (λ e. Some (text_of e)) (λ e g. text_by g.depth e g.is) (element_at p t) (formed_at p t f)

pub attribute_at : (p : Place) (n : AttributeName) (t : Tree) → Formed t → Of IsValue (value_at p (source.Attribute n) t)
attribute_at p n t f = then_of Formed IsValue (attribute_of n) (attribute_formed n) (element_at p t) (formed_at p t f)
