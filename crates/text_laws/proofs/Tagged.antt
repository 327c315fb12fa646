-- Elements and attributes that are put together are formed.
use Rattle.std.proofs.Common.{◌≡◌, ℕ, suc, List, [], ◌∷◌, ◌++◌, Bool, true, false, Option, Some, None, refl}
use Rattle.std.specs.Prelude.{◌&&◌, not, chars, map}
use Rattle.std.specs.List.{AllByRecursion}
use Rattle.text_spec.specs.declared.pair.Pair.{Pair}
use Rattle.text_spec.specs.declared.vocabulary.AttributeName.{AttributeName}
use Rattle.text_spec.specs.declared.vocabulary.ElementName.{ElementName}
use Rattle.text_spec.specs.Spelling.{pair, pairs, filled, present}
use Rattle.text_spec.specs.Tag.{is_among}
use Rattle.text_spec.specs.Tree.{Tree, trees}
use Rattle.text_spec.specs.Vocabulary.{attribute_word}
use Rattle.text_spec.specs.Writable.{IsAttribute, AreAttributes, IsText, IsTree, AreTrees}
use Rattle.text_laws.specs.Given.{IsValue}
use Rattle.text_laws.specs.Texts.{Of}
use Rattle.text_laws.proofs.Names.{element_named, attribute_named}
use Rattle.text_laws.proofs.Parts.{both_of}

-- ---- attributes
abbrev pub word : AttributeName → List ℕ
word n = chars (attribute_word n)

is_attribute : (n : AttributeName) (v : List ℕ) → IsValue v → IsAttribute (pair n v)
is_attribute n v is = record {
  name_utf8 = (attribute_named n).utf8;
  name = (attribute_named n).name_chars;
  value_utf8 = is.utf8;
  value = is.value_chars;
}

-- the names differ from these and from one another, whichever of them are there
abbrev pub apart : List (List ℕ) → List AttributeName → Bool
apart seen [] = true
apart seen (n ∷ ns) = not (is_among (word n) seen) && (apart (word n ∷ seen) ns && apart seen ns)

abbrev pub Valued : Type 0
Valued = AttributeName × Option (List ℕ)

abbrev pub all_pairs : List Valued → List Pair
all_pairs [] = []
all_pairs (a ∷ more) = pairs a.0 a.1 ++ all_pairs more

abbrev pub names_of : List Valued → List AttributeName
names_of more = map (λ a. a.0) more

is_fresh : (b : Bool) → not b ≡ true → b ≡ false
is_fresh true e = absurd cc
is_fresh false e = refl

attribute_then : (seen : List (List ℕ)) (n : AttributeName) (v : Option (List ℕ)) (rest : List Pair) → Of IsValue v → is_among (word n) seen ≡ false
    → AreAttributes (word n ∷ seen) rest → AreAttributes seen rest → AreAttributes seen (pairs n v ++ rest)
attribute_then seen n None rest is fresh with_it without = without
attribute_then seen n (Some v) rest is fresh with_it without = (is_attribute n v is, fresh, with_it)

pub attributes : (seen : List (List ℕ)) (more : List Valued) → apart seen (names_of more) ≡ true → AllByRecursion (λ a. Of IsValue a.1) more
    → AreAttributes seen (all_pairs more)
attributes seen [] e all = tt
attributes seen (a ∷ more) e all =
    let one = both_of (not (is_among (word a.0) seen)) (apart (word a.0 ∷ seen) (names_of more) && apart seen (names_of more)) e in
    let two = both_of (apart (word a.0 ∷ seen) (names_of more)) (apart seen (names_of more)) one.1 in
    attribute_then seen a.0 a.1 (all_pairs more) all.0 (is_fresh (is_among (word a.0) seen) one.0)
    (attributes (word a.0 ∷ seen) more two.0 all.1) (attributes seen more two.1 all.1)

-- ---- elements
are_trees : (depth : ℕ) (ts : List Tree) → AllByRecursion (IsTree depth) ts → AreTrees depth (trees ts)
are_trees depth [] all = tt
are_trees depth (t ∷ ts) all = (all.0, are_trees depth ts all.1)

pub formed : (depth : ℕ) (n : ElementName) (ps : List Pair) (text : List ℕ) (ts : List Tree) → AreAttributes [] ps → IsText text
    → AllByRecursion (IsTree depth) ts → IsTree (suc depth) (filled n ps text ts)
formed depth n ps text ts are is all = (element_named n, are, is, are_trees depth ts all)

pub part_formed : {A : Type 0} (depth : ℕ) (tree_of : A → Tree) (P : A → Type 0) → ((x : A) → P x → IsTree depth (tree_of x))
    → (part : Option A) → Of P part → AllByRecursion (IsTree depth) (present tree_of part)
part_formed depth tree_of P each None is = tt
part_formed depth tree_of P each (Some x) is = (each x is, tt)

pub all_formed : {A : Type 0} (depth : ℕ) (tree_of : A → Tree) (P : A → Type 0) → ((x : A) → P x → IsTree depth (tree_of x))
    → (xs : List A) → AllByRecursion P xs → AllByRecursion (IsTree depth) (map tree_of xs)
all_formed depth tree_of P each [] all = tt
all_formed depth tree_of P each (x ∷ xs) all = (each x all.0, all_formed depth tree_of P each xs all.1)
