-- Trees that are put together by words can be written, where they fit.
use Rattle.std.proofs.Common.{◌≡◌, ℕ, suc, ◌^◌, ◌<◌, List, [], ◌∷◌, length, true, Option, Some, None, refl, ap, arith}
use Rattle.std.specs.Prelude.{nat_le, codes, find, option_map}
use Rattle.std.specs.Fmt.{decimal}
use Rattle.std.specs.List.{AllByRecursion}
use Rattle.std.specs.Option.{option_to_list}
use Rattle.std.proofs.lemmas.Bool.Decides.{nat_tests}
use Rattle.uuid.specs.Text.{hyphenated_text, lower}
use Rattle.text_spec.specs.declared.pair.Pair.{Pair}
use Rattle.text_spec.specs.Character.{is_name_start, is_name_char}
use Rattle.text_spec.specs.Spelling.{fits}
use Rattle.text_spec.specs.Text.{most_bytes, most_levels, most_elements}
use Rattle.text_spec.specs.Tree.{Tree, trees}
use Rattle.text_spec.specs.Writable.{AreAttributes, AreTrees, IsNamed, IsText, IsTree, IsWritable, size}
use Rattle.text_spec.specs.Written.{written}
use Rattle.text_spec.proofs.Seen.{listed-trees}
use Rattle.text_laws.specs.Given.{IsValue}
use Rattle.text_laws.proofs.Bare.{uuid_plain}
use Rattle.text_laws.proofs.Parts.{both_of}
use Rattle.text_laws.proofs.Plain.{decimal_plain, named_by, no_text, plain_text, word_value}
use Rattle.xml_tables.specs.Called.{first_called, is_called}
use Rattle.xml_tables.specs.Spelled.{spelled, worded, worth}
use Rattle.xml_tables.specs.Values.{size_tree, uuid_tree}

-- a tree that fits can be written
pub writable : (t : Tree) → IsTree most_levels t → fits t ≡ true → IsWritable t
unfolding fits
writable t is e =
    let parts = both_of (nat_le (length (written t)) most_bytes) (nat_le (size t) most_elements) e in
    record { tree = is; elements = grind (arith, nat_tests, parts.1); bytes = grind (arith, nat_tests, parts.0) }

-- the elements in one
pub first_in : (word name text : List ℕ) (attributes : List Pair) (ts : List Tree) → first_called word (spelled name attributes text ts) ≡ find (is_called word) ts
unfolding first_called
first_in word name text attributes ts = ap (find (is_called word)) (listed-trees ts)

pub are_trees : (depth : ℕ) (ts : List Tree) → AllByRecursion (IsTree depth) ts → AreTrees depth (trees ts)
are_trees depth [] all = tt
are_trees depth (t ∷ ts) all = (all.0, are_trees depth ts all.1)

-- one attribute
pub one_attribute : (word value : List ℕ) → IsNamed word → IsValue value → AreAttributes [] (worth word value ∷ [])
one_attribute word value named is =
    (record { name_utf8 = named.utf8; name = named.name_chars; value_utf8 = is.utf8; value = is.value_chars }, refl, tt)

pub unit_named : IsNamed (codes "unit")
unfolding is_name_start is_name_char
unit_named = named_by _ _ refl refl refl

pub uuid_named : IsNamed (codes "uuid")
unfolding is_name_start is_name_char
uuid_named = named_by _ _ refl refl refl

module _ (depth : ℕ) where
  pub word_formed : (word text : List ℕ) → IsNamed word → IsText text → IsTree (suc depth) (worded word text)
  word_formed word text named is = (named, tt, is, tt)

  pub holder_formed : (word : List ℕ) (attributes : List Pair) (ts : List Tree) → IsNamed word → AreAttributes [] attributes → AllByRecursion (IsTree depth) ts
      → IsTree (suc depth) (spelled word attributes [] ts)
  holder_formed word attributes ts named are all = (named, are, no_text, are_trees depth ts all)

  pub size_formed : (word : List ℕ) (bytes : ℕ) → IsNamed word → bytes < 2 ^ 64 → IsTree (suc depth) (size_tree word bytes)
  size_formed word bytes named small =
      (named, one_attribute (codes "unit") (codes "bytes") unit_named (word_value _ refl), plain_text (decimal bytes) (decimal_plain bytes small), tt)

  pub uuid_formed : (uuid : Option (List ℕ)) → AllByRecursion (IsTree (suc depth)) (option_to_list (option_map uuid_tree uuid))
  uuid_formed None = tt
  uuid_formed (Some uuid) = (word_formed (codes "uuid") (hyphenated_text lower uuid) uuid_named (plain_text (hyphenated_text lower uuid) (uuid_plain uuid)), tt)
