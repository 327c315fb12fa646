-- A whole text that was written is read.
use Rattle.std.proofs.Common.{◌≡◌, ℕ, ◌+◌, ◌-◌, ◌≤◌, List, [], ◌∷◌, ◌++◌, length, true, false, Ok, refl, ◌∙◌, ap, arith, add-one, ne_eqb}
use Rattle.std.specs.Prelude.{chars, IsUtf8, nat_lt}
use Rattle.std.specs.Str.Lossy.{utf8_valid_len}
use Rattle.std.proofs.Math.Utf8.{scalars}
use Rattle.std.proofs.lemmas.Bool.Decides.{nat_tests}
use Rattle.std.proofs.lemmas.Str.{chars-encodes, utf8_valid_len-IsUtf8}
use Rattle.text_spec.specs.Character.{is_name_start, after_blanks}
use Rattle.text_spec.specs.Reading.{expect}
use Rattle.text_spec.specs.Declaration.{after_declaration}
use Rattle.text_spec.specs.Tree.{Tree}
use Rattle.text_spec.specs.Element.{ahead_of, element_at}
use Rattle.text_spec.specs.Text.{most_bytes, most_levels, most_elements, misc_at, root_at, document, unmarked, tree_of_characters, read_of}
use Rattle.text_spec.specs.Written.{tree_written, written}
use Rattle.text_spec.specs.Writable.{size, IsWritable}
use Rattle.text_spec.proofs.Tags.{begins}
use Rattle.text_spec.proofs.Elements.{core, core_is, core_begins, element_ahead}
use Rattle.text_spec.proofs.Nested.{element_back}
use Rattle.text_spec.proofs.Scalars.{core_scalars, joined}

declared_back : (x : ℕ) (xs : List ℕ) → is_name_start x ≡ true → after_declaration (60 ∷ x ∷ xs) ≡ Ok (60 ∷ x ∷ xs)
unfolding after_declaration expect
declared_back x xs is = rw (ne_eqb x 63 (begins x is).question)

misc_back : (x : ℕ) (xs : List ℕ) → is_name_start x ≡ true → misc_at (length (60 ∷ x ∷ xs) + 1) (60 ∷ x ∷ xs) ≡ Ok (60 ∷ x ∷ xs)
unfolding misc_at after_blanks
misc_back x xs is = rw (add-one, element_ahead x xs is)

misc_end : misc_at (length {A = ℕ} (10 ∷ []) + 1) (10 ∷ []) ≡ Ok []
unfolding misc_at after_blanks ahead_of
misc_end = refl

document_by : (t : Tree) (left : ℕ) (cs : List ℕ) (x : ℕ) (xs : List ℕ) → cs ≡ 60 ∷ x ∷ xs → is_name_start x ≡ true
    → element_at most_levels most_elements cs ≡ Ok (record { tree = t; room = left; rest = 10 ∷ [] }) → document cs ≡ Ok t
unfolding document root_at
document_by t left cs x xs e is read =
    let read' = rw e at read in
    rw (e, declared_back x xs is, misc_back x xs is, read', misc_end)

unmarked_by : (cs : List ℕ) (x : ℕ) (xs : List ℕ) → cs ≡ 60 ∷ x ∷ xs → unmarked cs ≡ cs
unfolding unmarked
unmarked_by cs x xs e = rw e

not_less : (a b : ℕ) → b ≤ a → nat_lt a b ≡ false
not_less a b h = grind (arith, nat_tests)

pub read_whole : (bytes : List ℕ) → length bytes ≤ most_bytes → IsUtf8 bytes → read_of bytes ≡ tree_of_characters (chars bytes)
unfolding read_of
read_whole bytes short utf8 =
    let whole = utf8_valid_len-IsUtf8 bytes utf8 in
    let within = not_less most_bytes (length bytes) short in
    let reached = not_less (utf8_valid_len bytes) (length bytes) (omega (arith, whole)) in
    rw (within, reached)

tree_back : (cs : List ℕ) (t : Tree) → unmarked cs ≡ cs → document cs ≡ Ok t → tree_of_characters cs ≡ Ok t
unfolding tree_of_characters
tree_back cs t e d = rw (e, d)

pub written_back : (t : Tree) → IsWritable t → read_of (written t) ≡ Ok t
written_back t is =
    let cs = tree_written [] t in
    let whole : cs ≡ core [] t ++ 10 ∷ [] = core_is [] t in
    let begun = core_begins most_levels [] t (10 ∷ []) is.tree in
    let from : cs ≡ 60 ∷ begun.0 ∷ begun.1 = whole ∙ begun.2 in
    let are : scalars cs ≡ true = ap scalars whole ∙ joined (core [] t) (10 ∷ []) (core_scalars most_levels [] t is.tree tt) refl in
    let utf8 : IsUtf8 (written t) = (cs, (are, refl)) in
    let read = ap (element_at most_levels most_elements) whole
    ∙ element_back most_levels most_elements (most_elements - size t) [] t is.tree (omega (arith, is.elements)) tt (10 ∷ []) in
    read_whole (written t) is.bytes utf8
    ∙ ap tree_of_characters (chars-encodes cs are)
    ∙ tree_back cs t (unmarked_by cs begun.0 begun.1 from) (document_by t (most_elements - size t) cs begun.0 begun.1 from begun.3 read)
