-- The trees that reading can give: what is written of them reads back.
use Rattle.std.specs.Prelude.{◌≡◌, ℕ, zero, suc, ◌+◌, ◌≤◌, List, [], ◌∷◌, length, true, false, chars, IsUtf8, reverse}
use Rattle.std.specs.List.{AllByRecursion}
use Rattle.text_spec.specs.declared.pair.Pair.{Pair}
use Rattle.text_spec.specs.Character.{is_char, is_name_start, is_name_char, starts_blank}
use Rattle.text_spec.specs.Tag.{is_among}
use Rattle.text_spec.specs.Tree.{Tree, element, Trees, none, first}
use Rattle.text_spec.specs.Text.{most_bytes, most_levels, most_elements}
use Rattle.text_spec.specs.Written.{written}

-- Name (5)
abbrev pub IsName : List ℕ → Type 0
IsName [] = ⊥
IsName (c ∷ cs) = (is_name_start c ≡ true) × AllByRecursion (λ x. is_name_char x ≡ true) (c ∷ cs)

-- characters that a text may hold
abbrev pub AreChars : List ℕ → Type 0
AreChars cs = AllByRecursion (λ c. is_char c ≡ true) cs

-- an attribute with a name, and a value of characters
pub record IsAttribute (p : Pair) : Type 0 where
  pub name_utf8 : IsUtf8 p.name
  pub name : IsName (chars p.name)
  pub value_utf8 : IsUtf8 p.value
  pub value : AreChars (chars p.value)

-- attributes whose names are none of those seen, and each another
abbrev pub AreAttributes : List (List ℕ) → List Pair → Type 0
AreAttributes seen [] = Unit {0}
AreAttributes seen (p ∷ ps) =
    IsAttribute p × (is_among (chars p.name) seen ≡ false) × AreAttributes (chars p.name ∷ seen) ps

-- an element's own text, with no blank at either end
pub record IsText (text : List ℕ) : Type 0 where
  pub utf8 : IsUtf8 text
  pub text_chars : AreChars (chars text)
  pub bare_front : starts_blank (chars text) ≡ false
  pub bare_end : starts_blank (reverse (chars text)) ≡ false

-- a name as the bytes of one
pub record IsNamed (name : List ℕ) : Type 0 where
  pub utf8 : IsUtf8 name
  pub name_chars : IsName (chars name)

-- a tree of at most so many levels
abbrev mutual
  pub IsTree : ℕ → Tree → Type 0
  IsTree zero tree = ⊥
  IsTree (suc depth) (element name attributes text children) =
      IsNamed name × AreAttributes [] attributes × IsText text × AreTrees depth children

  pub AreTrees : ℕ → Trees → Type 0
  AreTrees depth none = Unit {0}
  AreTrees depth (first t ts) = IsTree depth t × AreTrees depth ts

-- how many elements
abbrev mutual
  pub size : Tree → ℕ
  size (element name attributes text children) = 1 + sizes children

  pub sizes : Trees → ℕ
  sizes none = 0
  sizes (first t ts) = size t + sizes ts

-- a tree within the limits of a text
pub record IsWritable (t : Tree) : Type 0 where
  pub tree : IsTree most_levels t
  pub elements : size t ≤ most_elements
  pub bytes : length (written t) ≤ most_bytes
