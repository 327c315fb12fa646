-- Rows of element tables that find no fault.
use Rattle.std.proofs.Common.{◌≡◌, ℕ, List, [], ◌∷◌, Option, Some, None, refl}
use Rattle.text_spec.specs.declared.row.Content.{Content}
use Rattle.text_spec.specs.declared.row.Content.TheVariants as content
use Rattle.text_spec.specs.declared.row.Place.{Place}
use Rattle.text_spec.specs.declared.row.Row.{Row}
use Rattle.text_spec.specs.declared.row.Source.{Source}
use Rattle.text_spec.specs.declared.vocabulary.ElementName.{ElementName}
use Rattle.text_spec.specs.Content.{content_fault}
use Rattle.text_spec.specs.Look.{element_at, value_in}
use Rattle.text_spec.specs.Table.{needed, optional, value_fault, wrong_in_first, wrong_at, rows_fault}
use Rattle.text_spec.specs.Tree.{Tree}

-- rows of which the first finds no fault
pub clean : (names : List ElementName) (r : Row) (rs : List Row) (t : Tree) → wrong_at r t ≡ None → rows_fault names rs t ≡ None
    → rows_fault names (r ∷ rs) t ≡ None
unfolding rows_fault
clean names r rs t here rest = rw here rest

pub none_left : (names : List ElementName) (t : Tree) → rows_fault names [] t ≡ None
unfolding rows_fault
none_left names t = refl

any_text : (p : Place) (s : Source) (t : Tree) (value : Option (List ℕ)) → value_fault (optional p s content.Text) t value ≡ None
unfolding content_fault
any_text p s t None = refl
any_text p s t (Some v) = refl

any_first : (p : Place) (s : Source) (first : Option Tree) → wrong_in_first (optional p s content.Text) first ≡ None
any_first p s None = refl
any_first p s (Some t) = any_text p s t (value_in s t)

-- a text may be any, or absent
pub text_row : (p : Place) (s : Source) (t : Tree) → wrong_at (optional p s content.Text) t ≡ None
unfolding wrong_at
text_row p s t = any_first p s (element_at p t)

-- an element whose value is a good one
pub value_row : (r : Row) (t : Tree) (first : Tree) (v : List ℕ) → value_in r.source first ≡ Some v → content_fault r.content first v ≡ None
    → wrong_in_first r (Some first) ≡ None
value_row r t first v is good = rw is good

pub optional_row : (p : Place) (s : Source) (c : Content) (t first : Tree) (v : List ℕ) → element_at p t ≡ Some first → value_in s first ≡ Some v
    → content_fault c first v ≡ None → wrong_at (optional p s c) t ≡ None
unfolding wrong_at
optional_row p s c t first v at is good = rw (at, is) good

pub needed_row : (p : Place) (s : Source) (c : Content) (t first : Tree) (v : List ℕ) → element_at p t ≡ Some first → value_in s first ≡ Some v
    → content_fault c first v ≡ None → wrong_at (needed p s c) t ≡ None
unfolding wrong_at
needed_row p s c t first v at is good = rw (at, is) good

-- an element that is absent, where it may be
pub absent_row : (p : Place) (s : Source) (c : Content) (t : Tree) → element_at p t ≡ None → wrong_at (optional p s c) t ≡ None
unfolding wrong_at
absent_row p s c t at = rw at
