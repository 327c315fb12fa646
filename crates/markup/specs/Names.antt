-- The names of a tag's attributes that were met, as a set in order.
use Rattle.std.specs.Prelude.{◌≡◌, ℕ, List, Bool}
use Rattle.std.specs.Borrow.{Bor}
use Rattle.std.specs.BTreeSet.{BTreeSet, contains_by}
use Rattle.std.specs.Ordering.{nat_cmp}
use Rattle.std.specs.Cmp.Lexicographic.{slice_cmp}
use Rattle.text_spec.specs.Tag.{is_among}

-- the set has this name
abbrev pub has : BTreeSet (Bor (List ℕ)) → List ℕ → Bool
has names name = contains_by (λ k. slice_cmp nat_cmp name k.now) names

-- the set has these names and no others
abbrev pub Holds : BTreeSet (Bor (List ℕ)) → List (List ℕ) → Type 0
Holds names seen = (name : List ℕ) → has names name ≡ is_among name seen
