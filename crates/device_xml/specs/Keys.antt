-- The keys of devices that were met, as a set in order.
use Rattle.std.specs.Prelude.{◌≡◌, ℕ, List, String}
use Rattle.std.specs.BTreeSet.{BTreeSet, contains_text}
use Rattle.text_spec.specs.Tag.{is_among}

-- the set has these keys and no others
abbrev pub Holds : {A : Type 0} → BTreeSet (String A) → List (List ℕ) → Type 0
Holds keys met = (key : List ℕ) → contains_text keys key ≡ is_among key met
