-- A set of keys, with one more.
use Rattle.std.proofs.Common.{◌≡◌, ℕ, List, Bool, true, false, refl, cond, ◌∙◌}
use Rattle.std.specs.Prelude.{◌||◌, String}
use Rattle.std.specs.Str.{bytes_eq}
use Rattle.std.specs.Ordering.{nat_cmp}
use Rattle.std.specs.BTreeSet.{BTreeSet, UpdatesBy, contains_text}
use Rattle.std.specs.Cmp.Lexicographic.{slice_cmp}
use Rattle.std.specs.String.{string_bytes, string_cmp}
use Rattle.std.proofs.lemmas.Map.Text.{btree_set_updates_text}

either : (a b : Bool) → cond a true b ≡ a || b
either true b = refl
either false b = refl

pub one_more_key : {A : Type 0} (key : List ℕ) (old new : BTreeSet (String A))
    → UpdatesBy string_cmp (λ k. slice_cmp nat_cmp key (string_bytes k)) old new true
    → (other : List ℕ) → contains_text new other ≡ bytes_eq key other || contains_text old other
one_more_key key old new updates other =
    btree_set_updates_text key old new true updates other ∙ either (bytes_eq key other) (contains_text old other)
