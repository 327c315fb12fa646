-- A set of names, with one more.
use Rattle.std.proofs.Common.{◌≡◌, ℕ, List, Bool, true, false, refl, cond, ap, ◌∙◌, Bor}
use Rattle.std.specs.Prelude.{◌||◌}
use Rattle.std.specs.Str.{bytes_eq}
use Rattle.std.specs.Ordering.{nat_cmp}
use Rattle.std.specs.BTreeSet.{BTreeSet, UpdatesBy}
use Rattle.std.specs.Cmp.Lexicographic.{slice_cmp}
use Rattle.std.proofs.lemmas.Map.Text.{is_eq-slice_cmp}
use Rattle.markup.specs.Names.{has}

either : (a b : Bool) → cond a true b ≡ a || b
either true b = refl
either false b = refl

pub one_more_name : (name : Bor (List ℕ)) (old new : BTreeSet (Bor (List ℕ)))
    → UpdatesBy (λ x y. slice_cmp nat_cmp x.now y.now) (λ y. slice_cmp nat_cmp name.now y.now) old new true
    → (other : List ℕ) → has new other ≡ bytes_eq name.now other || has old other
one_more_name name old new updates other =
    updates.0 (record name { now = other })
    ∙ ap (λ b. cond b true (has old other)) (is_eq-slice_cmp name.now other)
    ∙ either (bytes_eq name.now other) (has old other)
