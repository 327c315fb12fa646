-- Titles are one line each.
use Rattle.std.proofs.Common.{◌≡◌, Bool, true, false, List, [], ◌∷◌, ℕ, refl, arith}
use Rattle.std.specs.List.{before_first, list_any}
use Rattle.std.proofs.lemmas.Grind.{common_steps}
use Rattle.store_spec.specs.DefinitionFile.{has_feed}
use Rattle.domain_texts.specs.Title.{first_line}

none_step : (p : ℕ → Bool) (x : ℕ) (xs : List ℕ) (b : Bool) → p x ≡ b → list_any p (before_first p xs) ≡ false → list_any p (before_first p (x ∷ xs)) ≡ false
none_step p x xs true e ih = rw e refl
none_step p x xs false e ih = rw e (grind (arith, common_steps, ih, e))

-- before the first that passes none passes
none_before : (p : ℕ → Bool) (xs : List ℕ) → list_any p (before_first p xs) ≡ false
none_before p [] = refl
none_before p (x ∷ xs) = none_step p x xs (p x) refl (none_before p xs)

-- the first line of a text has no line feed
pub line_has_none : (text : List ℕ) → has_feed (first_line text) ≡ false
unfolding first_line
line_has_none text = none_before _ text
