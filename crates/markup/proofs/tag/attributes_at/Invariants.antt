use Rattle.std.proofs.Common.{◌≡◌, ℕ, suc, ◌+◌, ◌≤◌, List, [], length}
use Rattle.text_spec.specs.Tag.{attributes_at, after_attributes}
use Rattle.markup.specs.Names.{Holds}
use Rattle.markup.proofs.tag.attributes_at.Given as goal

abbrev pub invariant-tag : goal.invariant-tag
invariant-tag l =
    (m : ℕ) × (seen : List (List ℕ)) × (length l.rest ≤ m) × (length l.rest ≤ length l.chars) × Holds l.names seen
    × (attributes_at (length l.chars + 1) l.start [] l.chars ≡ after_attributes l.found (attributes_at (suc m) l.start seen l.rest))

abbrev pub decreases-tag : goal.decreases-tag
decreases-tag l = length l.rest
