use Rattle.std.proofs.Common.{◌≡◌, ℕ, suc, ◌+◌, ◌*◌, ◌≤◌, length}
use Rattle.text_spec.specs.Element.{content_at, element_at, after_inside}
use Rattle.text_spec.specs.Tree.{seen}
use Rattle.std.specs.Prelude.{map}
use Rattle.markup.proofs.element.+element.Given as goal

abbrev pub decreases-content_at : goal.decreases-content_at
decreases-content_at l = 3 * l.depth + 1

abbrev pub decreases-after_opening : goal.decreases-after_opening
decreases-after_opening l = 3 * l.depth + 2

abbrev pub decreases-element_at : goal.decreases-element_at
decreases-element_at l = 3 * l.depth

abbrev pub invariant-content_at-content : goal.invariant-content_at-content
invariant-content_at-content l =
    (m : ℕ) × (length l.rest ≤ m) × (length l.rest ≤ length l.chars)
    × (content_at (element_at l.depth) (length l.chars + 1) l.initial.room l.chars
    ≡ after_inside l.text.items (map seen l.children.items) (content_at (element_at l.depth) (suc m) l.room l.rest))

abbrev pub decreases-content_at-content : goal.decreases-content_at-content
decreases-content_at-content l = length l.rest
