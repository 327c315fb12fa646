use Rattle.std.proofs.Common.{◌≡◌, ℕ, suc, ◌+◌, ◌≤◌, length}
use Rattle.text_spec.specs.Text.{misc_at}
use Rattle.markup.proofs.document.misc_at.Given as goal

abbrev pub invariant-misc : goal.invariant-misc
invariant-misc l = (m : ℕ) × (length l.rest ≤ m) × (misc_at (length l.chars + 1) l.chars ≡ misc_at (suc m) l.rest)

abbrev pub decreases-misc : goal.decreases-misc
decreases-misc l = length l.rest
