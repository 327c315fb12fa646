use Rattle.std.proofs.Common.{◌≡◌, ◌≤◌, ◌<◌, true, ℕ}
use Rattle.book_spec.specs.Leases.{is_hosted}
use Rattle.net_core.proofs.hosts.first_without_line.Given as goal

abbrev pub invariant-loop-address : goal.invariant-loop-address
invariant-loop-address l = (a : ℕ) → l.from ≤ a → a < l.address → is_hosted a l.hosts ≡ true
