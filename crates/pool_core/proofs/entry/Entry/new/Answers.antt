use Rattle.std.proofs.Common.{sym, ap, ◌∙◌}
use Rattle.book_spec.specs.Volumes.{allocated}
use Rattle.pool_core.proofs.VolumeSums.{allocated-none}
use Rattle.pool_core.proofs.entry.Entry.new.Goals as goal

pub invariant_of-result : goal.invariant_of-result
invariant_of-result c = sym (ap allocated c.new.ensures.items ∙ allocated-none)
