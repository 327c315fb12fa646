use Rattle.std.proofs.Common.{ap, length, arith}
use Rattle.pool_core.proofs.Chronicles.{open_short}
use Rattle.pool_core.proofs.marking.leave_refusal.Goals as goal

pub tell-requires : goal.tell-requires
tell-requires g c = omega (arith, open_short c.args.chronicle.now, ap (λ h. length h.marks) c.open.ensures)
