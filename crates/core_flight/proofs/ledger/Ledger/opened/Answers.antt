use Rattle.std.proofs.Common.{None, refl}
use Rattle.domain_spec.specs.Chapter.{first_base}
use Rattle.core_flight.proofs.Ledgers.{kept_begun}
use Rattle.core_flight.proofs.ledger.Ledger.opened.Goals as goal

pub invariant_of-result : goal.invariant_of-result
invariant_of-result c = kept_begun c.in-Ok.chapter 0 (first_base c.args.stored c.args.autostart) None refl c.in-Ok.ensures
