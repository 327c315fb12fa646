use Rattle.std.proofs.Common.{arith}
use Rattle.std.proofs.lemmas.List.{drop_all}
use Rattle.driver_store.proofs.Listed.{starts_more, starts_none}
use Rattle.driver_store.proofs.listing.starts_of.Goals as goal

pub loop-domain-preserved : goal.loop-domain-preserved
loop-domain-preserved c = starts_more c.args.domains.now c.loop-domain.domain-index c.domain-item.result c.loop-domain.requests c.push_start.new.requests c.loop-domain-test.true c.domain-item.is c.in_ok-push_start.ensures c.loop-domain.invariant

pub returns : goal.returns
returns c = starts_none c.args.domains.now c.loop-domain.domain-index c.loop-domain.requests (drop_all c.loop-domain.domain-index c.args.domains.now (omega (arith, c.loop-domain-test.false))) c.loop-domain.invariant
