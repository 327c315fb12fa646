use Rattle.book_spec.specs.Networks.{network_of, uuid_of}
use Rattle.book_spec.specs.NetReads.{AreLeases}
use Rattle.net_core.proofs.Calling.{book-read}
use Rattle.net_core.proofs.book.NetBook.leases.Goals as goal

pub returns : goal.returns
returns c = book-read c.self.inside.table c.self.inside.chronicle c.args.self.now c.self.invariant c.self.view_is AreLeases c.args.uuid (network_of uuid_of c.args.uuid) c.leases.result c.plain.result c.plain.ensures c.leases.ensures
