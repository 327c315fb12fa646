use Rattle.book_spec.specs.Networks.{network_of, uuid_of}
use Rattle.book_spec.specs.NetReads.{IsDescribed}
use Rattle.net_core.proofs.Calling.{book-read}
use Rattle.net_core.proofs.book.NetBook.desc.Goals as goal

pub returns : goal.returns
returns c = book-read c.self.inside.table c.self.inside.chronicle c.args.self.now c.self.invariant c.self.view_is IsDescribed c.args.uuid (network_of uuid_of c.args.uuid) c.desc.result c.plain.result c.plain.ensures c.desc.ensures
