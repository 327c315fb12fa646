use Rattle.book_spec.specs.Pools.{pool_of, uuid_of}
use Rattle.book_spec.specs.PoolReads.{AreNames, volumes_in}
use Rattle.pool_core.proofs.Calling.{book-read}
use Rattle.pool_core.proofs.book.PoolBook.volumes.Goals as goal

pub returns : goal.returns
returns c = book-read c.self.inside.table c.self.inside.chronicle c.args.self.now c.self.invariant c.self.view_is AreNames (λ ps. volumes_in c.args.pool (pool_of uuid_of c.args.pool ps)) c.volumes.result c.plain.result c.plain.ensures c.volumes.ensures
