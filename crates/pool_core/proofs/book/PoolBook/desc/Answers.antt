use Rattle.book_spec.specs.Pools.{pool_of, uuid_of}
use Rattle.book_spec.specs.PoolReads.{described}
use Rattle.pool_core.specs.Answers.{IsSame}
use Rattle.pool_core.proofs.Calling.{book-read}
use Rattle.pool_core.proofs.book.PoolBook.desc.Goals as goal

pub returns : goal.returns
returns c = book-read c.self.inside.table c.self.inside.chronicle c.args.self.now c.self.invariant c.self.view_is IsSame (λ ps. described c.args.uuid (pool_of uuid_of c.args.uuid ps)) c.desc.result c.plain.result c.plain.ensures c.desc.ensures
