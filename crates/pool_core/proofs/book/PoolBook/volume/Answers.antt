use Rattle.book_spec.specs.Pools.{pool_of, uuid_of}
use Rattle.book_spec.specs.PoolReads.{volume_in, volumes_in}
use Rattle.pool_core.specs.Answers.{IsSame}
use Rattle.pool_core.proofs.Calling.{book-read}
use Rattle.pool_core.proofs.book.PoolBook.volume.Goals as goal

pub returns : goal.returns
returns c = book-read c.self.inside.table c.self.inside.chronicle c.args.self.now c.self.invariant c.self.view_is IsSame (λ ps. volume_in c.args.name.now (volumes_in c.args.pool (pool_of uuid_of c.args.pool ps))) c.volume.result c.plain.result c.plain.ensures c.volume.ensures
