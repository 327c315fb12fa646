use Rattle.book_spec.proofs.HoldProofs.{release_undoes}
use Rattle.book_spec.proofs.laws.release_undoes.Goals as goal

pub returns : goal.returns
returns c = release_undoes
