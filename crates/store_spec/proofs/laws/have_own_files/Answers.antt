use Rattle.store_spec.proofs.Names.{have_own_files}
use Rattle.store_spec.proofs.laws.have_own_files.Goals as goal

pub returns : goal.returns
returns c = have_own_files
