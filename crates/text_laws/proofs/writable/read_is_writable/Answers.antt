use Rattle.text_laws.proofs.Whole.{read_good}
use Rattle.text_laws.proofs.writable.read_is_writable.Goals as goal

pub returns : goal.returns
returns c = read_good
