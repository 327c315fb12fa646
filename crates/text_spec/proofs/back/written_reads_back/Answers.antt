use Rattle.text_spec.proofs.Whole.{written_back}
use Rattle.text_spec.proofs.back.written_reads_back.Goals as goal

pub returns : goal.returns
returns c = written_back
