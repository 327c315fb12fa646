use Rattle.domain_texts.proofs.Short.{reads_short}
use Rattle.domain_texts.proofs.stored.read_stored.Goals as goal

pub returns-then-is_own-clause-short : goal.returns-then-is_own-clause-short
returns-then-is_own-clause-short c = reads_short c.args.entry.now.text c.in-Ok.def (rw c.as_bytes.ensures at c.in-Ok.ensures)
