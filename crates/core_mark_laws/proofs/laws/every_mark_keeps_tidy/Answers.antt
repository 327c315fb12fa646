use Rattle.core_mark_laws.proofs.TidyMarks.{every_mark}
use Rattle.core_mark_laws.proofs.laws.every_mark_keeps_tidy.Goals as goal

pub returns : goal.returns
returns c = every_mark
