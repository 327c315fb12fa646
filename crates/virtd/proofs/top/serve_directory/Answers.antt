use Rattle.std.proofs.Common.{inr}
use Rattle.virtd.proofs.top.serve_directory.Goals as goal

pub returns-in-Ok-clause-serves : goal.returns-in-Ok-clause-serves
returns-in-Ok-clause-serves g c = inr (c.in-Ok.files, rw c.in-Ok.ensures.0 at c.serve_opened.ensures.serves)
