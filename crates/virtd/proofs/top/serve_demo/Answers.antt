use Rattle.std.proofs.Common.{inr}
use Rattle.virtd.proofs.NoFiles.{none_are_sure}
use Rattle.virtd.proofs.top.serve_demo.Goals as goal

pub serve_files-requires-clause-sound : goal.serve_files-requires-clause-sound
serve_files-requires-clause-sound g c κs u = rw c.memory-files.ensures.none (λ sound. none_are_sure)

pub returns-in-Ok-clause-serves : goal.returns-in-Ok-clause-serves
returns-in-Ok-clause-serves g c = inr (
  c.serve_files.result.files,
  rw (c.in-Ok.ensures, c.memory-files.ensures.none, c.memory-files.ensures.same) at c.serve_files.ensures.serves,
)
