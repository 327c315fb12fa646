use Rattle.std.proofs.Common.{[], ◌∷◌, ◌++◌}
use Rattle.domain_threads.specs.Below.domain_obj.OfCells.{told}
use Rattle.domain_stories.proofs.report.Report.and.Given as goal

abbrev pub ghost-after : goal.ghost-after
ghost-after a = a._old.now.asked ++ told (a._asked.now ∷ []) (a._answer.now ∷ [])
