use Rattle.std.proofs.Common.{◌≡◌, ◌≤◌, take}
use Rattle.def_keeper.specs.Tidying.{HasReportedAt}
use Rattle.def_keeper.proofs.statuses.report_all.Given as goal

abbrev pub invariant-loop-name : goal.invariant-loop-name
invariant-loop-name g l = HasReportedAt (g.F.Files.told l.initial.files) (take l.name-index l.names) l.statuses
    × (g.F.Files.told l.files ≡ g.F.Files.told l.initial.files)
    × (g.F.Files.faults l.initial.files ≤ g.F.Files.faults l.files)
