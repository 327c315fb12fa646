-- The status files among the first files are reported.
use Rattle.std.proofs.Common.{◌≡◌, ◌≤◌, take}
use Rattle.def_keeper.proofs.Examines.{StatusesAt}
use Rattle.def_keeper.proofs.examining.examine_statuses.Given as goal

abbrev pub invariant-loop-file : goal.invariant-loop-file
invariant-loop-file g l = StatusesAt (g.F.Files.told l.initial.files) (take l.file-index l.all) l.initial.reports l.reports
    × (g.F.Files.told l.files ≡ g.F.Files.told l.initial.files)
    × (g.F.Files.faults l.initial.files ≤ g.F.Files.faults l.files)
