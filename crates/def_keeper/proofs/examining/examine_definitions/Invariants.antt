-- The definitions among the first files are reported.
use Rattle.std.proofs.Common.{◌≡◌, ◌≤◌, take}
use Rattle.def_keeper.proofs.Examines.{JudgedAt}
use Rattle.def_keeper.proofs.examining.examine_definitions.Given as goal

abbrev pub invariant-loop-file : goal.invariant-loop-file
invariant-loop-file g l = JudgedAt (g.F.Files.told l.initial.files) (take l.file-index l.all) l.names l.reports
    × (g.F.Files.told l.files ≡ g.F.Files.told l.initial.files)
    × (g.F.Files.faults l.initial.files ≤ g.F.Files.faults l.files)
