use Rattle.std.proofs.Common.{◌≤◌, take}
use Rattle.def_keeper.specs.Tidying.{HasRemovedAt}
use Rattle.def_keeper.proofs.statuses.remove_all.Given as goal

abbrev pub invariant-loop-name : goal.invariant-loop-name
invariant-loop-name g l = HasRemovedAt (g.F.Files.told l.initial.files) (take l.name-index l.names) (g.F.Files.told l.files)
    × (g.F.Files.faults l.initial.files ≤ g.F.Files.faults l.files)
