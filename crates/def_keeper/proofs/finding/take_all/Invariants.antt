-- The definitions of the first files are found.
use Rattle.std.proofs.Common.{◌≡◌, ◌≤◌, take}
use Rattle.def_keeper.specs.Calls.{AllGood}
use Rattle.def_keeper.specs.Finding.{HasFoundAt}
use Rattle.def_map.specs.Map.{found}
use Rattle.def_keeper.proofs.finding.take_all.Given as goal

abbrev pub invariant-loop-name : goal.invariant-loop-name
invariant-loop-name g l = HasFoundAt (g.F.Files.told l.initial.files) (take l.name-index l.names) (found l.map) l.rows
    × (g.F.Files.told l.files ≡ g.F.Files.told l.initial.files)
    × (g.F.Files.faults l.initial.files ≤ g.F.Files.faults l.files)
    × AllGood (found l.map)
