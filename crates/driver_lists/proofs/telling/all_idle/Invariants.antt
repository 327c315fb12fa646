use Rattle.std.proofs.Common.{◌≡◌, map, take}
use Rattle.std.specs.List.{filter}
use Rattle.driver_lists.specs.Idle.{is_idle}
use Rattle.driver_lists.proofs.telling.all_idle.Given as goal

abbrev pub invariant-loop-row : goal.invariant-loop-row
invariant-loop-row l = l.names.items ≡ map (λ row. row.domain.name) (filter is_idle (take l.row-index l.rows))
