-- The rows of the table, in its order. No public clause cites this.
use Rattle.std.specs.Prelude.{Bool, List, map}
use Rattle.std.specs.Cmp.Lexicographic.{slice_cmp}
use Rattle.std.specs.List.Sorted.{IsPermutation, IsSorted}
use Rattle.std.specs.Ordering.{nat_cmp}
use Rattle.virt_types.specs.declared.value.DomainRow.{DomainRow}
use Rattle.command_spec.specs.Printed.{shown}

pub record IsOrdered (all : Bool) (rows ordered : List DomainRow) : Type 0 where
  pub same : IsPermutation (shown all rows) ordered
  pub rising : IsSorted (slice_cmp nat_cmp) (map (λ row. row.domain.name) ordered)
