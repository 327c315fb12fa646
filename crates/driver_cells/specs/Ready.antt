-- A row that may serve a request.
use Rattle.std.specs.Prelude.{◌≡◌, ◌⊎◌, true, length}
use Rattle.std.specs.List.{All}
use Rattle.book_spec.specs.Slots.{no_holds}
use Rattle.domain_tasks.specs.Below.domain_core.Meaning.{nothing_kept}
use Rattle.domain_tasks.specs.OfObjects.{DomainPass}
use Rattle.object_list.specs.Turns.{ListPassed}
use Rattle.virt_types.specs.Limits.{most_domains}
use Rattle.driver_cells.specs.Known.{DriverRow}

-- the pass of the list is spent, or it holds no slot
abbrev pub HoldsNoSlot : ListPassed → Type 0
HoldsNoSlot pass = (pass.spent ≡ true) ⊎ (pass.share ≡ no_holds)

-- the pass of a domain is spent, or nothing is kept for it: it has nothing open, waits for nothing and hears nobody
abbrev pub KeepsNothing : DomainPass → Type 0
KeepsNothing pass = (pass.spent ≡ true) ⊎ (pass.share ≡ nothing_kept)

-- so is each pass of the row, which has one for each slot; a store keeps nothing for any pass
pub record IsReadyRow {G : Type 0} (row : DriverRow G) : Type 0 where
  pub list : HoldsNoSlot row.list
  pub domains : All KeepsNothing row.domains
  pub slots : length row.domains ≡ most_domains
