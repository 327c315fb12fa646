-- The end of a daemon.
use Rattle.std.specs.Prelude.{◌≡◌, ◌-◌, ◌^◌, ℕ, List, Option, None, Some, min, sum_by}
use Rattle.std.specs.List.{All}
use Rattle.daemon.specs.declared.closing.Closed.{Closed}
use Rattle.def_keeper.specs.Safe.{KeepsAll}
use Rattle.driver_service.specs.Below.driver.Cells.{IsIdleRow}
use Rattle.driver_service.specs.Below.driver_close.Closed.{HasClosed}
use Rattle.files_disk.specs.Telling.{Told}
use Rattle.driver_service.specs.Below.held_tasks.OfRows.{DriverRow, IsReadyRow}

-- how many statuses of boots the calls of these rows could not keep, as far as the count goes
abbrev pub unkept_in : {G : Type 0} → List (DriverRow G) → ℕ
unkept_in rows = min (sum_by (λ row. row.unkept) rows) (2 ^ 64 - 1)

module _ {F G : Type 0} (told : F → Told) (sound : Type 0) where
  -- the cells were closed with all of these rows, each of them idle; and what a crash leaves of the store is the definitions
  -- after the first of the changes that were tried, with all that were acknowledged
  pub record IsClosedWith (rows : List (DriverRow G)) (closed : Closed F) : Type 0 where
    pub idle : All (IsIdleRow told) rows
    pub books : HasClosed told rows closed.files closed.books.list closed.books.store closed.books.cells.items
    pub safe : sound → KeepsAll (told closed.files) closed.books.store
    pub unkept : closed.unkept ≡ unkept_in rows

  -- no cell keeps anything for any of these rows, and yet not each is idle: one of their passes has no ticket left
  pub record IsOutOfTickets (rows : List (DriverRow G)) : Type 0 where
    pub ready : All IsReadyRow rows
    pub spent : All (IsIdleRow told) rows → ⊥

  -- the cells were closed with these rows, unless one of their passes has no ticket left
  abbrev pub IsEndedWith : List (DriverRow G) → Option (Closed F) → Type 0
  IsEndedWith rows None = IsOutOfTickets rows
  IsEndedWith rows (Some closed) = IsClosedWith rows closed
