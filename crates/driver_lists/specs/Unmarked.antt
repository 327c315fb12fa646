-- Rows whose passes left no mark.
use Rattle.std.specs.Prelude.{◌≡◌, ℕ, List, map}
use Rattle.std.specs.List.{All}
use Rattle.domain_spec.specs.declared.mark.Mark.{Mark}
use Rattle.driver_cells.specs.Known.{DriverRow}
use Rattle.driver_cells.specs.OfObjects.{DomainPass, IsLegalHistory}

-- the marks that a pass of a domain has left
abbrev pub mine_of : DomainPass → List (ℕ × Mark ℕ)
mine_of pass = pass.mine

-- what it has seen is legal
abbrev pub HasSeenLegal : DomainPass → Type 0
HasSeenLegal pass = IsLegalHistory pass.seen

-- no pass of the row left a mark, and what those of the domains have seen is legal where it was
pub record LeavesNoMark {G : Type 0} (before after : DriverRow G) : Type 0 where
  pub list : after.list.mine ≡ before.list.mine
  pub store : after.store.mine ≡ before.store.mine
  pub domains : map mine_of after.domains ≡ map mine_of before.domains
  pub legal : All HasSeenLegal before.domains → All HasSeenLegal after.domains
