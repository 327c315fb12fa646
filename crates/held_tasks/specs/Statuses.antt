-- The status of a domain's boot around a task, and what the store is told of it.
use Rattle.std.specs.Prelude.{◌≡◌, ℕ, [], true}
use Rattle.boot_status.specs.Keeping.{KeepsStatus}
use Rattle.boot_status.specs.Reporting.{boot_status}
use Rattle.boot_status.specs.declared.outcome.StatusKept.{StatusKept}
use Rattle.boot_status.specs.declared.outcome.StatusKept.TheVariants as came
use Rattle.list_replies.specs.Below.domain_requests.declared.task.Task.{Task}
use Rattle.list_replies.specs.Below.domain_requests.declared.task.Task.TheVariants as task
use Rattle.driver_cells.specs.OfCells.{meaning}
use Rattle.driver_cells.specs.OfObjects.{DomainPass, Goes}
use Rattle.driver_cells.specs.OfOutcomes.{state_of}
use Rattle.files_disk.specs.Telling.{Told}
use Rattle.row_desk.specs.Views.{StorePass}
use Rattle.turn_cell.specs.Known.{HasMarks}
use Rattle.held_tasks.specs.Counting.{Counts}
use Rattle.held_tasks.specs.declared.status.StatusRead.{StatusRead}
use Rattle.held_tasks.specs.declared.status.StatusRead.TheVariants as read

-- a pass took one turn, in which nothing changed. The history that it saw is legal, and its marks in it are just those that it
-- had left by then: so before a call that is the history without the marks of the call
pub record OnlyLooks (before after : DomainPass) : Type 0 where
  pub goes : Goes 1 [] before after
  pub share : after.share ≡ before.share
  pub own : HasMarks meaning after.number after.mine after.seen

-- in such a turn the status was read, of the state at the end of the history that was seen; or no ticket was left
abbrev pub HasReadStatus : DomainPass → DomainPass → StatusRead → Type 0
HasReadStatus before after read.NotDue = ⊥
HasReadStatus before after (read.Read status) = OnlyLooks before after × (status ≡ boot_status (state_of after.seen))
HasReadStatus before after read.NoMemory = OnlyLooks before after
HasReadStatus before after read.Spent = after ≡ record before { spent = true }

-- at a call alone: what only reads changes nothing
abbrev pub HasLooked : Task → DomainPass → DomainPass → StatusRead → Type 0
HasLooked (task.Run d) before after status = HasReadStatus before after status
HasLooked other before after status = (after ≡ before) × (status ≡ read.NotDue)

-- what comes of a status that was not read
abbrev pub unread : StatusRead → StatusKept
unread read.NoMemory = came.NoMemory
unread read.Spent = came.Spent
unread other = came.Unchanged

module _ {F : Type 0} (told : F → Told) (stores : F → ℕ) where
  -- where it was read both times, the store was told what changed; else nothing was done
  abbrev pub IsTold : StatusRead → StatusRead → StorePass → StorePass → StatusKept → Type 0
  IsTold (read.Read was) (read.Read is) before after kept = KeepsStatus told stores was is before after kept
  IsTold (read.Read was) is before after kept = (after ≡ before) × (kept ≡ unread is)
  IsTold was is before after kept = (after ≡ before) × (kept ≡ unread was)

  -- the status was read before the task and after it, the store was told what changed, and a status that could not be kept
  -- was counted
  pub record HasReported (t : Task) (old first last new : DomainPass) (store_was store_is : StorePass) (unkept_was unkept_is : ℕ) : Type 0 where
    pub was : StatusRead
    pub is : StatusRead
    pub kept : StatusKept
    pub looks : HasLooked t old first was
    pub looks_again : HasLooked t last new is
    pub tells : IsTold was is store_was store_is kept
    pub counts : Counts kept unkept_was unkept_is
