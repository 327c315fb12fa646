-- A domain's cell, as contracts see it.
use Rattle.std.specs.Prelude.{◌≡◌, ◌≢◌, ℕ, List, length, nat_lt, Bool, Option, None, Some, if◌then◌else◌}
use Rattle.domain_spec.specs.Types.{DomainDef}
use Rattle.domain_spec.specs.declared.standing.Standing.{Standing}
use Rattle.domain_spec.specs.Cell.{Cell, HeldEvent, LentEars, OpenCall, Share, share_of, standing_of}
use Rattle.domain_spec.specs.Fold.{at_base}
use Rattle.domain_spec.specs.Laws.{IsCounted}
use Rattle.domain_spec.specs.Legal.{IsLegal}
use Rattle.domain_core.specs.Core.{Core, new_core}
use Rattle.core_steps.specs.Turning.{Turning}
use Rattle.domain_core.specs.Held.{IsLinked, boot_heard}
use Rattle.domain_core.specs.Linked.{Linked, kept_link, link_made, with_monitor}
use Rattle.monitor_link.specs.Views.{LinkView, MonitorView}
use Rattle.core_step_laws.specs.Made.{made_boot}
use Rattle.core_step_laws.specs.Steady.{IsSteady}
use Rattle.core_owed.specs.Owing.{IsOwing}

-- the domain between two turns, the boot whose monitor is out with the ticket of the open call, and the link of the guest
-- that is there
pub record Celled : Type 0 where
  pub core : Core
  pub out : Option ℕ
  pub link : Option Linked

-- a domain as the store was opened
abbrev pub new_cell : Option DomainDef → Bool → Celled
new_cell stored autostart = record { core = new_core stored autostart; out = None; link = None }

-- the cell of a domain, and what is in force after its marks
abbrev pub cell_in : Celled → Cell
cell_in c = c.core.turning.cell

abbrev pub standing_in : Celled → Standing
standing_in c = standing_of (cell_in c)

-- what a cell keeps for one number alone: that of its domain; and where it has a call open, the boot whose monitor is out
-- with that, and the number of the chapter, which does not end before the call is done
pub record CellShare : Type 0 where
  pub kept : Share
  pub monitor : Option ℕ
  pub chapter : Option ℕ

-- the monitor that is out goes with the open call
abbrev pub monitor_of : Option OpenCall → Option ℕ → Option ℕ
monitor_of None out = None
monitor_of (Some o) out = out

-- the chapter of an open call
abbrev pub chapter_of : Option OpenCall → ℕ → Option ℕ
chapter_of None chapter = None
chapter_of (Some o) chapter = Some chapter

-- what is kept for this number
abbrev pub cell_share : Celled → ℕ → CellShare
cell_share c n = record {
  kept = share_of (cell_in c) n;
  monitor = monitor_of (share_of (cell_in c) n).call c.out;
  chapter = chapter_of (share_of (cell_in c) n).call c.core.turning.chapter;
}

-- what is kept for any other number stays
abbrev pub KeepsOtherShares : ℕ → Celled → Celled → Type 0
KeepsOtherShares n c d = (m : ℕ) → m ≢ n → cell_share d m ≡ cell_share c m

-- the link after a turn in which it was only dropped where its guest is not there any more
abbrev pub link_kept : Celled → Celled → Option Linked
link_kept old new = kept_link (made_boot (standing_in new)) old.link

-- so it is
abbrev pub KeepsLink : Celled → Celled → Type 0
KeepsLink old new = new.link ≡ link_kept old new

-- the link after an answer: the monitor that was out is back, and a guest that was made now has its own
abbrev pub link_answered : Option LinkView → Option MonitorView → Celled → Celled → Option Linked
link_answered fresh monitor old new = link_made fresh (boot_heard (cell_in new).ears) (made_boot (standing_in new)) (with_monitor old.out monitor old.link)

-- the boot whose ears may be lent: that of the guest that is there, where no ears are out and one more event can be held
abbrev pub lendable : Option ℕ → List HeldEvent → Option LentEars → Option ℕ
lendable made held None = if nat_lt (length held) 64 then made else None
lendable made held (Some ears) = None

-- the same of a cell
abbrev pub boot_to_lend : Celled → Option ℕ
boot_to_lend c = lendable (made_boot (standing_in c)) (cell_in c).held (cell_in c).ears

-- what holds between two turns: the link that is here is that of the guest that is there, the history is legal and its
-- boots are counted, what was asked stays what is asked, and what pends for each registration, with what was taken, is
-- what its history owes
pub record IsCell (t : Turning) (out : Option ℕ) (link : Option Linked) : Type 0 where
  pub linked : IsLinked t out link
  pub steady : IsSteady (standing_of t.cell)
  pub counted : IsCounted (at_base t.cell.base)
  pub legal : IsLegal (at_base t.cell.base) t.cell.marks
  pub owed : IsOwing t.cell
