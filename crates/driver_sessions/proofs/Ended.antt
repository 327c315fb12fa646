-- What is left of a driver that served sessions, by the steps in which that came.
use Rattle.std.proofs.Common.{◌≡◌, ◌*◌, ℕ, List, Option, None, Some, Vec, Global, length, subst, sym}
use Rattle.std.specs.Prelude.{IfSome}
use Rattle.def_keeper.specs.Safe.{KeepsAll}
use Rattle.driver_crossing.specs.Below.driver.Cells.{BecomesMany, DriverView}
use Rattle.driver_crossing.specs.Below.driver_close.Closed.{HasClosed}
use Rattle.driver_sessions.specs.Closing.{HasServedAll, HasServedBy}
use Rattle.driver_sessions.specs.Serving.{AreServed}
use Rattle.driver_sessions.specs.declared.closing.Left.{Left}
use Rattle.driver_sessions.specs.declared.session.Served.{Served}
use Rattle.driver_sessions.specs.declared.session.Session.{Session}
use Rattle.files_disk.specs.Telling.{Told}
use Rattle.driver_crossing.specs.Below.held_tasks.OfRows.{DriverRow}
use Rattle.virt_types.specs.declared.ask.GuestEvent.{GuestEvent}

module _ {F G E S O N T : Type 0} (told : F → Told) (sound : Type 0) (store_faults : F → ℕ) (maker : G → ℕ) (ends faults : E → ℕ) (unheard : E → Option (List GuestEvent)) (left : S → Option (List ℕ)) (source_faults : S → ℕ) (held : O → Option (List ℕ)) (sink_faults : O → ℕ) (drawn : N → Option (List ℕ)) (d : DriverView) (rows : List (DriverRow G)) (sessions : List (Session S O N T)) where
  -- what closing says, where it gives something
  abbrev Rest : Type 0
  Rest = Left F (Served S O N T)

  abbrev ServedBy : Rest → Type 0
  ServedBy l = HasServedBy told sound store_faults maker ends faults unheard left source_faults held sink_faults drawn d rows sessions l.served.items l.files l.books.list l.books.store l.books.cells.items

  -- the sessions were served, and then the driver was closed
  pub closed_by : (back : List (DriverRow G)) (served : Vec (Served S O N T) Global) → AreServed told store_faults maker ends faults unheard left source_faults held sink_faults drawn d rows sessions back served.items
      → (r : Option Rest) → IfSome r (λ l. HasClosed told back l.files l.books.list l.books.store l.books.cells.items) → IfSome r (λ l. sound → KeepsAll (told l.files) l.books.store) → IfSome r (λ l. l.served ≡ served) → IfSome r ServedBy
  closed_by back served are None closed safe same = tt
  closed_by back served are (Some l) closed safe same = record {
    back = back;
    each = subst (λ (v : Vec (Served S O N T) Global). AreServed told store_faults maker ends faults unheard left source_faults held sink_faults drawn d rows sessions back v.items) (sym same) are;
    closed = closed;
    safe = safe;
  }

  -- these rows were made of one
  pub served_all : (row : DriverRow G) → BecomesMany told maker (6 * length sessions) row rows → (r : Option Rest) → IfSome r ServedBy
      → IfSome r (λ l. HasServedAll told sound store_faults maker ends faults unheard left source_faults held sink_faults drawn d row sessions l.served.items l.files l.books.list l.books.store l.books.cells.items)
  served_all row made None by = tt
  served_all row made (Some l) by = record { rows = rows; made = made; served_by = by }
