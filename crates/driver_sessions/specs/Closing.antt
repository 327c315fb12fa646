-- A driver over which sessions were served at once, and which was closed then.
use Rattle.std.specs.Prelude.{ℕ, ◌*◌, List, Option, length}
use Rattle.book_spec.specs.ListHistory.{ListHistory}
use Rattle.def_keeper.specs.Marks.{StoreHistory}
use Rattle.def_keeper.specs.Safe.{KeepsAll}
use Rattle.domain_spec.specs.declared.mark.Mark.{Mark}
use Rattle.domain_spec.specs.declared.standing.Base.{Base}
use Rattle.driver_crossing.specs.Below.driver.Cells.{BecomesMany, DriverView}
use Rattle.driver_crossing.specs.Below.driver_close.Closed.{HasClosed}
use Rattle.driver_sessions.specs.Serving.{AreServed}
use Rattle.driver_sessions.specs.declared.session.Served.{Served}
use Rattle.driver_sessions.specs.declared.session.Session.{Session}
use Rattle.files_disk.specs.Telling.{Told}
use Rattle.driver_crossing.specs.Below.held_tasks.OfRows.{DriverRow}
use Rattle.history_spec.specs.declared.history.History.{History}
use Rattle.virt_types.specs.declared.ask.GuestEvent.{GuestEvent}

module _ {F G E S O N T : Type 0} (told : F → Told) (sound : Type 0) (store_faults : F → ℕ) (maker : G → ℕ) (ends faults : E → ℕ) (unheard : E → Option (List GuestEvent)) (left : S → Option (List ℕ)) (source_faults : S → ℕ) (held : O → Option (List ℕ)) (sink_faults : O → ℕ) (drawn : N → Option (List ℕ)) where
  -- each session was served by six of these rows, and the driver was closed with all of them
  pub record HasServedBy (d : DriverView) (rows : List (DriverRow G)) (sessions : List (Session S O N T)) (served : List (Served S O N T)) (files : F) (list : ListHistory) (store : StoreHistory) (domains : List (History Base (Mark ℕ))) : Type 0 where
    pub back : List (DriverRow G)
    pub each : AreServed told store_faults maker ends faults unheard left source_faults held sink_faults drawn d rows sessions back served
    pub closed : HasClosed told back files list store domains
    pub safe : sound → KeepsAll (told files) store

  -- the row became six for each session, and they were served by these
  pub record HasServedAll (d : DriverView) (row : DriverRow G) (sessions : List (Session S O N T)) (served : List (Served S O N T)) (files : F) (list : ListHistory) (store : StoreHistory) (domains : List (History Base (Mark ℕ))) : Type 0 where
    pub rows : List (DriverRow G)
    pub made : BecomesMany told maker (6 * length sessions) row rows
    pub served_by : HasServedBy d rows sessions served files list store domains
