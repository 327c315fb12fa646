-- Sessions that are served at once.
use Rattle.std.specs.Prelude.{◌≡◌, ◌≤◌, ℕ, List, Option}
use Rattle.std.specs.List.{AllZip}
use Rattle.driver_crossing.specs.Below.driver.Cells.{DriverView, IsRowOf}
use Rattle.driver_crossing.specs.Below.driver_service.Calling.{HasCalledDriver}
use Rattle.driver_crossing.specs.Below.driver_service.Serving.{is_served}
use Rattle.driver_sessions.specs.Seats.{Seat, holders_of, rows_of}
use Rattle.driver_sessions.specs.declared.session.Served.{Served}
use Rattle.driver_sessions.specs.declared.session.Session.{Session}
use Rattle.files_disk.specs.Telling.{Told}
use Rattle.driver_crossing.specs.Below.held_tasks.OfRows.{DriverRow, IsReadyRow}
use Rattle.outside_spec.specs.Faults.{Rose}
use Rattle.six_rows.specs.Below.row_session.declared.connection.SixRows.{SixRows}
use Rattle.service_spec.specs.Activities.{hand}
use Rattle.service_spec.specs.Course.{HasServed}
use Rattle.session_spec.specs.Course.{IsServedWhole, IsWhole}
use Rattle.session_spec.specs.declared.end.End.TheVariants as end
use Rattle.virt_types.specs.declared.ask.GuestEvent.{GuestEvent}

-- a session may be served by these rows: the fifth, by which it calls, is one of the driver, and ready
pub record MayServe {G : Type 0} (d : DriverView) (six : SixRows (DriverRow G)) : Type 0 where
  pub own : IsRowOf d six.fifth
  pub ready : IsReadyRow six.fifth

-- the counts of faults of source and sink did not fall; the session ended with such a fault only where its count rose, and where
-- neither did, whole packets were served whole
pub record IsEndCaused {S O N T : Type 0} (left : S → Option (List ℕ)) (source_faults : S → ℕ) (sink_faults : O → ℕ) (one : Session S O N T) (over : Served S O N T) : Type 0 where
  pub source_count : source_faults one.source ≤ source_faults over.session.source
  pub sink_count : sink_faults one.sink ≤ sink_faults over.session.sink
  pub source_fault : over.end ≡ end.SourceFault → Rose (source_faults one.source) (source_faults over.session.source)
  pub sink_fault : over.end ≡ end.SinkFault → Rose (sink_faults one.sink) (sink_faults over.session.sink)
  pub complete : IsWhole (left one.source) → (Rose (source_faults one.source) (source_faults over.session.source) → ⊥)
      → (Rose (sink_faults one.sink) (sink_faults over.session.sink) → ⊥) → IsServedWhole over.end

module _ {F G E S O N T : Type 0} (told : F → Told) (store_faults : F → ℕ) (maker : G → ℕ) (ends faults : E → ℕ) (unheard : E → Option (List GuestEvent)) (left : S → Option (List ℕ)) (source_faults : S → ℕ) (held : O → Option (List ℕ)) (sink_faults : O → ℕ) (drawn : N → Option (List ℕ)) where
  -- the session was served by the fifth of its rows, which may serve another; the others are as they were
  pub record IsServed (d : DriverView) (one : Seat G (Session S O N T)) (over : Seat G (Served S O N T)) : Type 0 where
    pub served : HasServed is_served (HasCalledDriver told store_faults maker ends faults unheard) one.holder.number (hand one.rows.fifth (drawn one.holder.random))
        (left one.holder.source) (left over.holder.session.source) (held one.holder.sink) (held over.holder.session.sink) over.holder.end
        (hand over.rows.fifth (drawn over.holder.session.random))
    pub caused : IsEndCaused left source_faults sink_faults one.holder over.holder
    pub others : over.rows ≡ record one.rows { fifth = over.rows.fifth }
    pub number : over.holder.session.number ≡ one.holder.number
    pub gate : over.holder.session.gate ≡ one.holder.gate
    pub may_serve : MayServe d over.rows

  -- each session was served by six of the rows; both lists come back in order
  pub record AreServed (d : DriverView) (rows : List (DriverRow G)) (sessions : List (Session S O N T)) (back : List (DriverRow G)) (served : List (Served S O N T)) : Type 0 where
    pub seated : List (Seat G (Session S O N T))
    pub over : List (Seat G (Served S O N T))
    pub rows_are : rows ≡ rows_of seated
    pub sessions_are : sessions ≡ holders_of seated
    pub each : AllZip (IsServed d) seated over
    pub back_are : back ≡ rows_of over
    pub served_are : served ≡ holders_of over
