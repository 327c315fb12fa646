-- One connection of a daemon.
use Rattle.std.specs.Prelude.{◌≡◌, ◌⊎◌, ℕ, List, [], ◌∷◌, Option}
use Rattle.daemon.specs.Closing.{IsEndedWith}
use Rattle.six_rows.specs.Six.{all_six}
use Rattle.daemon.specs.declared.closing.Closed.{Closed}
use Rattle.driver_service.specs.Below.driver.Cells.{BecomesMany}
use Rattle.driver_service.specs.Calling.{HasCalledDriver}
use Rattle.driver_service.specs.Serving.{is_served}
use Rattle.files_disk.specs.Telling.{Told}
use Rattle.driver_service.specs.Below.held_tasks.OfRows.{DriverRow}
use Rattle.pass_rows.specs.Rows.{KeepsPasses}
use Rattle.six_rows.specs.Below.row_session.declared.connection.SixRows.{SixRows}
use Rattle.service_spec.specs.Activities.{hand}
use Rattle.service_spec.specs.Course.{HasServed}
use Rattle.session_spec.specs.declared.end.End.{End}
use Rattle.session_spec.specs.declared.end.End.TheVariants as end
use Rattle.virt_types.specs.declared.ask.GuestEvent.{GuestEvent}

-- what the ends of a connection report: what is left to be taken, what was put, and the words that were drawn
pub record Reported : Type 0 where
  pub left : Option (List ℕ)
  pub held : Option (List ℕ)
  pub drawn : Option (List ℕ)

module _ {F G E : Type 0} (told : F → Told) (sound : Type 0) (store_faults : F → ℕ) (maker : G → ℕ) (ends faults : E → ℕ) (unheard : E → Option (List GuestEvent)) where
  -- the row became six; the session was served with the fifth of them, and then the daemon was closed with all six
  pub record IsServed (session : ℕ) (row : DriverRow G) (was is : Reported) (ending : End) (closed : Option (Closed F)) : Type 0 where
    pub six : SixRows (DriverRow G)
    pub after : DriverRow G
    pub many : BecomesMany told maker 6 row (all_six six)
    pub served : HasServed is_served (HasCalledDriver told store_faults maker ends faults unheard) session (hand six.fifth was.drawn) was.left is.left was.held is.held ending (hand after is.drawn)
    pub ended : IsEndedWith told sound (all_six (record six { fifth = after })) closed

  -- there was no memory for six rows: nothing was taken, put or drawn, and the daemon was closed with its row
  pub record IsUnserved (row : DriverRow G) (was is : Reported) (ending : End) (closed : Option (Closed F)) : Type 0 where
    pub memory : ending ≡ end.NoMemory
    pub untouched : is ≡ was
    pub kept : DriverRow G
    pub same : KeepsPasses row kept
    pub ended : IsEndedWith told sound (kept ∷ []) closed

  -- what became of the connection and of the daemon
  abbrev pub HasServedOne : ℕ → DriverRow G → Reported → Reported → End → Option (Closed F) → Type 0
  HasServedOne session row was is ending closed = IsServed session row was is ending closed ⊎ IsUnserved row was is ending closed
