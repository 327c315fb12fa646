-- What becomes of a connection and of the daemon, by the steps in which it is served.
use Rattle.std.proofs.Common.{◌≡◌, ℕ, List, [], ◌∷◌, Option, inl, inr, refl, subst}
use Rattle.daemon.specs.Closing.{IsEndedWith}
use Rattle.daemon.specs.Serving.{HasServedOne, Reported}
use Rattle.six_rows.specs.Six.{all_six}
use Rattle.daemon.specs.declared.closing.Closed.{Closed}
use Rattle.driver_service.specs.Below.driver.Cells.{BecomesMany}
use Rattle.driver_service.specs.Calling.{HasCalledDriver}
use Rattle.driver_service.specs.Serving.{is_served}
use Rattle.files_disk.specs.Telling.{Told}
use Rattle.driver_service.specs.Below.held_tasks.OfRows.{DriverRow}
use Rattle.pass_rows.specs.Rows.{KeepsPasses}
use Rattle.six_rows.specs.Below.row_session.declared.connection.SixRows.{SixRows}
use Rattle.service_spec.specs.Activities.{hand}
use Rattle.service_spec.specs.Course.{HasServed}
use Rattle.session_spec.specs.declared.end.End.{End}
use Rattle.session_spec.specs.declared.end.End.TheVariants as end
use Rattle.virt_types.specs.declared.ask.GuestEvent.{GuestEvent}

module _ {F G E : Type 0} (told : F → Told) (sound : Type 0) (store_faults : F → ℕ) (maker : G → ℕ) (ends faults : E → ℕ) (unheard : E → Option (List GuestEvent)) (session : ℕ) (row : DriverRow G) where
  -- the six rows that the row became were taken, and put back once the session was served with them
  pub served_by_six : (was is : Reported) (ending : End) (closed : Option (Closed F)) (rows then : List (DriverRow G)) (six : SixRows (DriverRow G)) (fifth : DriverRow G)
      → BecomesMany told maker 6 row rows → rows ≡ all_six six → then ≡ all_six (record six { fifth = fifth })
      → HasServed is_served (HasCalledDriver told store_faults maker ends faults unheard) session (hand six.fifth was.drawn) was.left is.left was.held is.held ending (hand fifth is.drawn)
      → IsEndedWith told sound then closed → HasServedOne told sound store_faults maker ends faults unheard session row was is ending closed
  served_by_six was is ending closed rows then six fifth many taken put served ended = inl (record {
    six = six;
    after = fifth;
    many = subst (λ (l : List (DriverRow G)). BecomesMany told maker 6 row l) taken many;
    served = served;
    ended = subst (λ (l : List (DriverRow G)). IsEndedWith told sound l closed) put ended;
  })

  -- the row came back alone
  pub served_by_none : (was : Reported) (closed : Option (Closed F)) (rows : List (DriverRow G)) (kept : DriverRow G)
      → KeepsPasses row kept → rows ≡ kept ∷ [] → IsEndedWith told sound rows closed → HasServedOne told sound store_faults maker ends faults unheard session row was was end.NoMemory closed
  served_by_none was closed rows kept same alone ended = inr (record {
    memory = refl;
    untouched = refl;
    kept = kept;
    same = same;
    ended = subst (λ (l : List (DriverRow G)). IsEndedWith told sound l closed) alone ended;
  })
