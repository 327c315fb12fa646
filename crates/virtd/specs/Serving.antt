-- What becomes of a daemon that serves one connection over the files of a store.
use Rattle.std.specs.Prelude.{◌≡◌, ◌≢◌, ◌⊎◌, ℕ, List, [], ◌∷◌, Option, None, Some, Bool, MatchBool}
use Rattle.daemon.specs.Closing.{IsEndedWith}
use Rattle.daemon.specs.Serving.{HasServedOne, Reported}
use Rattle.daemon.specs.Starting.{HasMade, first_call}
use Rattle.daemon.specs.declared.closing.Closed.{Closed}
use Rattle.files_disk.specs.Telling.{Told}
use Rattle.daemon.specs.Below.held_tasks.OfOutcomes.{Outcome}
use Rattle.daemon.specs.Below.held_tasks.OfRows.{DriverRow}
use Rattle.outside_spec.specs.Faults.{Rose}
use Rattle.service_spec.specs.Activities.{Hand, hand}
use Rattle.session_spec.specs.Course.{IsServedWhole, IsWhole}
use Rattle.session_spec.specs.declared.end.End.{End}
use Rattle.session_spec.specs.declared.end.End.TheVariants.{NoMemory, SinkFault, SourceFault}
use Rattle.virt_types.specs.declared.ask.GuestEvent.{GuestEvent}
use Rattle.virt_types.specs.declared.request.Request.{Request}
use Rattle.virtd.specs.First.{firsts, goes_on}
use Rattle.virtd.specs.declared.connection.Connection.{Connection}
use Rattle.virtd.specs.declared.first.First.{First}

-- the session of standard input and output
abbrev pub the_session : ℕ
the_session = 1

module _ {F G E : Type 0} (told : F → Told) (store_faults : F → ℕ) (maker : G → ℕ)
    (ends faults : E → ℕ) (unheard : E → Option (List GuestEvent)) where
  -- the first requests were made, and came to these outcomes; or there was no memory for that, and none was made
  abbrev pub HasBegun : List Request → Option (List Outcome) → Hand (DriverRow G) → Hand (DriverRow G) → Type 0
  HasBegun requests None before after = after ≡ before
  HasBegun requests (Some outcomes) before after =
      HasMade told store_faults maker ends faults unheard (first_call 0) requests outcomes before after

  -- so it was, and then a connection is served, or is not
  pub record Begins (first : First) (found : List Request) (before after : Hand (DriverRow G)) (on : Bool) : Type 0 where
    pub made : Option (List Outcome)
    pub begun : HasBegun (firsts first found) made before after
    pub on_is : on ≡ goes_on first made

module _ {F G E S K R : Type 0} (told : F → Told) (sound : Type 0) (store_faults : F → ℕ) (maker : G → ℕ)
    (ends faults : E → ℕ) (unheard : E → Option (List GuestEvent))
    (left : S → Option (List ℕ)) (source_faults : S → ℕ) (held : K → Option (List ℕ)) (sink_faults : K → ℕ)
    (drawn : R → Option (List ℕ)) where
  -- what a connection reports, once these words were drawn
  abbrev pub reported : Connection S K R → Option (List ℕ) → Reported
  reported c words = record { left = left c.source; held = held c.sink; drawn = words }

  -- a session was served after these words, and then the daemon closed; a fault of an end was counted there, and whole
  -- packets are served whole where no end failed
  pub record IsServedOn (row : DriverRow G) (words : Option (List ℕ)) (was is : Connection S K R) (end : End)
      (closed : Option (Closed F)) : Type 0 where
    pub served : HasServedOne told sound store_faults maker ends faults unheard the_session row
        (reported was words) (reported is (drawn is.random)) end closed
    pub source_fault : end ≡ SourceFault → Rose (source_faults was.source) (source_faults is.source)
    pub sink_fault : end ≡ SinkFault → Rose (sink_faults was.sink) (sink_faults is.sink)
    pub complete : IsWhole (left was.source) → ¬ Rose (source_faults was.source) (source_faults is.source)
        → ¬ Rose (sink_faults was.sink) (sink_faults is.sink) → IsServedWhole end

  -- nobody was served, for want of memory: the ends are as they were, no more words were drawn, and the daemon was closed
  pub record IsGivenUp (row : DriverRow G) (words : Option (List ℕ)) (was is : Connection S K R) (end : End)
      (closed : Option (Closed F)) : Type 0 where
    pub memory : end ≡ NoMemory
    pub source_same : is.source ≡ was.source
    pub sink_same : is.sink ≡ was.sink
    pub words_same : drawn is.random ≡ words
    pub ended : IsEndedWith told sound (row ∷ []) closed

  -- a daemon with this row made the first requests, served one connection where it went on, and was closed
  pub record HasRun (first : First) (found : List Request) (row : DriverRow G) (was is : Connection S K R) (end : End)
      (closed : Option (Closed F)) : Type 0 where
    pub then : DriverRow G
    pub words : Option (List ℕ)
    pub on : Bool
    pub begins : Begins told store_faults maker ends faults unheard first found (hand row (drawn was.random)) (hand then words) on
    pub went : MatchBool on (IsServedOn then words was is end closed) (IsGivenUp then words was is end closed)
