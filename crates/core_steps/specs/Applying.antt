-- Held events that apply at the end of a turn.
use Rattle.std.specs.Prelude.{◌≡◌, List, [], ◌∷◌, Bool, true, false}
use Rattle.domain_spec.specs.declared.mark.Mark.TheVariants as mark
use Rattle.domain_spec.specs.Cell.{HeldEvent}
use Rattle.domain_spec.specs.Exit.{event_transitions}
use Rattle.domain_spec.specs.Reading.{is_live}
use Rattle.core_log.specs.Record.{Recorded, Tells, force_of}

-- an event of the live boot is marked and told; one of an earlier boot is let go of
abbrev pub AppliesOne : Bool → HeldEvent → Recorded → Recorded → Type 0
AppliesOne true h old new =
    Tells old new (mark.Event h.boot h.event (event_transitions (force_of old).state h.event) ∷ []) × (new.course ≡ old.course)
AppliesOne false h old new = new ≡ old

-- these events apply, one after the other
abbrev pub Applies : List HeldEvent → Recorded → Recorded → Type 0
Applies [] old new = new ≡ old
Applies (h ∷ hs) old new = (mid : Recorded) × AppliesOne (is_live (force_of old).state h.boot) h old mid × Applies hs mid new
