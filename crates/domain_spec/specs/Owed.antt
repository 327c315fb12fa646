-- What a listener is owed: the transitions after its registration, in order, up to its end.
use Rattle.std.specs.Prelude.{ℕ, ◌+◌, ◌-◌, ◌==◌, List, [], ◌∷◌, ◌++◌, take, drop, slice_get, true, false, if◌then◌else◌, flat_map, Option, None, Some}
use Rattle.domain_spec.specs.Types.{Transition}
use Rattle.domain_spec.specs.declared.mark.Mark.{Mark}
use Rattle.domain_spec.specs.declared.mark.Mark.TheVariants as mark
use Rattle.domain_spec.specs.declared.owed.Owed.{Owed}
use Rattle.domain_spec.specs.declared.standing.Registration.{Registration}
use Rattle.domain_spec.specs.Fold.{transitions_of}

-- all these, and no loss
abbrev pub owed_all : List Transition → Owed
owed_all events = record { events = events; is_lost = false }

-- a registration was cut after `total` transitions, of which those before `taken` are not among
-- these; then its loss is told
abbrev pub owed_cut : List Transition → ℕ → ℕ → Owed
owed_cut events total taken = record { events = take (total - taken) events; is_lost = true }

-- what a client is owed that has these transitions so far and took `taken` before them, through
-- these marks
abbrev pub owed_from : ℕ → ℕ → List Transition → List (Mark ℕ) → Owed
owed_from client taken events [] = owed_all events
owed_from client taken events (mark.Unwatch number other ∷ marks) =
    if other == client then owed_all events else owed_from client taken events marks
owed_from client taken events (mark.Cut other total count ∷ marks) =
    if other == client then owed_cut events total taken else owed_from client taken events marks
owed_from client taken events (m ∷ marks) = owed_from client taken (events ++ transitions_of m) marks

-- what a client is owed, by the marks after its Watch
abbrev pub owed : ℕ → List (Mark ℕ) → Owed
owed client marks = owed_from client 0 [] marks

-- what the registration is owed that this mark made, by the marks after it
abbrev pub owed_after : Option (Mark ℕ) → List (Mark ℕ) → Option Owed
owed_after (Some (mark.Watch number client)) later = Some (owed client later)
owed_after other later = None

-- what the registration is owed whose Watch is at this place of a history
abbrev pub owed_since : List (Mark ℕ) → ℕ → Option Owed
owed_since marks place = owed_after (slice_get marks place) (drop (place + 1) marks)

-- what a registration of a chapter's base is owed, by the marks of the chapter: first what pends
abbrev pub owed_at_base : Registration → List (Mark ℕ) → Owed
owed_at_base r marks =
    if r.is_lost then record { events = r.pending; is_lost = true } else owed_from r.client r.taken r.pending marks

-- all transitions of these marks, in order
abbrev pub all_transitions : List (Mark ℕ) → List Transition
all_transitions marks = flat_map transitions_of marks
