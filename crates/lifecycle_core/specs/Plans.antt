-- The asks by which a guest is made and set going, one by one.
use Rattle.std.specs.Prelude.{ℕ, List, [], ◌∷◌, ◌++◌, flat_map, length, nat_lt, slice_get, Option, None, Some, if◌then◌else◌}
use Rattle.domain_spec.specs.Types.{Ask, Interface, Live, Op, Phase, State}
use Rattle.domain_spec.specs.Types.ask
use Rattle.domain_spec.specs.Types.command
use Rattle.domain_spec.specs.Types.phase
use Rattle.domain_spec.specs.Types.state
use Rattle.domain_spec.specs.Call.{lease_of, tell}
use Rattle.domain_spec.specs.PhaseAsks.{make_asks, two}
use Rattle.core_rules.specs.declared.course.Place.{Place}
use Rattle.core_rules.specs.declared.course.Place.TheVariants as place
use Rattle.core_rules.specs.declared.next.Next.{Next}
use Rattle.core_rules.specs.declared.next.Next.TheVariants as next
use Rattle.core_rules.specs.Next.{next_if}

-- the leases of these interfaces, and then the guest is made
abbrev pub leases_then_make : List Interface → Live → List Ask
leases_then_make interfaces l = flat_map lease_of interfaces ++ ask.Make l.def l.boot ∷ []

-- what these two phases ask
abbrev pub asks_in : Live → Phase → List Ask
asks_in l phase.Make = make_asks l
asks_in l phase.Run = two command.QueryStatus command.Cont
asks_in l other = []

-- what undoes them
abbrev pub undo_in : Phase → List Ask
undo_in phase.Run = tell command.Quit
undo_in other = []

-- what is asked where there is a guest and an operation
abbrev pub asks_on : Option Live → Option Op → List Ask
asks_on (Some l) (Some op) = asks_in l op.phase
asks_on l op = []

-- what undoes it
abbrev pub undo_on : Option Live → Option Op → List Ask
undo_on (Some l) (Some op) = undo_in op.phase
undo_on l op = []

-- what the phase asks that is due in this state
unfoldable pub asks_due : State → List Ask
asks_due (state.Vacant boots) = []
asks_due (state.Held d) = asks_on d.live d.op

-- what undoes it, whichever ask was refused
unfoldable pub undo_due : State → List Ask
undo_due (state.Vacant boots) = []
undo_due (state.Held d) = undo_on d.live d.op

-- the step at this place of the undo of the ask at that place
abbrev pub undo_due_at : State → ℕ → ℕ → Option Ask
undo_due_at s of step = if nat_lt of (length (asks_due s)) then slice_get (undo_due s) step else None

-- what is next at this place
abbrev pub next_due : State → Place → Next
next_due s (place.Plan n) = next_if (slice_get (asks_due s) n)
next_due s (place.Undo of step) = next_if (undo_due_at s of step)
next_due s place.Through = next.Finish
