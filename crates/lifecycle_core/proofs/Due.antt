-- The plan of the phases in which a guest is made and set going.
use Rattle.std.proofs.Common.{◌≡◌, ◌∙◌, List, Bool, true, false, Option, None, Some, if◌then◌else◌, is_some, refl, ap}
use Rattle.domain_spec.specs.Types.{Answer, Call, Domain, Live, Op, Phase, State}
use Rattle.domain_spec.specs.Types.phase
use Rattle.domain_spec.specs.Types.state
use Rattle.domain_spec.specs.Asks.{asks_left, undone_by}
use Rattle.domain_spec.specs.Phase.{plan_in, plan_on}
use Rattle.domain_spec.specs.PhaseAsks.{live_phase_plan, phase_plan}
use Rattle.core_rules.specs.declared.cores.Core.TheVariants as core
use Rattle.core_rules.specs.declared.course.Place.{Place}
use Rattle.core_rules.specs.declared.course.Place.TheVariants as place
use Rattle.core_rules.specs.Cores.{core_due, core_of_phase, core_on, is_snapshot}
use Rattle.core_rules.specs.Ends.{has_operation}
use Rattle.core_rules.specs.Next.{next_if, next_of}
use Rattle.core_rules.specs.Place.{next_at, place_after}
use Rattle.core_rules.proofs.NextAsk.{next_is_at}
use Rattle.core_rules.proofs.Plans.{planned_in, undone_in}
use Rattle.lifecycle_core.specs.Plans.{asks_due, asks_in, asks_on, next_due, undo_due, undo_in, undo_on}

not_take : (snapshot : Bool) → (if snapshot then core.Snapshot else core.Save) ≡ core.Lifecycle → ⊥
not_take true e = cc
not_take false e = cc

in_phase :
    (d : Domain) (l : Live) (op : Op) (c : Call) (answers : List Answer) (p : Phase) → core_of_phase p c ≡ core.Lifecycle
    → live_phase_plan d l op c answers p ≡ undone_by (undo_in p) (asks_in l p)
in_phase d l op c answers phase.Make e = refl
in_phase d l op c answers phase.Run e = refl
in_phase d l op c answers phase.Take e = absurd (not_take (is_snapshot c) e)
in_phase d l op c answers phase.Nothing e = cc
in_phase d l op c answers phase.Load e = cc
in_phase d l op c answers phase.Copy e = cc
in_phase d l op c answers phase.Poll e = cc
in_phase d l op c answers phase.Quit e = cc
in_phase d l op c answers phase.Cancel e = cc
in_phase d l op c answers phase.MigrateCopy e = cc
in_phase d l op c answers phase.MigrateTake e = cc
in_phase d l op c answers phase.MigrateCancel e = cc
in_phase d l op c answers phase.MigrateLoad e = cc
in_phase d l op c answers phase.Resting e = cc
in_phase d l op c answers phase.MigrateQuit e = cc
in_phase d l op c answers phase.MigrateBack e = cc
in_phase d l op c answers phase.MigrateRun e = cc
in_phase d l op c answers phase.MigrateDrop e = cc

in_domain :
    (d : Domain) (live : Option Live) (o : Option Op) (c : Call) (answers : List Answer) → d.live ≡ live → core_on o c ≡ core.Lifecycle
    → plan_on d o c answers ≡ undone_by (undo_on live o) (asks_on live o)
in_domain d live None c answers l e = cc
in_domain d None (Some op) c answers l e = ap (λ live. phase_plan d live op c answers) l
in_domain d (Some l) (Some op) c answers e due = ap (λ live. phase_plan d live op c answers) e ∙ in_phase d l op c answers op.phase due

in_state : (s : State) (c : Call) (answers : List Answer) → core_due s c ≡ core.Lifecycle → plan_in s c answers ≡ undone_by (undo_due s) (asks_due s)
unfolding undo_due asks_due
in_state (state.Vacant boots) c answers e = cc
in_state (state.Held d) c answers e = in_domain d d.live d.op c answers refl e

at_place : (s : State) (p : Place) → next_at (undone_by (undo_due s) (asks_due s)) p ≡ next_due s p
at_place s (place.Plan n) = ap next_if (planned_in (undo_due s) (asks_due s) n)
at_place s (place.Undo of step) = ap next_if (undone_in (undo_due s) (asks_due s) of step)
at_place s place.Through = refl

-- what is next of the plan that is due
pub next_of_due :
    (s : State) (c : Call) (answers : List Answer) → core_due s c ≡ core.Lifecycle
    → next_of (asks_left (plan_in s c answers) answers) ≡ next_due s (place_after answers)
next_of_due s c answers e =
    ap (λ plan. next_of (asks_left plan answers)) (in_state s c answers e)
    ∙ (next_is_at (undone_by (undo_due s) (asks_due s)) answers ∙ at_place s (place_after answers))

has_on : (o : Option Op) (c : Call) → core_on o c ≡ core.Lifecycle → is_some o ≡ true
has_on None c e = cc
has_on (Some op) c e = refl

-- where these phases are due there is an operation
pub due_has_operation : (s : State) (c : Call) → core_due s c ≡ core.Lifecycle → has_operation s ≡ true
due_has_operation (state.Vacant boots) c e = cc
due_has_operation (state.Held d) c e = has_on d.op c e
