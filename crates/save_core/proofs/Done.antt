-- What the due phase leaves by its state: on the guest and the operation that the domain has.
use Rattle.std.proofs.Common.{◌≡◌, ◌∙◌, true, false, [], List, Option, None, Some, is_some, if◌then◌else◌, refl, sym, ap, subst}
use Rattle.domain_spec.specs.Types.{Answer, Call, Domain, Live, Op, Phase, State, Transition}
use Rattle.domain_spec.specs.Types.call
use Rattle.domain_spec.specs.Types.phase
use Rattle.domain_spec.specs.Types.reply
use Rattle.domain_spec.specs.Types.state
use Rattle.domain_spec.specs.Begin.{due_in, due_phase}
use Rattle.domain_spec.specs.CopyResult.{over}
use Rattle.domain_spec.specs.Operation.{led_to, live_phase_done}
use Rattle.domain_spec.specs.Phase.{inactive_phase_done, inactive_take_done, phase_done}
use Rattle.domain_spec.specs.Refusals.{no_domain}
use Rattle.core_rules.specs.Cores.{core_due, core_of_phase, core_of_take, core_on}
use Rattle.core_rules.specs.Ends.{done_in, done_on, has_operation}
use Rattle.core_rules.specs.Led.{led_by, led_in}
use Rattle.core_rules.specs.declared.cores.Core.TheVariants as core
use Rattle.core_rules.specs.declared.ends.PhaseEnd.{PhaseEnd}
use Rattle.save_core.specs.Leaving.{IsLeft, OnGuest, WithBoth}
use Rattle.save_core.specs.PhaseFits.{IsMade, IsMadeIn, has_guest, is_take, needed_by}
use Rattle.save_core.specs.declared.phase_memory.PhaseParts.{PhaseParts}

is_there : (o : Option Op) (c : Call) → core_on o c ≡ core.Save → is_some o ≡ true
is_there None c e = cc
is_there (Some op) c e = refl

-- the operation is there
pub has_one : (s : State) (c : Call) → core_due s c ≡ core.Save → has_operation s ≡ true
has_one (state.Vacant boots) c e = cc
has_one (state.Held d) c e = is_there d.op c e

due_core_on : (o : Option Op) (c : Call) → core_on o c ≡ core.Save → core_of_phase (due_in o) c ≡ core.Save
due_core_on None c e = cc
due_core_on (Some op) c e = e

-- the due phase is one of this part's
pub due_core : (s : State) (c : Call) → core_due s c ≡ core.Save → core_of_phase (due_phase s) c ≡ core.Save
due_core (state.Vacant boots) c e = cc
due_core (state.Held d) c e = due_core_on d.op c e

made_on :
    (parts : PhaseParts) (d : Domain) (live : Option Live) (o : Option Op) (c : Call)
    → WithBoth live o (λ l op. IsMade (needed_by op.phase) parts d l op c) → WithBoth live o (λ l op. IsMade (needed_by (due_in o)) parts d l op c)
made_on parts d (Some l) (Some op) c h = h
made_on parts d None o c h = tt
made_on parts d (Some l) None c h = tt

-- what the due phase needs was made
pub made_due :
    (parts : PhaseParts) (s : State) (c : Call) → IsMadeIn parts s c → OnGuest s (λ d l op. IsMade (needed_by (due_phase s)) parts d l op c)
made_due parts (state.Vacant boots) c h = tt
made_due parts (state.Held d) c h = made_on parts d d.live d.op c h

guest_left_on :
    (d : Domain) (live : Option Live) (o : Option Op) (c : Call) (answers : List Answer) (now : State) (before after : List Transition) (end : PhaseEnd)
    → d.live ≡ live → core_on o c ≡ core.Save → is_some live ≡ true
    → WithBoth live o (λ l op. IsLeft (live_phase_done d l op c answers (due_in o)) now before after end)
    → IsLeft (done_on d o c answers) now before after end
guest_left_on d None o c answers now before after end is e has h = cc
guest_left_on d (Some l) None c answers now before after end is e has h = cc
guest_left_on d (Some l) (Some op) c answers now before after end is e has h =
    subst (λ (v : Option Live). IsLeft (phase_done d v op c answers) now before after end) (sym is) h

-- a phase on a guest
pub guest_left :
    (s : State) (c : Call) (answers : List Answer) (now : State) (before after : List Transition) (end : PhaseEnd)
    → core_due s c ≡ core.Save → has_guest s ≡ true
    → OnGuest s (λ d l op. IsLeft (live_phase_done d l op c answers (due_phase s)) now before after end)
    → IsLeft (done_in s c answers) now before after end
guest_left (state.Vacant boots) c answers now before after end e has h = cc
guest_left (state.Held d) c answers now before after end e has h = guest_left_on d d.live d.op c answers now before after end refl e has h

take_inactive : (d : Domain) (c : Call) → core_of_take c ≡ core.Save → inactive_take_done d c ≡ over (state.Held d) [] (reply.No no_domain)
take_inactive d (call.Snapshot info) e = cc
take_inactive d other e = refl

inactive_by :
    (d : Domain) (op : Op) (c : Call) (p : Phase) → core_of_phase p c ≡ core.Save
    → inactive_phase_done d op c p ≡ over (state.Held d) [] (if is_take p then reply.No no_domain else led_to op)
inactive_by d op c phase.Take e = take_inactive d c e
inactive_by d op c phase.Nothing e = cc
inactive_by d op c phase.Make e = refl
inactive_by d op c phase.Run e = refl
inactive_by d op c phase.Load e = refl
inactive_by d op c phase.Copy e = refl
inactive_by d op c phase.Poll e = refl
inactive_by d op c phase.Quit e = refl
inactive_by d op c phase.Cancel e = refl
inactive_by d op c phase.MigrateCopy e = refl
inactive_by d op c phase.MigrateTake e = refl
inactive_by d op c phase.MigrateCancel e = refl
inactive_by d op c phase.MigrateLoad e = refl
inactive_by d op c phase.Resting e = refl
inactive_by d op c phase.MigrateQuit e = refl
inactive_by d op c phase.MigrateBack e = refl
inactive_by d op c phase.MigrateRun e = refl
inactive_by d op c phase.MigrateDrop e = refl

inactive_on :
    (d : Domain) (live : Option Live) (o : Option Op) (c : Call) (answers : List Answer)
    → d.live ≡ live → core_on o c ≡ core.Save → is_some live ≡ false
    → done_on d o c answers ≡ over (state.Held d) [] (if is_take (due_in o) then reply.No no_domain else led_by o)
inactive_on d (Some l) o c answers is e has = cc
inactive_on d None None c answers is e has = cc
inactive_on d None (Some op) c answers is e has = ap (λ v. phase_done d v op c answers) is ∙ inactive_by d op c op.phase e

-- a phase without a guest
pub inactive_left :
    (s : State) (c : Call) (answers : List Answer) → core_due s c ≡ core.Save → has_guest s ≡ false
    → done_in s c answers ≡ over s [] (if is_take (due_phase s) then reply.No no_domain else led_in s)
unfolding led_in
inactive_left (state.Vacant boots) c answers e has = cc
inactive_left (state.Held d) c answers e has = inactive_on d d.live d.op c answers refl e has
