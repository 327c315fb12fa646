-- Why an operation that took its answers is over, or waits for another one.
use Rattle.std.proofs.Common.{◌≡◌, ℕ, ◌⊎◌, inl, inr, ◌==◌, List, [], ◌∷◌, ◌++◌, length, Bool, true, false, not, if◌then◌else◌, Option, None, Some, refl, arith, unwrap_or, flat_map}
use Rattle.std.proofs.lemmas.Grind.{common_steps}
use Rattle.domain_spec.specs.Types.{Answer, Ask, Call, Domain, DomainDef, Live, Op, OpKind, Phase, Refusal, SnapInfo, State}
use Rattle.domain_spec.specs.Types.ask
use Rattle.domain_spec.specs.Types.call
use Rattle.domain_spec.specs.Types.command
use Rattle.domain_spec.specs.Types.kind
use Rattle.domain_spec.specs.Types.phase
use Rattle.domain_spec.specs.Types.reply
use Rattle.domain_spec.specs.Types.state
use Rattle.domain_spec.specs.declared.loaded.Loaded.{Loaded}
use Rattle.domain_spec.specs.declared.open.OpenOperation.{OpenOperation}
use Rattle.domain_spec.specs.declared.progress.DonePhase.{DonePhase}
use Rattle.domain_spec.specs.declared.progress.Progress.{Progress}
use Rattle.domain_spec.specs.declared.step.Outcome.{Outcome}
use Rattle.domain_spec.specs.declared.step.Outcome.TheVariants as outcome
use Rattle.domain_spec.specs.declared.step.PhaseStep.{PhaseStep}
use Rattle.domain_spec.specs.Asks.{asks_left, undone_by}
use Rattle.domain_spec.specs.Call.{lease_of, tell_if}
use Rattle.domain_spec.specs.CopyResult.{cancel_phase, cancels, loaded_active, loaded_new, loaded_with, over, poll_done}
use Rattle.domain_spec.specs.Operation.{live_phase_done, quit_done, take_done}
use Rattle.domain_spec.specs.Phase.{ended_reply, inactive_phase_done, inactive_take_done, inactive_taken, phase_done, phase_on, plan_on}
use Rattle.domain_spec.specs.PhaseAsks.{is_given_up, live_phase_asks, live_phase_plan, live_phase_undo, loaded_of, phase_plan, take_asks}
use Rattle.domain_spec.specs.Reading.{carries_ended}
use Rattle.domain_spec.specs.Refusals.{aborted, no_domain, stalled}
use Rattle.domain_spec.specs.Laws.{IsOverOrWaits, WaitsAt}
use Rattle.domain_spec.specs.WholeOperation.{due_step, is_through, lost_by, advanced, stepped, stepped_by, with_answer, with_answers, with_phase, whole_operation}

-- no phase is due
abbrev IsStopped : Outcome → Type 0
IsStopped (outcome.On p) = ⊥
IsStopped other = Unit {0}

abbrev IsOver : PhaseStep → Type 0
IsOver step = IsStopped step.outcome

-- the operation goes on with the cancel
abbrev GivesUp : Domain → Op → PhaseStep → Type 0
GivesUp d op step = (r : Refusal) × (step ≡ cancels d op r)

one_over : (b : Bool) (x y : PhaseStep) → IsOver x → IsOver y → IsOver (if b then x else y)
one_over true x y hx hy = hx
one_over false x y hx hy = hy

-- a phase without asks

some_left : (undo rest : List Ask) (a : Ask) → (length (asks_left (undone_by undo (a ∷ rest)) []) == 0) ≡ false
some_left undo rest a = grind (arith, common_steps)

none_left : (undo asks : List Ask) → (length (asks_left (undone_by undo asks) []) == 0) ≡ true → asks ≡ []
none_left undo [] is = refl
none_left undo (a ∷ asks) is = cc (some_left undo asks a)

not_empty : (xs : List Ask) (y : Ask) → xs ++ y ∷ [] ≡ [] → ⊥
not_empty [] y is = cc
not_empty (x ∷ xs) y is = cc

load_over : (d : Domain) (l : Live) (op : Op) (c : Call) (o : Option Loaded) → IsOver (loaded_with d l op c o)
load_over d l op c None = tt
load_over d l op c (Some loaded) = one_over op.new_boot (loaded_new d l c loaded) (loaded_active d l c loaded) tt tt

quit_over : (d : Domain) (l : Live) (c : Call) → IsOver (quit_done d l c)
quit_over d l (call.Save name) = tt
quit_over d l other = tt

take_over : (d : Domain) (l : Live) (op : Op) (c : Call) → take_asks l op c [] ≡ [] → IsOver (take_done d l op c [])
take_over d l op (call.Save name) e = cc
take_over d l op (call.Snapshot info) e = tt
take_over d l op other e = tt

gives_up_by : (d : Domain) (op : Op) (a g : Bool) (r s : Refusal) (z : PhaseStep) → tell_if (not g) command.CopyPoll ≡ [] → GivesUp d op (if a then cancels d op r else if g then cancels d op s else z)
gives_up_by d op true g r s z e = (r, refl)
gives_up_by d op false true r s z e = (s, refl)
gives_up_by d op false false r s z e = cc

live_leads : (d : Domain) (l : Live) (op : Op) (c : Call) (p : Phase) → live_phase_asks d l op c [] p ≡ [] → IsOver (live_phase_done d l op c [] p) ⊎ GivesUp d op (live_phase_done d l op c [] p)
live_leads d l op c phase.Nothing e = inl tt
live_leads d l op c phase.Make e = absurd (not_empty (flat_map lease_of l.def.interfaces) (ask.Make l.def l.boot) e)
live_leads d l op c phase.Run e = inl tt
live_leads d l op c phase.Load e = inl (load_over d l op c (loaded_of d c))
live_leads d l op c phase.Copy e = absurd (not_empty (tell_if _ command.Stop) (ask.Command command.CopyBegin) e)
live_leads d l op c phase.Poll e = inr (gives_up_by d op op.abort (is_given_up op) aborted (stalled (unwrap_or op.remaining 0)) (poll_done d op 0) e)
live_leads d l op c phase.Take e = inl (take_over d l op c e)
live_leads d l op c phase.Quit e = inl (quit_over d l c)
live_leads d l op c phase.Cancel e = inl tt
live_leads d l op c phase.MigrateCopy e = cc
live_leads d l op c other e = inl tt

taken_over : (d : Domain) (info : SnapInfo) (def : Option DomainDef) → IsOver (inactive_taken d info def)
taken_over d info None = tt
taken_over d info (Some def) = tt

inactive_take_over : (d : Domain) (c : Call) → IsOver (inactive_take_done d c)
inactive_take_over d (call.Snapshot info) = taken_over d info d.stored
inactive_take_over d other = tt

inactive_over : (d : Domain) (op : Op) (c : Call) (p : Phase) → IsOver (inactive_phase_done d op c p)
inactive_over d op c phase.Take = inactive_take_over d c
inactive_over d op c phase.Nothing = tt
inactive_over d op c other = tt

-- what a phase leads to

lost_none : (s : State) (boot : Option ℕ) → lost_by s boot [] ≡ None
lost_none s None = refl
lost_none s (Some boot) = refl

over_waits_by : (at : Progress) (o : Outcome) → IsStopped o → WaitsAt at o
over_waits_by at (outcome.On p) is = absurd is
over_waits_by at (outcome.Over r) is = tt
over_waits_by at (outcome.Rest r) is = tt

stops_by : (o due : Outcome) → o ≡ due → IsStopped due → IsStopped o
stops_by o due e is = rw e is

over_waits : (at : Progress) (p : Phase) (step : PhaseStep) → IsOver step → IsOverOrWaits (with_phase at p step)
over_waits at p step is = over_waits_by (with_phase at p step) step.outcome is

waits_by : (at : Progress) (o : Outcome) → is_through at ≡ false → WaitsAt at o
waits_by at (outcome.Over r) is = tt
waits_by at (outcome.Rest r) is = tt
waits_by at (outcome.On p) is = is

waits_if : (at : Progress) (p : Phase) (x y : PhaseStep) → x ≡ y → IsOverOrWaits (with_phase at p y) → IsOverOrWaits (with_phase at p x)
waits_if at p x y e h = rw e h

-- an operation that has taken no answer for its due phase
abbrev fresh : List DonePhase → State → OpenOperation → Progress
fresh ps s o = record { phases = ps; state = s; operation = o; left = [] }

cancel_left : (d : Domain) (l : Live) (op : Op) (c : Call) (r : Refusal) (k : OpKind) → (let next : Op = record op { refusal = Some r; phase = cancel_phase k } in length (asks_left (live_phase_plan (record d { op = Some next }) l next c [] next.phase) []) == 0) ≡ false
cancel_left d l op c r kind.MigrateOut = some_left [] [] (ask.Command command.CopyCancel)
cancel_left d l op c r other = some_left [] (tell_if _ command.Cont) (ask.Command command.CopyCancel)

-- a phase that asks nothing
plan_leads : (d : Domain) (l : Live) (op : Op) (c : Call) (p : Phase) → (length (asks_left (live_phase_plan d l op c [] p) []) == 0) ≡ true → IsOver (live_phase_done d l op c [] p) ⊎ GivesUp d op (live_phase_done d l op c [] p)
plan_leads d l op c phase.MigrateTake is = inl tt
plan_leads d l op c other is = live_leads d l op c other (none_left (live_phase_undo l op other) (live_phase_asks d l op c [] other) is)

cancel_waits :
    (ps : List DonePhase) (d : Domain) (o : OpenOperation) (p : Phase) (op : Op) (l : Live) (r : Refusal)
    → d.live ≡ Some l → carries_ended (state.Held d) o.boot ≡ false → IsOverOrWaits (with_phase (fresh ps (state.Held d) o) p (cancels d op r))
cancel_waits ps d o p op l r live on =
    rw (lost_none (state.Held (record d { op = Some (record op { refusal = Some r; phase = phase.Cancel }) })) o.boot, on, live)
    (cancel_left d l op o.call r op.kind)

live_waits :
    (ps : List DonePhase) (d : Domain) (o : OpenOperation) (p : Phase) (op : Op) (l : Live)
    → d.live ≡ Some l → carries_ended (state.Held d) o.boot ≡ false
    → IsOver (live_phase_done d l op o.call [] op.phase) ⊎ GivesUp d op (live_phase_done d l op o.call [] op.phase)
    → IsOverOrWaits (with_phase (fresh ps (state.Held d) o) p (live_phase_done d l op o.call [] op.phase))
live_waits ps d o p op l live on (inl is) = over_waits (fresh ps (state.Held d) o) p (live_phase_done d l op o.call [] op.phase) is
live_waits ps d o p op l live on (inr is) =
    waits_if (fresh ps (state.Held d) o) p (live_phase_done d l op o.call [] op.phase) (cancels d op is.0) is.1 (cancel_waits ps d o p op l is.0 live on)

done_waits :
    (ps : List DonePhase) (d : Domain) (o : OpenOperation) (p : Phase) (op : Op) (live : Option Live)
    → d.live ≡ live → carries_ended (state.Held d) o.boot ≡ false → (length (asks_left (phase_plan d live op o.call []) []) == 0) ≡ true
    → IsOverOrWaits (with_phase (fresh ps (state.Held d) o) p (phase_done d live op o.call []))
done_waits ps d o p op None e on is = over_waits (fresh ps (state.Held d) o) p (inactive_phase_done d op o.call op.phase) (inactive_over d op o.call op.phase)
done_waits ps d o p op (Some l) e on is =
    live_waits ps d o p op l e on
    (plan_leads d l op o.call op.phase is)

on_waits :
    (ps : List DonePhase) (d : Domain) (o : OpenOperation) (p : Phase) (op : Option Op)
    → carries_ended (state.Held d) o.boot ≡ false → (length (asks_left (plan_on d op o.call []) []) == 0) ≡ true
    → IsOverOrWaits (with_phase (fresh ps (state.Held d) o) p (phase_on d op o.call []))
on_waits ps d o p None on is = over_waits (fresh ps (state.Held d) o) p (over (state.Held d) [] (reply.No no_domain)) tt
on_waits ps d o p (Some op) on is = done_waits ps d o p op d.live refl on is

held_waits :
    (ps : List DonePhase) (d : Domain) (o : OpenOperation) (p : Phase) (b : Bool)
    → carries_ended (state.Held d) o.boot ≡ b → (length (if b then [] else asks_left (plan_on d d.op o.call []) []) == 0) ≡ true
    → IsOverOrWaits (with_phase (fresh ps (state.Held d) o) p (if b then over (state.Held d) [] (ended_reply o o.boot []) else phase_on d d.op o.call []))
held_waits ps d o p true on is = over_waits (fresh ps (state.Held d) o) p (over (state.Held d) [] (ended_reply o o.boot [])) tt
held_waits ps d o p false on is = on_waits ps d o p d.op on is

through_waits :
    (ps : List DonePhase) (s : State) (o : OpenOperation) (p : Phase)
    → is_through (fresh ps s o) ≡ true → IsOverOrWaits (with_phase (fresh ps s o) p (due_step (fresh ps s o)))
through_waits ps (state.Vacant boots) o p is =
    over_waits (fresh ps (state.Vacant boots) o) p (due_step (fresh ps (state.Vacant boots) o))
    (one_over (carries_ended (state.Vacant boots) o.boot) (over (state.Vacant boots) [] (ended_reply o o.boot [])) (over (state.Vacant boots) [] (reply.No no_domain)) tt tt)
through_waits ps (state.Held d) o p is = held_waits ps d o p (carries_ended (state.Held d) o.boot) refl is

fresh_by :
    (ps : List DonePhase) (s : State) (o : OpenOperation) (p : Phase) (b : Bool)
    → is_through (fresh ps s o) ≡ b → IsOverOrWaits (if b then with_phase (fresh ps s o) p (due_step (fresh ps s o)) else fresh ps s o)
fresh_by ps s o p true is = through_waits ps s o p is
fresh_by ps s o p false is = waits_by (fresh ps s o) o.outcome is

fresh_steps : (ps : List DonePhase) (s : State) (o : OpenOperation) (due : Outcome) → o.outcome ≡ due → IsOverOrWaits (stepped_by (fresh ps s o) due)
fresh_steps ps s o (outcome.Over r) e = over_waits_by (fresh ps s o) o.outcome (stops_by o.outcome (outcome.Over r) e tt)
fresh_steps ps s o (outcome.Rest r) e = over_waits_by (fresh ps s o) o.outcome (stops_by o.outcome (outcome.Rest r) e tt)
fresh_steps ps s o (outcome.On p) e = fresh_by ps s o p (is_through (fresh ps s o)) refl

-- what is over or waits stays so
stays_by : (at : Progress) (due : Outcome) → WaitsAt at due → IsOverOrWaits at → IsOverOrWaits (stepped_by at due)
stays_by at (outcome.Over r) waits h = h
stays_by at (outcome.Rest r) waits h = h
stays_by at (outcome.On p) waits h = rw waits h

stays : (at : Progress) → IsOverOrWaits at → IsOverOrWaits (stepped at)
stays at h = stays_by at at.operation.outcome h h

settles_through : (at : Progress) (p : Phase) (b : Bool) → is_through at ≡ b → IsOverOrWaits (stepped (if b then with_phase at p (due_step at) else at))
settles_through at p true is =
    let next = with_phase at p (due_step at) in
    fresh_steps next.phases next.state next.operation next.operation.outcome refl
settles_through at p false is = stays at (waits_by at at.operation.outcome is)

settles_by : (at : Progress) (due : Outcome) → at.operation.outcome ≡ due → IsOverOrWaits (stepped (stepped_by at due))
settles_by at (outcome.Over r) e = stays at (over_waits_by at at.operation.outcome (stops_by at.operation.outcome (outcome.Over r) e tt))
settles_by at (outcome.Rest r) e = stays at (over_waits_by at at.operation.outcome (stops_by at.operation.outcome (outcome.Rest r) e tt))
settles_by at (outcome.On p) e = settles_through at p (is_through at) refl

settles : (at : Progress) → IsOverOrWaits (advanced at)
settles at = settles_by at at.operation.outcome refl

answers_settle : (answers : List Answer) (at : Progress) → IsOverOrWaits at → IsOverOrWaits (with_answers at answers)
answers_settle [] at h = h
answers_settle (a ∷ answers) at h = answers_settle answers (with_answer at a) (settles (record at { left = at.left ++ a ∷ [] }))

pub whole_settles : (s : State) (o : OpenOperation) (answers : List Answer) → IsOverOrWaits (whole_operation s o answers)
whole_settles s o answers = answers_settle answers (advanced (fresh [] s o)) (settles (fresh [] s o))
