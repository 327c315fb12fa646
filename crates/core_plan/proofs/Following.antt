-- Why a phase's plan changes with an answer only by the copy that comes first.
use Rattle.std.proofs.Common.{◌≡◌, ℕ, List, [], ◌∷◌, ◌++◌, flat_map, map, Bool, true, false, not, ◌&&◌, Option, None, Some, if◌then◌else◌, refl, sym, ap, ◌∙◌}
use Rattle.std.proofs.lemmas.List.{map-append}
use Rattle.domain_spec.specs.Types.{Answer, AnswerValue, Ask, Call, Command, Domain, ImageKind, Interface, Live, Mac, Op, Phase, State}
use Rattle.domain_spec.specs.Types.ask
use Rattle.domain_spec.specs.Types.call
use Rattle.domain_spec.specs.Types.command
use Rattle.domain_spec.specs.Types.image
use Rattle.domain_spec.specs.Types.phase
use Rattle.domain_spec.specs.Types.state
use Rattle.domain_spec.specs.declared.loaded.Loaded.{Loaded}
use Rattle.domain_spec.specs.declared.planned.PlannedAsk.{PlannedAsk}
use Rattle.domain_spec.specs.Asks.{first_value, plain, undone_by, value_of}
use Rattle.domain_spec.specs.Call.{lease_for, lease_if, lease_of, tell, tell_if}
use Rattle.domain_spec.specs.Phase.{plan_in, plan_on}
use Rattle.domain_spec.specs.PhaseAsks.{cancel_asks, copied_bytes, copy_asks, is_given_up, live_phase_asks, live_phase_plan, live_phase_undo, load_asks, loaded_of, make_asks, migrate_load_asks, migrate_take_plan, phase_plan, resumes, take_asks, write_image}
use Rattle.domain_spec.specs.Devices.{is_on_network, network_of}
use Rattle.domain_spec.specs.Reading.{is_running}
use Rattle.core_plan.specs.PhaseCopying.{PlansFollowAnswers, plan_after, with_copy, writing}

-- the asks with this copy in them
abbrev copied : List ℕ → List Ask → List Ask
copied bytes asks = map (λ a. writing bytes a) asks

told_same : (bytes : List ℕ) (c : Command) → copied bytes (tell c) ≡ tell c
told_same bytes c = refl

if_same : (bytes : List ℕ) (b : Bool) (c : Command) → copied bytes (tell_if b c) ≡ tell_if b c
if_same bytes true c = refl
if_same bytes false c = refl

both_copied : (bytes : List ℕ) (xs ys us vs : List Ask) → copied bytes xs ≡ us → copied bytes ys ≡ vs → copied bytes (xs ++ ys) ≡ us ++ vs
both_copied bytes xs ys us vs e f =
    map-append (λ a. writing bytes a) xs ys ∙ ap (λ (z : List Ask). z ++ copied bytes ys) e ∙ ap (λ (z : List Ask). us ++ z) f

lease_for_same : (bytes network : List ℕ) (mac : Option Mac) → copied bytes (lease_for network mac) ≡ lease_for network mac
lease_for_same bytes network None = refl
lease_for_same bytes network (Some mac) = refl

lease_same : (bytes : List ℕ) (b : Bool) (i : Interface) → copied bytes (lease_if b i) ≡ lease_if b i
lease_same bytes true i = lease_for_same bytes (network_of i) i.mac
lease_same bytes false i = refl

leases_same : (bytes : List ℕ) (is : List Interface) → copied bytes (flat_map lease_of is) ≡ flat_map lease_of is
leases_same bytes [] = refl
leases_same bytes (i ∷ is) = both_copied bytes (lease_of i) (flat_map lease_of is) (lease_of i) (flat_map lease_of is) (lease_same bytes (is_on_network i.kind) i) (leases_same bytes is)

load_same : (bytes : List ℕ) (l : Live) (op : Op) (o : Option Loaded) → copied bytes (load_asks l op o) ≡ load_asks l op o
load_same bytes l op None = refl
load_same bytes l op (Some loaded) =
    let stop : List Ask = tell_if (not op.new_boot && is_running l.run) command.Stop in
    let load : List Ask = tell (command.LoadState loaded.saved) in
    both_copied bytes (stop ++ load) (tell_if loaded.ran command.Cont) (stop ++ load) (tell_if loaded.ran command.Cont)
    (both_copied bytes stop load stop load (if_same bytes (not op.new_boot && is_running l.run) command.Stop) refl)
    (if_same bytes loaded.ran command.Cont)

migrate_same : (bytes : List ℕ) (o : Option Loaded) → copied bytes (migrate_load_asks o) ≡ migrate_load_asks o
migrate_same bytes None = refl
migrate_same bytes (Some loaded) = refl

-- a copy is written as the first answer brings it
take_copied : (l : Live) (op : Op) (c : Call) (x : Answer) → copied (copied_bytes (value_of x)) (take_asks l op c []) ≡ take_asks l op c (x ∷ [])
take_copied l op (call.Save name) x = refl
take_copied l op (call.Dump name) x =
    ap (λ (asks : List Ask). ask.Command command.CopyTake ∷ write_image name image.Dump l op (x ∷ []) ++ asks) (if_same (copied_bytes (value_of x)) (resumes l op) command.Cont)
take_copied l op c x = ap (λ (asks : List Ask). ask.Command command.CopyTake ∷ asks) (if_same (copied_bytes (value_of x)) (resumes l op) command.Cont)

asks_copied : (d : Domain) (l : Live) (op : Op) (c : Call) (x : Answer) (p : Phase)
    → copied (copied_bytes (value_of x)) (live_phase_asks d l op c [] p) ≡ live_phase_asks d l op c (x ∷ []) p
asks_copied d l op c x phase.Nothing = refl
asks_copied d l op c x phase.Make =
    both_copied (copied_bytes (value_of x)) (flat_map lease_of l.def.interfaces) (ask.Make l.def l.boot ∷ []) (flat_map lease_of l.def.interfaces) (ask.Make l.def l.boot ∷ []) (leases_same (copied_bytes (value_of x)) l.def.interfaces) refl
asks_copied d l op c x phase.Run = refl
asks_copied d l op c x phase.Load = load_same (copied_bytes (value_of x)) l op (loaded_of d c)
asks_copied d l op c x phase.Copy =
    both_copied (copied_bytes (value_of x)) (tell_if (is_running l.run) command.Stop) (tell command.CopyBegin) (tell_if (is_running l.run) command.Stop) (tell command.CopyBegin) (if_same (copied_bytes (value_of x)) (is_running l.run) command.Stop) refl
asks_copied d l op c x phase.Poll = if_same (copied_bytes (value_of x)) (not (is_given_up op)) command.CopyPoll
asks_copied d l op c x phase.Take = take_copied l op c x
asks_copied d l op c x phase.Quit = refl
asks_copied d l op c x phase.Cancel = ap (λ (asks : List Ask). ask.Command command.CopyCancel ∷ asks) (if_same (copied_bytes (value_of x)) (resumes l op) command.Cont)
asks_copied d l op c x phase.MigrateLoad = migrate_same (copied_bytes (value_of x)) (loaded_of d c)
asks_copied d l op c x phase.MigrateBack = if_same (copied_bytes (value_of x)) op.was_running command.Cont
asks_copied d l op c x phase.MigrateRun = if_same (copied_bytes (value_of x)) op.was_running command.Cont
asks_copied d l op c x other = refl

undone_copied : (bytes : List ℕ) (undo asks more : List Ask) → copied bytes asks ≡ more → with_copy bytes (undone_by undo asks) ≡ undone_by undo more
undone_copied bytes undo [] [] e = refl
undone_copied bytes undo [] (b ∷ more) e = cc
undone_copied bytes undo (a ∷ asks) [] e = cc
undone_copied bytes undo (a ∷ asks) (b ∷ more) e =
    let first : writing bytes a ≡ b = cc in
    let rest : copied bytes asks ≡ more = cc in
    ap (λ (y : Ask). (record { ask = y; undo = undo }) ∷ with_copy bytes (undone_by undo asks)) first
    ∙ ap (λ (plan : List PlannedAsk). (record { ask = b; undo = undo }) ∷ plan) (undone_copied bytes undo asks more rest)

pub move_same : (bytes : List ℕ) (l : Live) (b : Bool) → is_running l.run ≡ b → with_copy bytes (migrate_take_plan l) ≡ migrate_take_plan l
move_same bytes l true e = rw e refl
move_same bytes l false e = rw e refl

pub live_follows : (d : Domain) (l : Live) (op : Op) (c : Call) (x : Answer) (p : Phase)
    → live_phase_plan d l op c (x ∷ []) p ≡ with_copy (copied_bytes (value_of x)) (live_phase_plan d l op c [] p)
live_follows d l op c x phase.MigrateTake = sym (move_same (copied_bytes (value_of x)) l (is_running l.run) refl)
live_follows d l op c x p = sym (undone_copied (copied_bytes (value_of x)) (live_phase_undo l op p) (live_phase_asks d l op c [] p) (live_phase_asks d l op c (x ∷ []) p) (asks_copied d l op c x p))

plan_follows : (d : Domain) (live : Option Live) (op : Op) (c : Call) (x : Answer)
    → phase_plan d live op c (x ∷ []) ≡ with_copy (copied_bytes (value_of x)) (phase_plan d live op c [])
plan_follows d None op c x = refl
plan_follows d (Some l) op c x = live_follows d l op c x op.phase

on_follows : (d : Domain) (op : Option Op) (c : Call) (x : Answer) → plan_on d op c (x ∷ []) ≡ with_copy (copied_bytes (value_of x)) (plan_on d op c [])
on_follows d None c x = refl
on_follows d (Some op) c x = plan_follows d d.live op c x

in_follows : (s : State) (c : Call) (x : Answer) → plan_in s c (x ∷ []) ≡ with_copy (copied_bytes (value_of x)) (plan_in s c [])
in_follows (state.Vacant boots) c x = refl
in_follows (state.Held d) c x = on_follows d d.op c x

-- later answers change nothing: a plan looks at the first one alone

take_later : (l : Live) (op : Op) (c : Call) (a : Answer) (answers more : List Answer) → take_asks l op c (a ∷ answers) ≡ take_asks l op c (a ∷ more)
take_later l op (call.Save name) a answers more = refl
take_later l op (call.Dump name) a answers more = refl
take_later l op c a answers more = refl

asks_later : (d : Domain) (l : Live) (op : Op) (c : Call) (a : Answer) (answers more : List Answer) (p : Phase)
    → live_phase_asks d l op c (a ∷ answers) p ≡ live_phase_asks d l op c (a ∷ more) p
asks_later d l op c a answers more phase.Take = take_later l op c a answers more
asks_later d l op c a answers more p = refl

live_later : (d : Domain) (l : Live) (op : Op) (c : Call) (a : Answer) (answers more : List Answer) (p : Phase)
    → live_phase_plan d l op c (a ∷ answers) p ≡ live_phase_plan d l op c (a ∷ more) p
live_later d l op c a answers more phase.MigrateTake = refl
live_later d l op c a answers more p = ap (λ (asks : List Ask). undone_by (live_phase_undo l op p) asks) (asks_later d l op c a answers more p)

plan_later : (d : Domain) (live : Option Live) (op : Op) (c : Call) (a : Answer) (answers more : List Answer)
    → phase_plan d live op c (a ∷ answers) ≡ phase_plan d live op c (a ∷ more)
plan_later d None op c a answers more = refl
plan_later d (Some l) op c a answers more = live_later d l op c a answers more op.phase

on_later : (d : Domain) (op : Option Op) (c : Call) (a : Answer) (answers more : List Answer) → plan_on d op c (a ∷ answers) ≡ plan_on d op c (a ∷ more)
on_later d None c a answers more = refl
on_later d (Some op) c a answers more = plan_later d d.live op c a answers more

pub in_later : (s : State) (c : Call) (a : Answer) (answers more : List Answer) → plan_in s c (a ∷ answers) ≡ plan_in s c (a ∷ more)
in_later (state.Vacant boots) c a answers more = refl
in_later (state.Held d) c a answers more = on_later d d.op c a answers more

pub plans_follow : PlansFollowAnswers
plans_follow s c [] x = in_follows s c x
plans_follow s c (a ∷ answers) x = in_later s c a (answers ++ x ∷ []) answers
