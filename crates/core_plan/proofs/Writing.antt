-- Where a copy comes with the first answer only the second ask changes, and without one nothing does.
use Rattle.std.proofs.Common.{◌≡◌, ℕ, List, [], ◌∷◌, ◌++◌, Bool, true, false, Option, None, Some, refl, sym, ap, ◌∙◌}
use Rattle.domain_spec.specs.Types.{Answer, Ask, Call, Domain, ImageKind, Live, Op, Phase, State}
use Rattle.domain_spec.specs.Types.answer
use Rattle.domain_spec.specs.Types.call
use Rattle.domain_spec.specs.Types.command
use Rattle.domain_spec.specs.Types.image
use Rattle.domain_spec.specs.Types.phase
use Rattle.domain_spec.specs.Types.state
use Rattle.domain_spec.specs.declared.planned.PlannedAsk.{PlannedAsk}
use Rattle.domain_spec.specs.Asks.{first_value, undone_by, value_of}
use Rattle.domain_spec.specs.Call.{tell, tell_if}
use Rattle.domain_spec.specs.Phase.{plan_in, plan_on}
use Rattle.domain_spec.specs.PhaseAsks.{copied_bytes, live_phase_asks, live_phase_plan, live_phase_undo, migrate_take_plan, phase_plan, resumes, take_asks, write_image}
use Rattle.domain_spec.specs.Reading.{is_running}
use Rattle.core_plan.specs.Copying.{planned_writing, written}
use Rattle.core_plan.specs.PhaseCopying.{plan_after, with_copy}
use Rattle.core_plan.proofs.Following.{live_follows, move_same, plans_follow}

-- without bytes in the first answer a plan is as before it

take_fresh : (l : Live) (op : Op) (c : Call) → take_asks l op c (answer.NoMemory ∷ []) ≡ take_asks l op c []
take_fresh l op (call.Save name) = refl
take_fresh l op (call.Dump name) = refl
take_fresh l op c = refl

asks_fresh : (d : Domain) (l : Live) (op : Op) (c : Call) (p : Phase) → live_phase_asks d l op c (answer.NoMemory ∷ []) p ≡ live_phase_asks d l op c [] p
asks_fresh d l op c phase.Take = take_fresh l op c
asks_fresh d l op c other = refl

plan_fresh : (d : Domain) (l : Live) (op : Op) (c : Call) (p : Phase) → live_phase_plan d l op c (answer.NoMemory ∷ []) p ≡ live_phase_plan d l op c [] p
plan_fresh d l op c phase.MigrateTake = refl
plan_fresh d l op c p = ap (λ (asks : List Ask). undone_by (live_phase_undo l op p) asks) (asks_fresh d l op c p)

live_fresh : (d : Domain) (live : Option Live) (op : Op) (c : Call) → phase_plan d live op c (answer.NoMemory ∷ []) ≡ phase_plan d live op c []
live_fresh d None op c = refl
live_fresh d (Some l) op c = plan_fresh d l op c op.phase

on_fresh : (d : Domain) (op : Option Op) (c : Call) → plan_on d op c (answer.NoMemory ∷ []) ≡ plan_on d op c []
on_fresh d None c = refl
on_fresh d (Some op) c = live_fresh d d.live op c

fresh : (s : State) (c : Call) → plan_in s c (answer.NoMemory ∷ []) ≡ plan_in s c []
fresh (state.Vacant boots) c = refl
fresh (state.Held d) c = on_fresh d d.op c

pub same_fresh : (s : State) (c : Call) → with_copy [] (plan_in s c []) ≡ plan_in s c []
same_fresh s c = sym (plans_follow s c [] answer.NoMemory) ∙ fresh s c

pub kept_by : (s : State) (c : Call) (plan : List PlannedAsk) (answers : List Answer) → plan ≡ plan_in s c answers → plan_after answers answer.NoMemory plan ≡ plan
kept_by s c plan [] e = ap (λ (ps : List PlannedAsk). with_copy [] ps) e ∙ same_fresh s c ∙ sym e
kept_by s c plan (b ∷ answers) e = refl

-- what an image's bytes are changes at most the second ask

unwritten : (bytes : List ℕ) (plan : List PlannedAsk) → with_copy bytes plan ≡ plan → written bytes plan ≡ plan
unwritten bytes [] e = refl
unwritten bytes (p ∷ []) e = refl
unwritten bytes (p ∷ q ∷ plan) e = let same : planned_writing bytes q ≡ q = cc in ap (λ (y : PlannedAsk). p ∷ y ∷ plan) same

same_written : (bytes : List ℕ) (plan : List PlannedAsk) → with_copy bytes plan ≡ plan → with_copy bytes plan ≡ written bytes plan
same_written bytes plan e = e ∙ sym (unwritten bytes plan e)

dump_written : (bytes name : List ℕ) (l : Live) (op : Op) (b : Bool)
    → with_copy bytes (undone_by [] (tell command.CopyTake ++ write_image name image.Dump l op [] ++ tell_if b command.Cont))
    ≡ written bytes (undone_by [] (tell command.CopyTake ++ write_image name image.Dump l op [] ++ tell_if b command.Cont))
dump_written bytes name l op true = refl
dump_written bytes name l op false = refl

bare_written : (bytes : List ℕ) (b : Bool)
    → with_copy bytes (undone_by [] (tell command.CopyTake ++ tell_if b command.Cont)) ≡ written bytes (undone_by [] (tell command.CopyTake ++ tell_if b command.Cont))
bare_written bytes true = refl
bare_written bytes false = refl

take_written : (bytes : List ℕ) (l : Live) (op : Op) (c : Call) → with_copy bytes (undone_by [] (take_asks l op c [])) ≡ written bytes (undone_by [] (take_asks l op c []))
take_written bytes l op (call.Save name) = refl
take_written bytes l op (call.Dump name) = dump_written bytes name l op (resumes l op)
take_written bytes l op c = bare_written bytes (resumes l op)

live_written : (d : Domain) (l : Live) (op : Op) (c : Call) (x : Answer) (p : Phase)
    → with_copy (copied_bytes (value_of x)) (live_phase_plan d l op c [] p) ≡ written (copied_bytes (value_of x)) (live_phase_plan d l op c [] p)
live_written d l op c x phase.MigrateTake =
    same_written (copied_bytes (value_of x)) (migrate_take_plan l) (move_same (copied_bytes (value_of x)) l (is_running l.run) refl)
live_written d l op c x phase.Take = take_written (copied_bytes (value_of x)) l op c
live_written d l op c x p = same_written (copied_bytes (value_of x)) (live_phase_plan d l op c [] p) (sym (live_follows d l op c x p))

guest_written : (d : Domain) (live : Option Live) (op : Op) (c : Call) (x : Answer)
    → with_copy (copied_bytes (value_of x)) (phase_plan d live op c []) ≡ written (copied_bytes (value_of x)) (phase_plan d live op c [])
guest_written d None op c x = refl
guest_written d (Some l) op c x = live_written d l op c x op.phase

on_written : (d : Domain) (op : Option Op) (c : Call) (x : Answer) → with_copy (copied_bytes (value_of x)) (plan_on d op c []) ≡ written (copied_bytes (value_of x)) (plan_on d op c [])
on_written d None c x = refl
on_written d (Some op) c x = guest_written d d.live op c x

pub in_written : (s : State) (c : Call) (x : Answer) → with_copy (copied_bytes (value_of x)) (plan_in s c []) ≡ written (copied_bytes (value_of x)) (plan_in s c [])
in_written (state.Vacant boots) c x = refl
in_written (state.Held d) c x = on_written d d.op c x
