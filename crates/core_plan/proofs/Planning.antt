-- What a call plans, and what it asks by that.
use Rattle.std.proofs.Common.{◌≡◌, ℕ, List, [], ◌∷◌, Bool, true, false, Option, None, Some, if◌then◌else◌, ◌+◌, drop, take, length, refl, ap, ◌∙◌}
use Rattle.std.proofs.Math.Seq.{drop-nil, take-nil}
use Rattle.domain_spec.specs.Types.{Answer, Ask, Call, Command, Domain, DomainDef, Live, State}
use Rattle.domain_spec.specs.Types.call
use Rattle.domain_spec.specs.Types.state
use Rattle.domain_spec.specs.declared.planned.PlannedAsk.{PlannedAsk}
use Rattle.domain_spec.specs.Asks.{asks_left, asks_made, course_at, first_bad_at, plain}
use Rattle.domain_spec.specs.Call.{command_of, guest_plan, held_plan, live_plan, plan_of, put_plan, tell_if}
use Rattle.domain_spec.specs.Reading.{is_paused, is_running}
use Rattle.domain_spec.specs.Sequential.{asked, makes_asks, still_asked}
use Rattle.core_rules.specs.Cores.{core_of_call}
use Rattle.core_rules.specs.declared.cores.Core.TheVariants as core
use Rattle.core_rules.specs.Next.{at_most, next_if, next_of}
use Rattle.core_mark_laws.specs.Tidy.{planned}
use Rattle.core_plan.specs.AwayLaws.{OneIsPlanned}

no_course : (answers : List Answer) (o : Option ℕ) → course_at [] answers o ≡ []
no_course answers None = refl
no_course answers (Some k) = rw (take-nil (k + 1)) refl

nothing_left : (answers : List Answer) → asks_left [] answers ≡ []
nothing_left answers = ap (λ (asks : List Ask). drop (length answers) asks) (no_course answers (first_bad_at answers)) ∙ drop-nil (length answers)

nothing_made : (answers : List Answer) → asks_made [] answers ≡ []
nothing_made answers = ap (λ (asks : List Ask). take (length answers) asks) (no_course answers (first_bad_at answers)) ∙ take-nil (length answers)

left_if : (b : Bool) (plan : List PlannedAsk) (answers : List Answer) → asks_left (if b then plan else []) answers ≡ (if b then asks_left plan answers else [])
left_if true plan answers = refl
left_if false plan answers = nothing_left answers

made_if : (b : Bool) (plan : List PlannedAsk) (answers : List Answer) → asks_made (if b then plan else []) answers ≡ (if b then asks_made plan answers else [])
made_if true plan answers = refl
made_if false plan answers = nothing_made answers

-- what is left to a call is what is left of its plan
pub still_planned : (s : State) (c : Call) (boot : Option ℕ) (answers : List Answer) → asks_left (planned s c boot) answers ≡ still_asked s c boot answers
still_planned s c boot answers = left_if (makes_asks s c boot) (plan_of s c) answers

-- what a call asked is what was made of its plan
pub asked_planned : (s : State) (c : Call) (boot : Option ℕ) (answers : List Answer) → asks_made (planned s c boot) answers ≡ asked s c boot answers
asked_planned s c boot answers = made_if (makes_asks s c boot) (plan_of s c) answers

-- a plan of one ask or none, which nothing undoes
abbrev IsOne : List PlannedAsk → Type 0
IsOne [] = Unit {0}
IsOne (p ∷ []) = p.undo ≡ []
IsOne (p ∷ q ∷ plan) = ⊥

tell_one : (b : Bool) (c : Command) → IsOne (plain (tell_if b c))
tell_one true c = refl
tell_one false c = tt

command_one : (l : Live) (c : Call) → IsOne (plain (command_of l c))
command_one l call.Suspend = tell_one (is_running l.run) _
command_one l call.Resume = tell_one (is_paused l.run) _
command_one l call.Shutdown = refl
command_one l call.Reboot = refl
command_one l call.Destroy = refl
command_one l (call.SetMemory kib) = refl
command_one l (call.SetVcpus n) = refl
command_one l call.MemoryStats = refl
command_one l (call.Kick n) = refl
command_one l other = tt

live_one : (l : Live) (c : Call) → (core_of_call c ≡ core.Hotplug → ⊥) → IsOne (live_plan l c)
live_one l (call.Attach d) other = absurd (other refl)
live_one l (call.Detach d) other = absurd (other refl)
live_one l c other = command_one l c

guest_one : (live : Option Live) (c : Call) → (core_of_call c ≡ core.Hotplug → ⊥) → IsOne (guest_plan live c)
guest_one None c other = tt
guest_one (Some l) c other = live_one l c other

put_one : (stored : Option DomainDef) (autostart : Bool) → IsOne (put_plan stored autostart)
put_one None autostart = tt
put_one (Some def) autostart = refl

held_one : (d : Domain) (c : Call) → (core_of_call c ≡ core.Hotplug → ⊥) → IsOne (held_plan d c)
held_one d (call.Define def) other = refl
held_one d call.Undefine other = refl
held_one d (call.SetAutostart on) other = put_one d.stored on
held_one d c other = guest_one d.live c other

plan_one : (s : State) (c : Call) → (core_of_call c ≡ core.Hotplug → ⊥) → IsOne (plan_of s c)
plan_one (state.Held d) c other = held_one d c other
plan_one (state.Vacant boots) (call.Define def) other = refl
plan_one (state.Vacant boots) c other = tt

one_if : (b : Bool) (plan : List PlannedAsk) → IsOne plan → IsOne (if b then plan else [])
one_if true plan one = one
one_if false plan one = tt

one_of : (plan : List PlannedAsk) (x : Option Ask) → IsOne plan → next_of (asks_left plan []) ≡ next_if x → plan ≡ plain (at_most x)
one_of [] None one e = refl
one_of [] (Some a) one e = cc
one_of (p ∷ []) None one e = cc
one_of (p ∷ []) (Some a) one e =
    let same : p.ask ≡ a = cc in
    ap (λ (b : Ask). (record { ask = b; undo = p.undo }) ∷ []) same ∙ ap (λ (u : List Ask). (record { ask = a; undo = u }) ∷ []) one
one_of (p ∷ q ∷ plan) x one e = absurd one

-- what a call plans that is none of a device is the one ask that is first, if there is one
pub one_planned : OneIsPlanned
one_planned s c boot x other e =
    one_of (planned s c boot) x (one_if (makes_asks s c boot) (plan_of s c) (plan_one s c other)) (ap next_of (still_planned s c boot []) ∙ e)
