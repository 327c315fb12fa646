-- Why no other mark changes what a call asks whose boot is live.
use Rattle.std.proofs.Common.{◌≡◌, ℕ, List, [], Bool, true, false, if◌then◌else◌, Option, None, Some, refl, sym, ap, ◌∙◌, ◌+◌, take, length}
use Rattle.std.proofs.Math.Seq.{take-nil}
use Rattle.domain_spec.specs.Types.{Answer, Call, Domain, EndReason, Job, Live, OpKind, Reply, State, Who}
use Rattle.domain_spec.specs.Types.call
use Rattle.domain_spec.specs.Types.job
use Rattle.domain_spec.specs.Types.state
use Rattle.domain_spec.specs.declared.mark.HeldOperation.{HeldOperation}
use Rattle.domain_spec.specs.declared.mark.Mark.TheVariants as mark
use Rattle.domain_spec.specs.declared.open.OpenJob.{OpenJob}
use Rattle.domain_spec.specs.declared.open.OpenOperation.{OpenOperation}
use Rattle.domain_spec.specs.declared.planned.PlannedAsk.{PlannedAsk}
use Rattle.domain_spec.specs.declared.standing.Standing.{Standing}
use Rattle.domain_spec.specs.Asks.{asks_made, course_at, first_bad_at}
use Rattle.domain_spec.specs.Call.{guest_plan, held_plan, takes_up}
use Rattle.domain_spec.specs.Exit.{exit_state}
use Rattle.domain_spec.specs.HistoryLaws.{AskedStays, PhaseAskedStays}
use Rattle.domain_spec.specs.Lawful.{IsEnded, NoneNested}
use Rattle.domain_spec.specs.Open.{MayAdmit, job_held}
use Rattle.domain_spec.specs.Phase.{without_operation}
use Rattle.domain_spec.specs.Reading.{is_live, live_boot, live_of}
use Rattle.domain_spec.specs.Sequential.{asked, makes_asks}
use Rattle.domain_spec.proofs.ClosedProofs.{Holds, none_may}
use Rattle.domain_spec.proofs.EndsOnce.{live_is}
use Rattle.domain_spec.proofs.ExitProofs.{live_boot-exit}

no_course : (answers : List Answer) (place : Option ℕ) → course_at [] answers place ≡ []
no_course answers None = refl
no_course answers (Some k) = rw (take-nil (k + 1)) refl

-- a call that asks nothing
nothing_asked : (answers : List Answer) → asks_made [] answers ≡ []
nothing_asked answers = ap (take (length answers)) (no_course answers (first_bad_at answers)) ∙ take-nil (length answers)

no_plan : (live : Option Live) → guest_plan live call.Abort ≡ []
no_plan None = refl
no_plan (Some l) = refl

none_if : (b : Bool) (plan : List PlannedAsk) (answers : List Answer) → plan ≡ [] → (if b then asks_made plan answers else []) ≡ []
none_if true plan answers e = rw e (nothing_asked answers)
none_if false plan answers e = refl

no_limit_plan : (live : Option Live) (rest : ℕ) → guest_plan live (call.Limit rest) ≡ []
no_limit_plan None rest = refl
no_limit_plan (Some l) rest = refl

no_confirm_plan : (live : Option Live) (verdict : Bool) → guest_plan live (call.Confirm verdict) ≡ []
no_confirm_plan None verdict = refl
no_confirm_plan (Some l) verdict = refl

no_finish_plan : (live : Option Live) (go : Bool) → guest_plan live (call.Finish go) ≡ []
no_finish_plan None go = refl
no_finish_plan (Some l) go = refl

-- a call without a plan asks nothing
plain_asks : (d : Domain) (c : Call) (boot : Option ℕ) (answers : List Answer) → held_plan d c ≡ [] → asked (state.Held d) c boot answers ≡ []
plain_asks d c boot answers none = none_if (makes_asks (state.Held d) c boot) (held_plan d c) answers none

-- the end of an operation changes no ask
without_asks : (d : Domain) (c : Call) (boot : Option ℕ) (answers : List Answer) → asked (state.Held (record d { op = None })) c boot answers ≡ asked (state.Held d) c boot answers
without_asks d call.Abort boot answers = plain_asks (record d { op = None }) call.Abort boot answers (no_plan d.live) ∙ sym (plain_asks d call.Abort boot answers (no_plan d.live))
without_asks d (call.Limit rest) boot answers = plain_asks (record d { op = None }) (call.Limit rest) boot answers (no_limit_plan d.live rest) ∙ sym (plain_asks d (call.Limit rest) boot answers (no_limit_plan d.live rest))
without_asks d (call.Confirm verdict) boot answers = plain_asks (record d { op = None }) (call.Confirm verdict) boot answers (no_confirm_plan d.live verdict) ∙ sym (plain_asks d (call.Confirm verdict) boot answers (no_confirm_plan d.live verdict))
without_asks d (call.Finish go) boot answers = plain_asks (record d { op = None }) (call.Finish go) boot answers (no_finish_plan d.live go) ∙ sym (plain_asks d (call.Finish go) boot answers (no_finish_plan d.live go))
without_asks d other boot answers = refl

end_asks : (s : State) (c : Call) (boot : Option ℕ) (answers : List Answer) → asked (without_operation s) c boot answers ≡ asked s c boot answers
end_asks (state.Vacant boots) c boot answers = refl
end_asks (state.Held d) c boot answers = without_asks d c boot answers

held_number : (j : OpenJob) (held : Option OpenJob) → held ≡ Some j → Holds j.number held
held_number j None e = cc
held_number j (Some k) e = cc

held_may : (j : OpenJob) (held : Option OpenJob) (op : Option HeldOperation) (taking : Option OpKind) (wanted : Job) (who : Who) → held ≡ Some j → MayAdmit (job_held held) op taking wanted who → ⊥
held_may j held op taking wanted who e may = none_may j.number held op taking wanted who (held_number j held e) may

-- where a boot has ended the live one is not as it was
not_exit : (s : State) (boot : ℕ) (why : EndReason) (carried : Option ℕ) → is_live s boot ≡ true → live_boot s ≡ carried → live_boot (exit_state s why) ≡ carried → ⊥
not_exit s boot why carried live before now =
    let was = live_is (live_of s) boot live in
    let none = live_boot-exit s why in
    cc

pub asked_stays : AskedStays
asked_stays s j (mark.Admit n who wanted c boot) answers e h own stays = absurd (held_may j s.job _ (takes_up c) wanted who e h.in_order.may)
asked_stays s j (mark.End n who r) answers e h own stays = end_asks s.state j.call j.boot answers
asked_stays s j (mark.Exit boot why events) answers e h own stays = absurd (not_exit s.state boot why j.boot h.in_order.0 stays.before stays.now)
asked_stays s j (mark.Event boot g events) answers e h own stays = let none = h.in_order.1 in cc
asked_stays s j (mark.Done n who c boot asks given r events) answers e h own stays = cc
asked_stays s j (mark.Start n who c boot) answers e h own stays = cc
asked_stays s j (mark.TakeUp n who c) answers e h own stays = cc
asked_stays s j (mark.Phase n who p asks given next events) answers e h own stays = cc
asked_stays s j other answers e h own stays = refl

no_nested : (s : Standing) (o : Option OpenOperation) (n : ℕ) (who : Who) (r : Reply) → IsEnded s o n who r → NoneNested s.job
no_nested s None n who r h = absurd h
no_nested s (Some o) n who r h = h.no_nested

nested_stays : (j : OpenJob) (held : Option OpenJob) → held ≡ Some j → j.job ≡ job.Nested → NoneNested held → ⊥
nested_stays j None e nested none = cc
nested_stays j (Some k) e nested none = none cc

pub phase_asked_stays : PhaseAskedStays
phase_asked_stays s j o (mark.Admit n who wanted c boot) answers e nested is h own stays = absurd (held_may j s.job _ (takes_up c) wanted who e h.in_order.may)
phase_asked_stays s j o (mark.End n who r) answers e nested is h own stays = absurd (nested_stays j s.job e nested (no_nested s s.operation n who r h.in_order))
phase_asked_stays s j o (mark.Exit boot why events) answers e nested is h own stays = absurd (not_exit s.state boot why j.boot h.in_order.0 stays.before stays.now)
phase_asked_stays s j o (mark.Event boot g events) answers e nested is h own stays = let none = h.in_order.1 in cc
phase_asked_stays s j o (mark.Done n who c boot asks given r events) answers e nested is h own stays = cc
phase_asked_stays s j o (mark.Start n who c boot) answers e nested is h own stays = cc
phase_asked_stays s j o (mark.TakeUp n who c) answers e nested is h own stays = cc
phase_asked_stays s j o (mark.Phase n who p asks given next events) answers e nested is h own stays = cc
phase_asked_stays s j o other answers e nested is h own stays = refl
