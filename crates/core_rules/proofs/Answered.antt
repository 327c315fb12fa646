-- What a phase leaves, by its boot and its first answer that is not Ok.
use Rattle.std.proofs.Common.{◌≡◌, ◌∙◌, [], List, Bool, true, false, Option, None, Some, if◌then◌else◌, refl, sym, ap}
use Rattle.domain_spec.specs.Types.{Answer, Call, Domain, Op, State}
use Rattle.domain_spec.specs.Types.reply
use Rattle.domain_spec.specs.Types.state
use Rattle.domain_spec.specs.declared.open.OpenOperation.{OpenOperation}
use Rattle.domain_spec.specs.Asks.{asks_left, first_bad, is_undone}
use Rattle.domain_spec.specs.CopyResult.{over}
use Rattle.domain_spec.specs.Phase.{answered_phase, ended_reply, phase_in, phase_of, phase_on, phase_refused, phase_still_asked, plan_in}
use Rattle.domain_spec.specs.Reading.{carries_ended}
use Rattle.domain_spec.specs.Refusals.{failure_of, monitor_lost}
use Rattle.core_rules.specs.Ends.{done_in, done_on, failed_in, has_operation, refused_in, refused_on}

-- the boot has ended
pub phase_not_live : (s : State) (o : OpenOperation) (answers : List Answer) → carries_ended s o.boot ≡ true → phase_of s o answers ≡ over s [] (ended_reply o o.boot answers)
phase_not_live s o answers e = ap (λ ended. if ended then over s [] (ended_reply o o.boot answers) else phase_in s o.call answers) e

live : (s : State) (o : OpenOperation) (answers : List Answer) → carries_ended s o.boot ≡ false → phase_of s o answers ≡ phase_in s o.call answers
live s o answers e = ap (λ ended. if ended then over s [] (ended_reply o o.boot answers) else phase_in s o.call answers) e

ok_on : (d : Domain) (op : Option Op) (c : Call) (answers : List Answer) → first_bad answers ≡ None → phase_on d op c answers ≡ done_on d op c answers
ok_on d None c answers e = refl
ok_on d (Some op) c answers e = ap (answered_phase d op c answers) e

ok_in : (s : State) (c : Call) (answers : List Answer) → first_bad answers ≡ None → phase_in s c answers ≡ done_in s c answers
ok_in (state.Vacant boots) c answers e = refl
ok_in (state.Held d) c answers e = ok_on d d.op c answers e

-- the boot is live, and each answer is Ok
pub phase_goes_through :
    (s : State) (o : OpenOperation) (answers : List Answer) → carries_ended s o.boot ≡ false → first_bad answers ≡ None
    → phase_of s o answers ≡ done_in s o.call answers
phase_goes_through s o answers e ok = live s o answers e ∙ ok_in s o.call answers ok

badly_by :
    (d : Domain) (op : Op) (bad : Answer) (undone : Bool) → d.op ≡ Some op
    → (if undone then phase_refused d d.live op (failure_of bad) else over (state.Held d) [] (reply.No monitor_lost))
    ≡ (if undone then refused_in (state.Held d) (failure_of bad) else over (state.Held d) [] (reply.No monitor_lost))
unfolding refused_in
badly_by d op bad true e = sym (ap (λ o. refused_on d o (failure_of bad)) e)
badly_by d op bad false e = refl

badly_on :
    (d : Domain) (o : Option Op) (c : Call) (answers : List Answer) (bad : Answer) → d.op ≡ o → has_operation (state.Held d) ≡ true
    → first_bad answers ≡ Some bad → phase_on d o c answers ≡ failed_in (state.Held d) bad
unfolding failed_in
badly_on d None c answers bad o has e = cc
badly_on d (Some op) c answers bad o has e = ap (answered_phase d op c answers) e ∙ badly_by d op bad (is_undone bad) o

badly_in :
    (s : State) (c : Call) (answers : List Answer) (bad : Answer) → has_operation s ≡ true → first_bad answers ≡ Some bad
    → phase_in s c answers ≡ failed_in s bad
badly_in (state.Vacant boots) c answers bad has e = cc
badly_in (state.Held d) c answers bad has e = badly_on d d.op c answers bad refl has e

-- the boot is live, and an answer is not Ok
pub phase_fails :
    (s : State) (o : OpenOperation) (answers : List Answer) (bad : Answer) → carries_ended s o.boot ≡ false → has_operation s ≡ true
    → first_bad answers ≡ Some bad → phase_of s o answers ≡ failed_in s bad
phase_fails s o answers bad e has first = live s o answers e ∙ badly_in s o.call answers bad has first

-- the boot is live: what is left is that of the plan
pub phase_plan_left :
    (s : State) (o : OpenOperation) (answers : List Answer) → carries_ended s o.boot ≡ false
    → phase_still_asked s o answers ≡ asks_left (plan_in s o.call answers) answers
phase_plan_left s o answers e = ap (λ ended. if ended then [] else asks_left (plan_in s o.call answers) answers) e
