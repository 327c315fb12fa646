-- A call on a guest's devices by its fault: what it asks, and what it leaves.
use Rattle.std.proofs.Common.{◌≡◌, ℕ, Bool, true, false, not, Option, None, Some, List, [], is_none, refl, sym, ap, ◌∙◌, subst, ◌&&◌, if◌then◌else◌}
use Rattle.domain_spec.specs.Types.{Answer, Call, DeviceDef, Domain, Live, Refusal, State}
use Rattle.domain_spec.specs.Types.call
use Rattle.domain_spec.specs.Types.reply
use Rattle.domain_spec.specs.Types.state
use Rattle.domain_spec.specs.Types.value
use Rattle.domain_spec.specs.declared.step.CallStep.{CallStep}
use Rattle.domain_spec.specs.Asks.{asks_left, first_bad}
use Rattle.domain_spec.specs.Call.{is_on_stored, plan_of}
use Rattle.domain_spec.specs.CallResult.{done, guest_step, refused, step_of}
use Rattle.domain_spec.specs.Reading.{carries_ended}
use Rattle.domain_spec.specs.Refusals.{failure_of, guest_ended}
use Rattle.domain_spec.specs.Sequential.{answered_step, ended_step, makes_asks, seq, still_asked, tested_step}
use Rattle.domain_spec.specs.Tests.{refusal_of}
use Rattle.core_rules.specs.declared.ends.CallEnd.{CallEnd}
use Rattle.core_rules.specs.declared.next.Next.TheVariants as next
use Rattle.core_rules.specs.Led.{Says}
use Rattle.core_rules.specs.Next.{next_of}
use Rattle.hotplug_core.specs.Faults.{boot_ended, refused_before}
use Rattle.hotplug_core.specs.Left.{Leaves, attached_in, attached_to, detached_from, detached_in}

pub ended_before : (s : State) (c : Call) (boot : Option ℕ) → carries_ended s boot ≡ true → refused_before s c boot ≡ boot_ended boot
unfolding refused_before
ended_before s c boot ended = ap (λ b. if b then boot_ended boot else refusal_of s boot c) ended

-- a call on a guest, which a boot that has ended refuses
pub record OnGuest (s : State) (c : Call) : Type 0 where
  pub live : is_on_stored c ≡ false
  pub told : (boot : ℕ) → ended_step s c (Some boot) ≡ refused s (guest_ended boot)

pub attach_on_guest : (s : State) (d : DeviceDef) → OnGuest s (call.Attach d)
attach_on_guest s d = record { live = refl; told = λ boot. refl }

pub detach_on_guest : (s : State) (d : DeviceDef) → OnGuest s (call.Detach d)
detach_on_guest s d = record { live = refl; told = λ boot. refl }

asks_by : (boot : ℕ) (ended : Bool) (test : Option Refusal) → (not (not false && ended) && is_none test) ≡ is_none (if ended then boot_ended (Some boot) else test)
asks_by boot true test = refl
asks_by boot false test = refl

makes_by : (s : State) (c : Call) (boot : Option ℕ) → is_on_stored c ≡ false → makes_asks s c boot ≡ is_none (refused_before s c boot)
unfolding refused_before
makes_by s c None live = ap (λ o. not (not o && false) && is_none (refusal_of s None c)) live
makes_by s c (Some boot) live =
    ap (λ o. not (not o && carries_ended s (Some boot)) && is_none (refusal_of s (Some boot) c)) live
    ∙ asks_by boot (carries_ended s (Some boot)) (refusal_of s (Some boot) c)

-- a call that is refused asks nothing
pub nothing_asked : (s : State) (c : Call) (boot : Option ℕ) (answers : List Answer) (r : Refusal) → OnGuest s c → Some r ≡ refused_before s c boot → next.Finish ≡ next_of (still_asked s c boot answers)
nothing_asked s c boot answers r on is =
    sym (ap (λ b. next_of (if b then asks_left (plan_of s c) answers else [])) (makes_by s c boot on.live ∙ ap is_none (sym is)))

-- a call that is not refused asks its plan
pub plan_asked : (s : State) (c : Call) (boot : Option ℕ) (answers : List Answer) → OnGuest s c → None ≡ refused_before s c boot → next_of (asks_left (plan_of s c) answers) ≡ next_of (still_asked s c boot answers)
plan_asked s c boot answers on is =
    sym (ap (λ b. next_of (if b then asks_left (plan_of s c) answers else [])) (makes_by s c boot on.live ∙ ap is_none (sym is)))

step_by : (s : State) (c : Call) (answers : List Answer) (boot : ℕ) (ended : Bool) (test : Option Refusal) → ended_step s c (Some boot) ≡ refused s (guest_ended boot) → (if not false && ended then ended_step s c (Some boot) else tested_step s c answers test) ≡ tested_step s c answers (if ended then boot_ended (Some boot) else test)
step_by s c answers boot true test told = told
step_by s c answers boot false test told = refl

-- a call by its fault
seq_by : (s : State) (c : Call) (boot : Option ℕ) (answers : List Answer) → OnGuest s c → seq s c boot answers ≡ tested_step s c answers (refused_before s c boot)
unfolding refused_before
seq_by s c None answers on = ap (λ o. if not o && false then ended_step s c None else tested_step s c answers (refusal_of s None c)) on.live
seq_by s c (Some boot) answers on =
    ap (λ o. if not o && carries_ended s (Some boot) then ended_step s c (Some boot) else tested_step s c answers (refusal_of s (Some boot) c)) on.live
    ∙ step_by s c answers boot (carries_ended s (Some boot)) (refusal_of s (Some boot) c) (on.told boot)

refused_leaves : (step : CallStep) (s : State) (r : Refusal) (end : CallEnd) → step ≡ refused s r → Says end (reply.No r) → Leaves step s end
refused_leaves step s r end is says = subst (λ (it : CallStep). Leaves it s end) (sym is) (record { state = refl; said = says; quiet = refl })

-- it was refused before its first ask
pub refused_first : (s : State) (c : Call) (boot : Option ℕ) (answers : List Answer) (r : Refusal) (end : CallEnd) → OnGuest s c → Some r ≡ refused_before s c boot → Says end (reply.No r) → Leaves (seq s c boot answers) s end
refused_first s c boot answers r end on is says =
    refused_leaves (seq s c boot answers) s r end (seq_by s c boot answers on ∙ ap (tested_step s c answers) (sym is)) says

answered : (s : State) (c : Call) (boot : Option ℕ) (answers : List Answer) (bad : Option Answer) → OnGuest s c → None ≡ refused_before s c boot → bad ≡ first_bad answers → seq s c boot answers ≡ answered_step s c answers bad
answered s c boot answers bad on is first =
    seq_by s c boot answers on ∙ ap (tested_step s c answers) (sym is) ∙ ap (answered_step s c answers) (sym first)

-- one of its asks was not done
pub refused_after : (s : State) (c : Call) (boot : Option ℕ) (answers : List Answer) (bad : Answer) (r : Refusal) (end : CallEnd) → OnGuest s c → None ≡ refused_before s c boot → Some bad ≡ first_bad answers → r ≡ failure_of bad → Says end (reply.No r) → Leaves (seq s c boot answers) s end
refused_after s c boot answers bad r end on is first why says =
    refused_leaves (seq s c boot answers) s r end (answered s c boot answers (Some bad) on is first ∙ ap (refused s) (sym why)) says

-- each of its asks was done
pub done_after : (s new : State) (c : Call) (boot : Option ℕ) (answers : List Answer) (end : CallEnd) → OnGuest s c → None ≡ refused_before s c boot → None ≡ first_bad answers → step_of s c answers ≡ done new [] → Says end (reply.Ok value.Nothing) → Leaves (seq s c boot answers) new end
done_after s new c boot answers end on is first made says =
    subst (λ (it : CallStep). Leaves it new end) (sym (answered s c boot answers None on is first ∙ made)) (record { state = refl; said = says; quiet = refl })

attach_by : (d : Domain) (live : Option Live) (new : DeviceDef) (answers : List Answer) → guest_step d live (call.Attach new) answers ≡ done (attached_to d live new) []
attach_by d None new answers = refl
attach_by d (Some l) new answers = refl

pub attach_step : (s : State) (new : DeviceDef) (answers : List Answer) → step_of s (call.Attach new) answers ≡ done (attached_in s new) []
attach_step (state.Vacant boots) new answers = refl
attach_step (state.Held d) new answers = attach_by d d.live new answers

detach_by : (d : Domain) (live : Option Live) (old : DeviceDef) (answers : List Answer) → guest_step d live (call.Detach old) answers ≡ done (detached_from d live old) []
detach_by d None old answers = refl
detach_by d (Some l) old answers = refl

pub detach_step : (s : State) (old : DeviceDef) (answers : List Answer) → step_of s (call.Detach old) answers ≡ done (detached_in s old) []
detach_step (state.Vacant boots) old answers = refl
detach_step (state.Held d) old answers = detach_by d d.live old answers
