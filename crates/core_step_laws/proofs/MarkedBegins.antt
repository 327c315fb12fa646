-- What a call leaves of its own that looks whether its operation may begin, or be taken up.
use Rattle.std.proofs.Common.{◌≡◌, ℕ, List, [], ◌∷◌, Option, Some, refl, ap, ◌∙◌, subst}
use Rattle.history_spec.specs.Pass.{own}
use Rattle.domain_spec.specs.Types.{Call, Reply, Who}
use Rattle.domain_spec.specs.Types.code
use Rattle.domain_spec.specs.declared.core_step.CoreStep.{CoreStep}
use Rattle.domain_spec.specs.declared.core_step.CoreStep.TheVariants as step
use Rattle.domain_spec.specs.declared.mark.Mark.{Mark}
use Rattle.domain_spec.specs.declared.mark.Mark.TheVariants as mark
use Rattle.domain_spec.specs.Call.{job_of}
use Rattle.domain_spec.specs.declared.open.OpenOperation.{OpenOperation}
use Rattle.domain_spec.specs.declared.standing.Standing.{Standing}
use Rattle.domain_spec.specs.declared.step.Outcome.TheVariants as outcome
use Rattle.domain_spec.specs.Begin.{begin_state, due_phase, named_call}
use Rattle.domain_spec.specs.Cell.{Cell, operation_of, standing_of}
use Rattle.domain_spec.specs.Fold.{after, after_take_up, standing, taken_up}
use Rattle.domain_spec.specs.Reading.{live_boot}
use Rattle.domain_spec.specs.Turns.{IsTurn, Leads, MayLeave}
use Rattle.core_steps.specs.Turning.{HasDone}
use Rattle.core_steps.specs.declared.beginning.OperationLook.TheVariants as look
use Rattle.core_step_laws.specs.Shares.{whose}
use Rattle.core_step_laws.proofs.Jobs.{on_base}
use Rattle.core_step_laws.specs.MarkedLooked.{IsDoneAtOnce}
use Rattle.core_step_laws.specs.MarkedOperations.{BeginningsLeave, HasStarted, HasTakenUp, TakingsUpLeave, live_in}
use Rattle.core_step_laws.proofs.Entering.{IsEnteredDone, done_at_once, entered_done}
use Rattle.core_step_laws.proofs.MarkedLooks.{admit_is}
use Rattle.core_step_laws.proofs.Owning.{own_are_all, refusals_are_own}
use Rattle.core_step_laws.proofs.MarkedPhases.{its_share}
use Rattle.core_step_laws.proofs.Walking.{taken_some}

-- the operation that begins
abbrev begun_in : Standing → ℕ → Who → Call → OpenOperation
begun_in s n who d =
    let next = begin_state s.state who d in record { number = n; who = who; call = named_call s.state d; boot = live_boot next; outcome = outcome.On (due_phase next) }

begun_done : (c : Cell) (n : ℕ) (who : Who) (d : Call) (r : Reply) (left : List (Mark ℕ)) → IsTurn c (step.BeginOp n who d) left → HasDone n r left → IsDoneAtOnce n who d (live_in c) r left
begun_done c n who d r left turn done =
    let t : CoreStep ℕ = step.BeginOp n who d in
    let h : IsEnteredDone c t n refl r left = entered_done c t n refl r left tt turn.can.0.no_call turn.left done in
    done_at_once c t n refl who d (live_in c) r left h tt
    (admit_is n who d (live_in c) h.number h.who h.wanted h.call h.boot h.lets.0 h.lets.1) h.lets.0.caller h.lets.0.same_call h.lets.1

abbrev begun_marks : ℕ → Who → Call → Option ℕ → List (Mark ℕ)
begun_marks n who d boot = mark.Admit n who (job_of d) d boot ∷ mark.Start n who d boot ∷ []

started : (c d : Cell) (n : ℕ) (who : Who) (e : Call) (boot : Option ℕ) (left : List (Mark ℕ)) → left ≡ begun_marks n who e boot → standing_of d ≡ standing (standing_of c) left → HasStarted n who e c d
started c d n who e boot left only is =
    let at : standing_of d ≡ standing (standing_of c) (begun_marks n who e boot) = is ∙ ap (λ (ms : List (Mark ℕ)). standing (standing_of c) ms) only in
    ap (λ (s : Standing). operation_of s.operation n) at ∙ its_share (begun_in (standing_of c) n who e) n refl refl

begun_leaves : (c d : Cell) (n : ℕ) (who : Who) (e : Call) (left : List (Mark ℕ)) → left ≡ begun_marks n who e (live_in c) → Leads c (step.BeginOp n who e) left d → (own whose n left ≡ begun_marks n who e (live_in c)) × HasStarted n who e c d
begun_leaves c d n who e left only leads = (
  ap (λ (ms : List (Mark ℕ)). own whose n ms) only ∙ own_are_all n (begun_marks n who e (live_in c)) (refl, (refl, tt)),
  started c d n who e (live_in c) left only (on_base c d left leads.base leads.marks),
)

pub beginnings_leave : BeginningsLeave
beginnings_leave old new n who d look.Begun h = (h.0, h.1, begun_leaves old.cell new.cell n who d h.0 h.2.0 h.1.leads)
beginnings_leave old new n who d (look.Done r) h = (h.0, h.1, begun_done old.cell n who d r h.0 h.1.turn h.2)
beginnings_leave old new n who d (look.Excluded held boot looks) h = (h.0, h.1, ap (λ (ms : List (Mark ℕ)). own whose n ms) h.2.0)
beginnings_leave old new n who d (look.WaitersFull w) h = (h.0, h.1, refusals_are_own old.cell (step.BeginOp n who d) n who d code.TooManyWaiting h.0 h.1.turn h.2.0)
beginnings_leave old new n who d look.NoMemory h = (h.0, h.1, ap (λ (ms : List (Mark ℕ)). own whose n ms) h.2)

taken_done : (c : Cell) (n : ℕ) (who : Who) (d : Call) (r : Reply) (left : List (Mark ℕ)) → IsTurn c (step.TakeUp n who d) left → HasDone n r left → IsDoneAtOnce n who d (live_in c) r left
taken_done c n who d r left turn done =
    let t : CoreStep ℕ = step.TakeUp n who d in
    let h : IsEnteredDone c t n refl r left = entered_done c t n refl r left tt turn.can.0.no_call turn.left done in
    done_at_once c t n refl who d (live_in c) r left h tt
    (admit_is n who d (live_in c) h.number h.who h.wanted h.call h.boot h.lets.0 h.lets.1) h.lets.0.caller h.lets.0.same_call h.lets.1

abbrev taken_marks : ℕ → Who → Call → Option ℕ → List (Mark ℕ)
taken_marks n who d boot = mark.Admit n who (job_of d) d boot ∷ mark.TakeUp n who d ∷ []

taken_there : (s : Standing) (n : ℕ) (who : Who) (d : Call) (o : OpenOperation) → s.operation ≡ Some o → operation_of (after_take_up s s.operation n who d).operation n ≡ Some (taken_up n who d o)
taken_there s n who d o is = ap (λ (q : Option OpenOperation). operation_of (after_take_up s q n who d).operation n) is ∙ its_share (taken_up n who d o) n refl refl

taken : (c d : Cell) (n : ℕ) (who : Who) (e : Call) (boot : Option ℕ) (left : List (Mark ℕ)) → left ≡ taken_marks n who e boot → MayLeave c (step.TakeUp n who e) left → standing_of d ≡ standing (standing_of c) left
    → HasTakenUp n who e c d
taken c d n who e boot left only may is =
    let first : Standing = after (standing_of c) (mark.Admit n who (job_of e) e boot) in
    let at : standing_of d ≡ standing (standing_of c) (taken_marks n who e boot) = is ∙ ap (λ (ms : List (Mark ℕ)). standing (standing_of c) ms) only in
    let left_so : MayLeave c (step.TakeUp n who e) (taken_marks n who e boot) = subst (λ (ms : List (Mark ℕ)). MayLeave c (step.TakeUp n who e) ms) only may in
    let rests = taken_some first first.job first.operation n who e refl left_so.2.0.1 in
    (rests.0, rests.1, ap (λ (s : Standing). operation_of s.operation n) at ∙ taken_there first n who e rests.0 rests.1)

taken_leaves : (c d : Cell) (n : ℕ) (who : Who) (e : Call) (left : List (Mark ℕ)) → left ≡ taken_marks n who e (live_in c) → IsTurn c (step.TakeUp n who e) left → Leads c (step.TakeUp n who e) left d
    → (own whose n left ≡ taken_marks n who e (live_in c)) × HasTakenUp n who e c d
taken_leaves c d n who e left only turn leads = (
  ap (λ (ms : List (Mark ℕ)). own whose n ms) only ∙ own_are_all n (taken_marks n who e (live_in c)) (refl, (refl, tt)),
  taken c d n who e (live_in c) left only turn.left (on_base c d left leads.base leads.marks),
)

pub takings_up_leave : TakingsUpLeave
takings_up_leave old new n who d look.Begun h = (h.0, h.1, taken_leaves old.cell new.cell n who d h.0 h.2.0 h.1.turn h.1.leads)
takings_up_leave old new n who d (look.Done r) h = (h.0, h.1, taken_done old.cell n who d r h.0 h.1.turn h.2)
takings_up_leave old new n who d (look.Excluded held boot looks) h = (h.0, h.1, ap (λ (ms : List (Mark ℕ)). own whose n ms) h.2.0)
takings_up_leave old new n who d (look.WaitersFull w) h = (h.0, h.1, refusals_are_own old.cell (step.TakeUp n who d) n who d code.TooManyWaiting h.0 h.1.turn h.2.0)
takings_up_leave old new n who d look.NoMemory h = (h.0, h.1, ap (λ (ms : List (Mark ℕ)). own whose n ms) h.2)
