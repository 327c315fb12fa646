-- What a look leaves of its own.
use Rattle.std.proofs.Common.{◌≡◌, ℕ, List, [], ◌∷◌, length, Option, Some, refl, ap, ◌∙◌, subst}
use Rattle.history_spec.specs.Pass.{own}
use Rattle.domain_spec.specs.Types.{Ask, Call, Job, Reply, Who}
use Rattle.domain_spec.specs.Types.code
use Rattle.domain_spec.specs.declared.core_step.CoreStep.{CoreStep}
use Rattle.domain_spec.specs.declared.core_step.CoreStep.TheVariants as step
use Rattle.domain_spec.specs.declared.core_step.First.{First}
use Rattle.domain_spec.specs.declared.core_step.First.TheVariants as first
use Rattle.domain_spec.specs.declared.mark.Mark.{Mark}
use Rattle.domain_spec.specs.declared.mark.Mark.TheVariants as mark
use Rattle.domain_spec.specs.declared.open.OpenJob.{OpenJob}
use Rattle.domain_spec.specs.declared.standing.Standing.{Standing}
use Rattle.domain_spec.specs.Call.{job_of}
use Rattle.domain_spec.specs.Carried.{IsBootAt}
use Rattle.domain_spec.specs.Cell.{Cell, share_of, standing_of}
use Rattle.domain_spec.specs.Fold.{standing}
use Rattle.domain_spec.specs.Reading.{live_boot}
use Rattle.domain_spec.specs.Steps.{AnswersBy, IsAdmitOf}
use Rattle.domain_spec.specs.Turns.{AnswersAfter, IsTurn, Leads}
use Rattle.core_steps.specs.declared.looking.Looked.TheVariants as looked
use Rattle.core_steps.specs.Looking.{boot_first}
use Rattle.core_steps.specs.Turning.{AsksLast, HasDone}
use Rattle.core_step_laws.specs.Shares.{whose}
use Rattle.core_step_laws.proofs.Jobs.{on_base}
use Rattle.core_step_laws.specs.MarkedLooked.{IsDoneAtOnce, IsLetIn, LooksLeave}
use Rattle.core_step_laws.proofs.Entering.{IsEntered, IsEnteredDone, done_at_once, entered, entered_done, let_in, opened}
use Rattle.core_step_laws.proofs.Owning.{refusals_are_own}

-- the boot that is carried
carried : (c : Cell) (f : First) (boot : Option ℕ) → IsBootAt f c.base c.marks boot → boot ≡ boot_first f (live_boot (standing_of c).state)
carried c first.Now boot h = h
carried c (first.Boot kept) boot h = h.0

-- its Admit
pub admit_is : (n : ℕ) (who : Who) (d : Call) (boot : Option ℕ) (number : ℕ) (w : Who) (wanted : Job) (e : Call) (b : Option ℕ) → IsAdmitOf n who d number w wanted e → b ≡ boot
    → mark.Admit number w wanted e b ≡ mark.Admit n who (job_of d) d boot
admit_is n who d boot number w wanted e b h same =
    ap (λ (k : ℕ). mark.Admit k w wanted e b) h.numbered
    ∙ ap (λ (x : Who). mark.Admit n x wanted e b) h.caller
    ∙ ap (λ (x : Job). mark.Admit n who x e b) h.own_job
    ∙ ap (λ (x : Call). mark.Admit n who (job_of d) x b) h.same_call
    ∙ ap (λ (x : Option ℕ). mark.Admit n who (job_of d) d x) same

look_done : (c : Cell) (n : ℕ) (who : Who) (d : Call) (f : First) (r : Reply) (left : List (Mark ℕ)) → IsTurn c (step.Look n who d f) left → HasDone n r left
    → IsDoneAtOnce n who d (boot_first f (live_boot (standing_of c).state)) r left
look_done c n who d f r left turn done =
    let t : CoreStep ℕ = step.Look n who d f in
    let h : IsEnteredDone c t n refl r left = entered_done c t n refl r left tt turn.can.none_open.no_call turn.left done in
    let boot = boot_first f (live_boot (standing_of c).state) in
    let same : h.boot ≡ boot = carried c f h.boot h.lets.1 in
    done_at_once c t n refl who d boot r left h tt
    (admit_is n who d boot h.number h.who h.wanted h.call h.boot h.lets.0 same) h.lets.0.caller h.lets.0.same_call same

-- what was answered by then

pub starved_after : (c d : Cell) (t : CoreStep ℕ) (number : ℕ) (w : Who) (wanted : Job) (e : Call) (b : Option ℕ) (left : List (Mark ℕ)) → left ≡ mark.Admit number w wanted e b ∷ []
    → standing_of d ≡ standing (standing_of c) left → AnswersAfter c t left (standing_of d).job d.answers → AnswersAfter c t (mark.Admit number w wanted e b ∷ []) (Some (let_in number w wanted e b)) d.answers
starved_after c d t number w wanted e b left only is h =
    let at : (standing_of d).job ≡ Some (let_in number w wanted e b) = ap (λ (s : Standing). s.job) (is ∙ ap (λ (ms : List (Mark ℕ)). standing (standing_of c) ms) only) in
    subst (λ (ms : List (Mark ℕ)). AnswersAfter c t ms (Some (let_in number w wanted e b)) d.answers) only (subst (λ (j : Option OpenJob). AnswersAfter c t left j d.answers) at h)

look_away : (c d : Cell) (n : ℕ) (who : Who) (e : Call) (f : First) (x : Ask) (left : List (Mark ℕ)) → IsTurn c (step.Look n who e f) left → Leads c (step.Look n who e f) left d → length left ≡ 1 → AsksLast (share_of d n).call x
    → IsLetIn n who (job_of e) e (boot_first f (live_boot (standing_of c).state)) (share_of d n).call x left
look_away c d n who e f x left turn leads one asks =
    let t : CoreStep ℕ = step.Look n who e f in
    let is : standing_of d ≡ standing (standing_of c) left = on_base c d left leads.base leads.marks in
    let h : IsEntered c t left = entered c d t n left x refl tt turn.can.none_open.no_call turn.left is one asks in
    let boot = boot_first f (live_boot (standing_of c).state) in
    let only : left ≡ mark.Admit n who (job_of e) e boot ∷ [] =
    h.is ∙ ap (λ (m : Mark ℕ). m ∷ []) (admit_is n who e boot h.number h.who h.wanted h.call h.boot h.lets.0 (carried c f h.boot h.lets.1)) in
    let starved : AnswersBy c t d.answers = starved_after c d t n who (job_of e) e boot left only is leads.answers in
    opened c d n who (job_of e) e boot x left starved.0 only is starved.1 asks

pub looks_leave : LooksLeave
looks_leave old new n who d f (looked.Done r) h = (h.0, h.1, look_done old.cell n who d f r h.0 h.1.turn h.2)
looks_leave old new n who d f (looked.Away x) h = (h.0, h.1, look_away old.cell new.cell n who d f x h.0 h.1.turn h.1.leads h.2.0 h.2.1)
looks_leave old new n who d f (looked.Excluded held boot looks) h = (h.0, h.1, ap (λ (ms : List (Mark ℕ)). own whose n ms) h.2.0)
looks_leave old new n who d f (looked.WaitersFull w) h = (h.0, h.1, refusals_are_own old.cell (step.Look n who d f) n who d code.TooManyWaiting h.0 h.1.turn h.2.0)
looks_leave old new n who d f looked.NoMemory h = (h.0, h.1, ap (λ (ms : List (Mark ℕ)). own whose n ms) h.2)
