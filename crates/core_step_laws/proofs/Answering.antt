-- An open call stays with what it has asked, where its state, its operation and what was answered stay.
use Rattle.std.proofs.Common.{◌≡◌, ℕ, ◌==◌, List, ◌∷◌, Option, None, Some, if◌then◌else◌, refl, ap, ◌∙◌}
use Rattle.domain_spec.specs.Types.{Answer, Ask, Job, State}
use Rattle.domain_spec.specs.Types.job
use Rattle.domain_spec.specs.declared.core_step.CoreStep.{CoreStep}
use Rattle.domain_spec.specs.declared.core_step.CoreStep.TheVariants as step
use Rattle.domain_spec.specs.declared.mark.Mark.{Mark}
use Rattle.domain_spec.specs.declared.mark.Mark.TheVariants as mark
use Rattle.domain_spec.specs.declared.open.OpenJob.{OpenJob}
use Rattle.domain_spec.specs.declared.open.OpenOperation.{OpenOperation}
use Rattle.domain_spec.specs.declared.standing.Standing.{Standing}
use Rattle.domain_spec.specs.Cell.{Cell, OpenCall, as_let_in, asks_so_far, call_asks, call_of, phase_asks, planned_at, share_of, standing_of}
use Rattle.domain_spec.specs.Fold.{standing}
use Rattle.domain_spec.specs.Turns.{AnswersAfter}
use Rattle.core_step_laws.proofs.Parts.{Moves, moved}

-- what was answered

-- the step answers nothing
abbrev pub IsNoAnswer : CoreStep ℕ → Type 0
IsNoAnswer (step.Back n a) = ⊥
IsNoAnswer other = Unit {0}

-- the first of these marks lets nothing in
abbrev pub LetsNoneIn : List (Mark ℕ) → Type 0
LetsNoneIn (mark.Admit number who wanted d boot ∷ left) = ⊥
LetsNoneIn other = Unit {0}

answered_alike : (c : Cell) (t : CoreStep ℕ) (left : List (Mark ℕ)) (j : Option OpenJob) (x : OpenJob) (answers : List Answer) → IsNoAnswer t → LetsNoneIn left → AnswersAfter c t left j answers → j ≡ Some x
    → answers ≡ c.answers
answered_alike c t left None x answers e f h is = cc
answered_alike c (step.Back n a) left (Some j) x answers e f h is = absurd e
answered_alike c t (mark.Admit number who wanted d boot ∷ left) (Some j) x answers e f h is = absurd f
answered_alike c t left (Some j) x answers e f h is = h

-- what was asked

asked_alike : (s t : Standing) (wanted : Job) (j : OpenJob) (answers : List Answer) → t.state ≡ s.state → t.operation ≡ s.operation → asks_so_far t wanted j answers ≡ asks_so_far s wanted j answers
asked_alike s t job.Nested j answers e f =
    ap (λ (x : State). phase_asks (planned_at x j) t.operation answers) e ∙ ap (λ (o : Option OpenOperation). phase_asks (planned_at s.state j) o answers) f
asked_alike s t wanted j answers e f = ap (λ (x : State). call_asks (planned_at x j) j answers) e

abbrev open_if : ℕ → OpenJob → List Ask → List Answer → Option OpenCall
open_if n j asks answers = if j.number == n then Some (record { job = as_let_in j; asks = asks; answers = answers }) else None

call_alike : (s t : Standing) (j : Option OpenJob) (a b : List Answer) (n : ℕ) → t.state ≡ s.state → t.operation ≡ s.operation → ((x : OpenJob) → j ≡ Some x → b ≡ a) → call_of t j b n ≡ call_of s j a n
call_alike s t None a b n e f same = refl
call_alike s t (Some j) a b n e f same =
    ap (λ (xs : List Ask). open_if n j xs b) (asked_alike s t j.job j b e f)
    ∙ ap (λ (xs : List Answer). open_if n j (asks_so_far s j.job j xs) xs) (same j refl)

-- what is in force stays, but for who is registered
pub record StaysInForce (s t : Standing) : Type 0 where
  pub state : t.state ≡ s.state
  pub job : t.job ≡ s.job
  pub operation : t.operation ≡ s.operation

pub call_after : (c d : Cell) (t : CoreStep ℕ) (n : ℕ) (left : List (Mark ℕ)) → standing_of d ≡ standing (standing_of c) left → IsNoAnswer t → LetsNoneIn left → AnswersAfter c t left (standing_of d).job d.answers
    → StaysInForce (standing_of c) (standing (standing_of c) left) → (share_of d n).call ≡ (share_of c n).call
call_after c d t n left is back admits answers same =
    let u : Standing = standing (standing_of c) left in
    ap (λ (s : Standing). call_of s s.job d.answers n) is
    ∙ ap (λ (j : Option OpenJob). call_of u j d.answers n) same.job
    ∙ call_alike (standing_of c) u (standing_of c).job c.answers d.answers n same.state same.operation
    (λ x was. answered_alike c t left (standing_of d).job x d.answers back admits answers (ap (λ (s : Standing). s.job) is ∙ same.job ∙ was))

pub call_stays : (c d : Cell) (t : CoreStep ℕ) (n : ℕ) (left : List (Mark ℕ)) → Moves c d left → IsNoAnswer t → LetsNoneIn left → AnswersAfter c t left (standing_of d).job d.answers
    → StaysInForce (standing_of c) (standing (standing_of c) left) → (share_of d n).call ≡ (share_of c n).call
call_stays c d t n left m back admits answers same = call_after c d t n left (moved c d left m) back admits answers same
