-- The parts of a number's share, from the parts of its cell.
use Rattle.std.proofs.Common.{◌≡◌, ℕ, ◌==◌, List, ◌++◌, Bool, Option, None, Some, if◌then◌else◌, refl, sym, ap, ◌∙◌, subst}
use Rattle.domain_spec.specs.Types.{Answer, Ask, Who}
use Rattle.domain_spec.specs.declared.core_step.CoreStep.{CoreStep}
use Rattle.domain_spec.specs.declared.mark.Mark.{Mark}
use Rattle.domain_spec.specs.declared.open.OpenJob.{OpenJob}
use Rattle.domain_spec.specs.declared.open.OpenOperation.{OpenOperation}
use Rattle.domain_spec.specs.declared.standing.Registration.{Registration}
use Rattle.domain_spec.specs.declared.standing.Standing.{Standing}
use Rattle.domain_spec.specs.CanTake.{IsNotJobOf}
use Rattle.domain_spec.specs.Cell.{Cell, LentEars, OpenCall, Share, Taken, as_let_in, asks_so_far, call_of, ears_of, operation_of, share_of, standing_of}
use Rattle.domain_spec.specs.Fold.{standing}
use Rattle.domain_spec.specs.Registrations.{registrations_at}
use Rattle.domain_spec.specs.Turns.{MayLeave}
use Rattle.core_steps.specs.Turning.{AsksLast}
use Rattle.core_step_laws.proofs.Jobs.{differ, on_base}
use Rattle.core_step_laws.proofs.Listed.{taken_of}
use Rattle.core_step_laws.specs.Staying.{RestStays}
use Rattle.core_step_laws.proofs.Listing.{KeepsClients, left_listed}

-- the open call

other_none : (s : Standing) (j : Option OpenJob) (answers : List Answer) (n : ℕ) → IsNotJobOf j n → call_of s j answers n ≡ None
other_none s None answers n unlike = refl
other_none s (Some j) answers n unlike =
    ap (λ (b : Bool). if b then Some (record { job = as_let_in j; asks = asks_so_far s j.job j answers; answers = answers }) else None)
    (differ j.number n (j.number == n) refl (λ e. unlike (sym e)))

pub call_other : (c : Cell) (n : ℕ) → IsNotJobOf (standing_of c).job n → (share_of c n).call ≡ None
call_other c n unlike = other_none (standing_of c) (standing_of c).job c.answers n unlike

pub call_none : (c : Cell) (n : ℕ) → (standing_of c).job ≡ None → (share_of c n).call ≡ None
call_none c n e = call_other c n (subst (λ (j : Option OpenJob). IsNotJobOf j n) (sym e) tt)

pub asks_there : (c : Cell) (n : ℕ) (x : Ask) → AsksLast (share_of c n).call x → (standing_of c).job ≡ None → ⊥
asks_there c n x asks e = subst (λ (o : Option OpenCall). AsksLast o x) (call_none c n e) asks

-- all five parts

abbrev made_of : Option Who → Option OpenCall → Option OpenOperation → List Taken → Option LentEars → Share
made_of waits call operation registrations ears = record { waits = waits; call = call; operation = operation; registrations = registrations; ears = ears }

pub five_parts : (a b : Option Who) (c d : Option OpenCall) (e f : Option OpenOperation) (g h : List Taken) (i j : Option LentEars) → a ≡ b → c ≡ d → e ≡ f → g ≡ h → i ≡ j → made_of a c e g i ≡ made_of b d f h j
five_parts a b c d e f g h i j p q r s t =
    ap (λ (x : Option Who). made_of x c e g i) p
    ∙ ap (λ (x : Option OpenCall). made_of b x e g i) q
    ∙ ap (λ (x : Option OpenOperation). made_of b d x g i) r
    ∙ ap (λ (x : List Taken). made_of b d f x i) s
    ∙ ap (λ (x : Option LentEars). made_of b d f h x) t

-- from one cell to the next, by a turn that stays in its chapter
pub record Moves (c d : Cell) (left : List (Mark ℕ)) : Type 0 where
  pub base : d.base ≡ c.base
  pub marks : d.marks ≡ c.marks ++ left
  pub registrations : d.registrations ≡ registrations_at c.registrations left
  pub ears : d.ears ≡ c.ears

pub moved : (c d : Cell) (left : List (Mark ℕ)) → Moves c d left → standing_of d ≡ standing (standing_of c) left
moved c d left m = on_base c d left m.base m.marks

pub operation_stays : (c d : Cell) (n : ℕ) (left : List (Mark ℕ)) → Moves c d left → (standing (standing_of c) left).operation ≡ (standing_of c).operation → (share_of d n).operation ≡ (share_of c n).operation
operation_stays c d n left m same =
    ap (λ (s : Standing). operation_of s.operation n) (moved c d left m) ∙ ap (λ (q : Option OpenOperation). operation_of q n) same

pub registrations_stay : (c d : Cell) (t : CoreStep ℕ) (n : ℕ) (left : List (Mark ℕ)) → Moves c d left → KeepsClients t → MayLeave c t left → (share_of d n).registrations ≡ (share_of c n).registrations
registrations_stay c d t n left m keeps may = ap (λ (rs : List Registration). taken_of n rs) m.registrations ∙ left_listed c t n left c.registrations keeps may

pub ears_stay : (c d : Cell) (n : ℕ) (left : List (Mark ℕ)) → Moves c d left → (share_of d n).ears ≡ (share_of c n).ears
ears_stay c d n left m = ap (λ (ears : Option LentEars). ears_of ears n) m.ears

pub rest_stays : (c d : Cell) (t : CoreStep ℕ) (n : ℕ) (left : List (Mark ℕ)) → Moves c d left → KeepsClients t → MayLeave c t left → (standing (standing_of c) left).operation ≡ (standing_of c).operation
    → RestStays (share_of c n) (share_of d n)
rest_stays c d t n left m keeps may same = record {
  operation = operation_stays c d n left m same;
  registrations = registrations_stay c d t n left m keeps may;
  ears = ears_stay c d n left m;
}
