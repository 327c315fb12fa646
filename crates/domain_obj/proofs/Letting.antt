-- The marks of a look that lets its call in: the Admit is the first.
use Rattle.std.proofs.Common.{◌≡◌, ℕ, List, [], ◌∷◌, length, Option, refl, ap, ◌∙◌}
use Rattle.domain_spec.specs.Types.{Ask, Call, Reply, Who}
use Rattle.domain_spec.specs.declared.core_step.CoreStep.{CoreStep}
use Rattle.domain_spec.specs.declared.core_step.CoreStep.TheVariants as step
use Rattle.domain_spec.specs.declared.core_step.First.{First}
use Rattle.domain_spec.specs.declared.core_step.First.TheVariants as first
use Rattle.domain_spec.specs.declared.mark.Mark.{Mark}
use Rattle.domain_spec.specs.declared.mark.Mark.TheVariants as mark
use Rattle.domain_spec.specs.Call.{job_of}
use Rattle.domain_spec.specs.Carried.{IsBootAt}
use Rattle.domain_spec.specs.Cell.{Cell, share_of, standing_of}
use Rattle.domain_spec.specs.Fold.{standing}
use Rattle.domain_spec.specs.Reading.{live_boot}
use Rattle.domain_spec.specs.Turns.{IsTurn, Leads}
use Rattle.domain_core.specs.OfTurns.{boot_first}
use Rattle.domain_core.specs.OfTurns.{AsksLast, HasDone}
use Rattle.domain_core.specs.OfShares.{IsDoneAtOnce, IsLetIn}
use Rattle.domain_core.proofs.OfShares.{IsEntered, IsEnteredDone, done_at_once, entered, entered_done, opened}
use Rattle.domain_core.proofs.OfShares.{admit_is, starved_after}
use Rattle.domain_core.proofs.OfShares.{on_base}

-- the boot that is carried
pub boot_at : (c : Cell) (f : First) (boot : Option ℕ) → IsBootAt f c.base c.marks boot → boot ≡ boot_first f (live_boot (standing_of c).state)
boot_at c first.Now boot h = h
boot_at c (first.Boot kept) boot h = h.0

abbrev pub boot_then : First → Cell → Option ℕ
boot_then f c = boot_first f (live_boot (standing_of c).state)

-- the Admit of a look
abbrev pub admit_of : ℕ → Who → Call → First → Cell → Mark ℕ
admit_of n who d f c = mark.Admit n who (job_of d) d (boot_then f c)

-- a call that is done at once
pub record LeavesDone (n : ℕ) (who : Who) (d : Call) (f : First) (r : Reply) (c : Cell) (left : List (Mark ℕ)) : Type 0 where
  pub rest : List (Mark ℕ)
  pub first_is : left ≡ admit_of n who d f c ∷ rest
  pub done : IsDoneAtOnce n who d (boot_then f c) r left

pub leaves_done : (n : ℕ) (who : Who) (d : Call) (f : First) (r : Reply) (c : Cell) (left : List (Mark ℕ)) → IsTurn c (step.Look n who d f) left → HasDone n r left → LeavesDone n who d f r c left
leaves_done n who d f r c left turn done =
    let t : CoreStep ℕ = step.Look n who d f in
    let h : IsEnteredDone c t n refl r left = entered_done c t n refl r left tt turn.can.none_open.no_call turn.left done in
    let same : h.boot ≡ boot_then f c = boot_at c f h.boot h.lets.1 in
    let admit : mark.Admit h.number h.who h.wanted h.call h.boot ≡ admit_of n who d f c = admit_is n who d (boot_then f c) h.number h.who h.wanted h.call h.boot h.lets.0 same in
    record {
      rest = h.rest;
      first_is = h.is ∙ ap (λ (m : Mark ℕ). m ∷ h.rest) admit;
      done = done_at_once c t n refl who d (boot_then f c) r left h tt admit h.lets.0.caller h.lets.0.same_call same;
    }

-- a call that asks
pub record LeavesAway (n : ℕ) (who : Who) (d : Call) (f : First) (x : Ask) (c e : Cell) (left : List (Mark ℕ)) : Type 0 where
  pub only : left ≡ admit_of n who d f c ∷ []
  pub let_in : IsLetIn n who (job_of d) d (boot_then f c) (share_of e n).call x left

pub leaves_away : (n : ℕ) (who : Who) (d : Call) (f : First) (x : Ask) (c e : Cell) (left : List (Mark ℕ)) → IsTurn c (step.Look n who d f) left → Leads c (step.Look n who d f) left e → length left ≡ 1 → AsksLast (share_of e n).call x
    → LeavesAway n who d f x c e left
leaves_away n who d f x c e left turn leads one asks =
    let t : CoreStep ℕ = step.Look n who d f in
    let is : standing_of e ≡ standing (standing_of c) left = on_base c e left leads.base leads.marks in
    let h : IsEntered c t left = entered c e t n left x refl tt turn.can.none_open.no_call turn.left is one asks in
    let only : left ≡ admit_of n who d f c ∷ [] =
    h.is ∙ ap (λ (m : Mark ℕ). m ∷ []) (admit_is n who d (boot_then f c) h.number h.who h.wanted h.call h.boot h.lets.0 (boot_at c f h.boot h.lets.1)) in
    let starved = starved_after c e t n who (job_of d) d (boot_then f c) left only is leads.answers in
    record { only = only; let_in = opened c e n who (job_of d) d (boot_then f c) x left starved.0 only is starved.1 asks }
