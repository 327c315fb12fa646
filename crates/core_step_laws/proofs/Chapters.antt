-- A turn adds its marks to the chapter, or begins the next one.
use Rattle.std.proofs.Common.{◌≡◌, ◌⊎◌, inl, inr, ℕ, ◌+◌, ◌==◌, List, [], ◌∷◌, ◌++◌, drop, length, Bool, true, false, if◌then◌else◌, refl, sym, ap, ◌∙◌, subst, arith}
use Rattle.std.proofs.Math.Seq.{drop-append_seam}
use Rattle.std.proofs.lemmas.Bool.Decides.{nat_tests}
use Rattle.history_spec.specs.Begins.{SameChapter}
use Rattle.history_spec.specs.Chapter.{GoesOn, added}
use Rattle.domain_spec.specs.declared.core_step.CoreStep.{CoreStep}
use Rattle.domain_spec.specs.declared.core_step.CoreStep.TheVariants as step
use Rattle.domain_spec.specs.declared.mark.Mark.{Mark}
use Rattle.domain_spec.specs.declared.standing.Base.{Base}
use Rattle.domain_spec.specs.Cell.{Cell, standing_of}
use Rattle.domain_spec.specs.Chapter.{next_base}
use Rattle.domain_spec.specs.Turns.{IsTurn, Leads}
use Rattle.core_step_laws.specs.Chapters.{GoesOnBy, IsNextChapter, TurnsGoOn, history_at, marks_kept}

same_test : (a b : ℕ) (t : Bool) → (a == b) ≡ t → b ≡ a → t ≡ true
same_test a b true e f = refl
same_test a b false e f = grind (arith, nat_tests, e, f)

next_test : (a b : ℕ) (t : Bool) → (a == b) ≡ t → b ≡ a + 1 → t ≡ false
next_test a b true e f = grind (arith, nat_tests, e, f)
next_test a b false e f = refl

in_chapter : (c d : Cell) (left : List (Mark ℕ)) (before next : ℕ) → d.base ≡ c.base → d.marks ≡ c.marks ++ left → next ≡ before → GoesOnBy before next c d left
in_chapter c d left before next base marks same = record {
  goes_on = inl (record { chapter = sym same; base = sym base; marks = (left, sym marks) });
  added =
      ap (λ (t : Bool). if t then drop (length c.marks) d.marks else d.marks) (same_test before next (before == next) refl same)
      ∙ ap (λ (ms : List (Mark ℕ)). drop (length c.marks) ms) marks
      ∙ drop-append_seam c.marks left;
}

next_chapter : (c d : Cell) (before next : ℕ) → d.base ≡ next_base (standing_of c) c.registrations → d.marks ≡ [] → next ≡ before + 1 → GoesOnBy before next c d []
next_chapter c d before next base marks rises = record {
  goes_on = inr (record { chapter = rises; base = base });
  added = ap (λ (t : Bool). if t then drop (length c.marks) d.marks else d.marks) (next_test before next (before == next) refl rises) ∙ marks;
}

pub turns_go_on : TurnsGoOn
turns_go_on c d (step.Rotate number who) left before next turn leads is = next_chapter c d before next leads.base leads.marks is
turns_go_on c d other left before next turn leads is = in_chapter c d left before next leads.base leads.marks is
