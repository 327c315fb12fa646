-- Why a turn of a cell may be left.
use Rattle.std.proofs.Common.{◌≡◌, inl, ℕ, List, [], ◌∷◌, length, drop, Bool, if◌then◌else◌, refl, sym, ap, ◌∙◌, subst, append-nil}
use Rattle.history_spec.specs.declared.history.History.{History}
use Rattle.history_spec.specs.Chapter.{GoesOn, added}
use Rattle.history_spec.specs.Pass.{AreOf, own}
use Rattle.domain_spec.specs.declared.core_step.CoreStep.{CoreStep}
use Rattle.domain_spec.specs.declared.core_step.CoreStep.TheVariants as step
use Rattle.domain_spec.specs.declared.mark.Mark.{Mark}
use Rattle.domain_spec.specs.declared.standing.Base.{Base}
use Rattle.domain_spec.specs.Turns.{IsTurn}
use Rattle.domain_spec.specs.Cell.{Cell}
use Rattle.domain_spec.specs.Chapter.{next_base}
use Rattle.core_steps.specs.Turning.{chapter_after}
use Rattle.domain_core.specs.Celled.{cell_in, standing_in}
use Rattle.domain_core.specs.Changing.{StillTurnsChange, TurnsChange}
use Rattle.domain_core.specs.Meaning.{history_of}
use Rattle.core_step_laws.specs.Chapters.{IsNextChapter, marks_kept}
use Rattle.core_step_laws.specs.Shares.{IsStepOf, whose}
use Rattle.core_step_laws.proofs.Chapters.{turns_go_on}
use Rattle.core_step_laws.proofs.Marks.{marks_are_own}
use Rattle.domain_core.proofs.Linking.{same_true}

next_of : (t : CoreStep ℕ) (before next : ℕ) → next ≡ chapter_after before t → IsNextChapter t before next
next_of (step.Rotate number who) before next e = e
next_of other before next e = e

kept_own : (c : Cell) (t : CoreStep ℕ) (n : ℕ) (marks : List (Mark ℕ)) → IsStepOf n t → IsTurn c t marks → AreOf whose n (marks_kept t marks)
kept_own c (step.Rotate number who) n marks e turn = tt
kept_own c other n marks e turn = marks_are_own c other n marks e turn

pub turns_change : TurnsChange
turns_change old new t n left e turned others =
    let a = old.core.turning in
    let b = new.core.turning in
    let on = turns_go_on a.cell b.cell t left a.chapter b.chapter turned.turn turned.leads (next_of t a.chapter b.chapter turned.chapter) in
    record {
      goes_on = on.goes_on;
      marks = subst (λ (ms : List (Mark ℕ)). AreOf whose n ms) (sym on.added) (kept_own a.cell t n left e turned.turn);
      others = others;
      own_marks = ap (λ (ms : List (Mark ℕ)). own whose n ms) on.added;
    }

-- where the history stays

drop_all : (marks : List (Mark ℕ)) → drop (length marks) marks ≡ []
drop_all [] = refl
drop_all (m ∷ marks) = drop_all marks

none_added : (h : History Base (Mark ℕ)) → added h h ≡ []
none_added h = ap (λ (t : Bool). if t then drop (length h.marks) h.marks else h.marks) (same_true h.chapter h.chapter refl) ∙ drop_all h.marks

same_goes_on : (next : Base) (h : History Base (Mark ℕ)) → GoesOn next h h
same_goes_on next h = inl (record { chapter = refl; base = refl; marks = ([], append-nil h.marks) })

pub still_turns_change : StillTurnsChange
still_turns_change old new n same others =
    let none : added (history_of old) (history_of new) ≡ [] = ap (λ (h : History Base (Mark ℕ)). added (history_of old) h) same ∙ none_added (history_of old) in
    record {
      goes_on = subst (λ (h : History Base (Mark ℕ)). GoesOn (next_base (standing_in old) (cell_in old).registrations) (history_of old) h) (sym same) (same_goes_on (next_base (standing_in old) (cell_in old).registrations) (history_of old));
      marks = subst (λ (ms : List (Mark ℕ)). AreOf whose n ms) (sym none) tt;
      others = others;
      own_marks = ap (λ (ms : List (Mark ℕ)). own whose n ms) none;
    }
