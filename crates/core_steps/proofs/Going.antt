-- A turn goes on by marks after marks.
use Rattle.std.proofs.Common.{◌≡◌, ℕ, List, [], ◌∷◌, ◌++◌, map, None, sym, ap, ◌∙◌, subst, append_assoc, append-nil}
use Rattle.domain_spec.specs.Types.{Reply}
use Rattle.domain_spec.specs.declared.core_step.CoreStep.{CoreStep}
use Rattle.domain_spec.specs.declared.mark.Mark.{Mark}
use Rattle.domain_spec.specs.declared.standing.Standing.{Standing}
use Rattle.domain_spec.specs.Cell.{Cell}
use Rattle.domain_spec.specs.Fold.{after, standing}
use Rattle.domain_spec.specs.Legal.{MarksLoss}
use Rattle.domain_spec.specs.Registrations.{with_pending}
use Rattle.domain_spec.specs.Steps.{AnswersBy}
use Rattle.domain_spec.specs.Turns.{GoOn, GoesOnBy, IsOwn}
use Rattle.domain_spec.proofs.LawProofs.{standing-append}
use Rattle.core_log.specs.Below.core_plan.Along.{Asked}
use Rattle.core_log.proofs.Below.core_flight.Turned.{done_is_left}
use Rattle.core_log.specs.Below.core_flight.Ledger.{closing}
use Rattle.core_log.specs.Below.core_flight.Told.{told_last}
use Rattle.event_queue.specs.Listening.{registrations}
use Rattle.core_log.specs.Record.{HasMarked, Recorded, Tells, cuts_after, force_of, with_cuts}
use Rattle.core_log.proofs.Joining.{force_after, marked_more}
use Rattle.core_log.proofs.Cuts.{legal_ending}
use Rattle.core_steps.proofs.LookedAt.{DoneAt}
use Rattle.core_steps.proofs.Marks.{cuts_go_on}

-- these marks were added, and a turn of this step goes on by them
pub record Goes (c : Cell) (t : CoreStep ℕ) (old new : Recorded) (marks : List (Mark ℕ)) : Type 0 where
  pub marked : HasMarked old new marks
  pub goes : (more : List (Mark ℕ)) → GoOn c t (standing (force_of old) marks) more → GoOn c t (force_of old) (marks ++ more)

pub goes_more : (c : Cell) (t : CoreStep ℕ) (a b d : Recorded) (xs ys : List (Mark ℕ)) → Goes c t a b xs → Goes c t b d ys → Goes c t a d (xs ++ ys)
goes_more c t a b d xs ys h g = record {
  marked = marked_more a b d xs ys h.marked g.marked;
  goes = λ more go.
      subst (λ (ms : List (Mark ℕ)). GoOn c t (force_of a) ms) (sym (append_assoc xs ys more))
      (h.goes (ys ++ more)
      (subst (λ (s : Standing). GoOn c t s (ys ++ more)) (force_after a b xs h.marked)
      (g.goes more
      (subst (λ (s : Standing). GoOn c t s more) (standing-append (force_of a) xs ys ∙ ap (λ (s : Standing). standing s ys) (sym (force_after a b xs h.marked))) go))));
}

-- one mark, and the cuts after it
pub goes_one : (c : Cell) (t : CoreStep ℕ) (old new : Recorded) (m : Mark ℕ) → Tells old new (m ∷ []) → GoesOnBy c t (force_of old) m → MarksLoss (force_of old).lost m → Goes c t old new (with_cuts old.listeners (m ∷ []))
goes_one c t old new m tells by loss = record {
  marked = tells.marked;
  goes = λ more go. (by, loss, cuts_go_on c t (after (force_of old) m) (map (with_pending (told_last (m ∷ []))) (registrations old.listeners)) more tells.marked.legal.1 go);
}

-- the call that is open is done
pub goes_done : (c : Cell) (t : CoreStep ℕ) (old new : Recorded) (n : ℕ) (a : Asked) (r : Reply) → DoneAt old new [] (force_of old) n a r → IsOwn t n → AnswersBy c t a.answers
    → Goes c t old new (with_cuts old.listeners (closing (force_of old) (force_of old).job n a))
goes_done c t old new n a r at own answers =
    let s : Standing = force_of old in
    let done : List (Mark ℕ) = closing s s.job n a in
    let cuts : List (Mark ℕ) = cuts_after (registrations old.listeners) (told_last done) in
    record {
      marked = at.told.marked;
      goes = λ more go.
          subst (λ (ms : List (Mark ℕ)). GoOn c t s ms) (sym (append_assoc done cuts more))
          (done_is_left c t s n a (cuts ++ more) own answers at.lawful
          (cuts_go_on c t (standing s done) (map (with_pending (told_last done)) (registrations old.listeners)) more (legal_ending s done cuts at.told.marked.legal)
          (subst (λ (x : Standing). GoOn c t x more) (standing-append s done cuts) go)));
    }

-- where no boot's end is left to be marked the turn is over
pub goes_all : (c : Cell) (t : CoreStep ℕ) (old new : Recorded) (marks : List (Mark ℕ)) → Goes c t old new marks → (force_of new).lost ≡ None → GoOn c t (force_of old) marks
goes_all c t old new marks h lost =
    subst (λ (ms : List (Mark ℕ)). GoOn c t (force_of old) ms) (append-nil marks)
    (h.goes [] (sym (ap (λ (s : Standing). s.lost) (force_after old new marks h.marked)) ∙ lost))
