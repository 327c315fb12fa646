-- The marks of a turn: by what it goes on, and which events are among them.
use Rattle.std.proofs.Common.{◌≡◌, ℕ, ◌+◌, List, [], ◌∷◌, ◌++◌, Bool, true, false, Option, None, Some, if◌then◌else◌, refl, sym, ap, ◌∙◌}
use Rattle.domain_spec.specs.Types.{Reply}
use Rattle.domain_spec.specs.declared.core_step.CoreStep.{CoreStep}
use Rattle.domain_spec.specs.declared.mark.Mark.{Mark}
use Rattle.domain_spec.specs.declared.mark.Mark.TheVariants as mark
use Rattle.domain_spec.specs.declared.open.OpenJob.{OpenJob}
use Rattle.domain_spec.specs.declared.standing.Registration.{Registration}
use Rattle.domain_spec.specs.declared.standing.Standing.{Standing}
use Rattle.domain_spec.specs.Cell.{Cell, HeldEvent, standing_of}
use Rattle.domain_spec.specs.Fold.{after, lost_boot, standing}
use Rattle.domain_spec.specs.Kept.{events_in}
use Rattle.domain_spec.specs.Legal.{IsLegal}
use Rattle.domain_spec.specs.Sequential.{seq}
use Rattle.domain_spec.specs.Turns.{GoOn, MayLeave}
use Rattle.core_log.specs.Below.core_plan.Along.{Asked}
use Rattle.core_log.specs.Below.core_flight.Ledger.{IsDoneLawful, IsTold, closing, loss}
use Rattle.event_queue.specs.Telling.{cuts_due, is_over, most_of}
use Rattle.core_steps.specs.Turning.{HasDone}

-- events among marks

pub events_append : (xs ys : List (Mark ℕ)) → events_in (xs ++ ys) ≡ events_in xs ++ events_in ys
events_append [] ys = refl
events_append (mark.Event boot e events ∷ xs) ys = ap (λ (hs : List HeldEvent). record { boot = boot; event = e } ∷ hs) (events_append xs ys)
events_append (m ∷ xs) ys = events_append xs ys

none_if : (b : Bool) (m : Mark ℕ) (ms : List (Mark ℕ)) → events_in (m ∷ ms) ≡ events_in ms → events_in ms ≡ [] → events_in (if b then m ∷ ms else ms) ≡ []
none_if true m ms e f = e ∙ f
none_if false m ms e f = f

pub no_event_cut : (rs : List Registration) → events_in (cuts_due rs) ≡ []
no_event_cut [] = refl
no_event_cut (r ∷ rs) = none_if (is_over r) (mark.Cut r.client (r.taken + most_of r) r.taken) (cuts_due rs) refl (no_event_cut rs)

no_event_loss : (lost : Option ℕ) → events_in (loss lost) ≡ []
no_event_loss None = refl
no_event_loss (Some boot) = refl

pub no_event_closing : (s : Standing) (j : Option OpenJob) (n : ℕ) (a : Asked) → events_in (closing s j n a) ≡ []
no_event_closing s None n a = refl
no_event_closing s (Some j) n a = no_event_loss (lost_boot (seq s.state j.call j.boot a.answers).state j.boot a.answers)

-- a turn goes on by cuts

cut_first : (b : Bool) (c : Cell) (t : CoreStep ℕ) (s : Standing) (client total taken : ℕ) (ms more : List (Mark ℕ)) → IsLegal s (if b then mark.Cut client total taken ∷ ms else ms)
    → ((s : Standing) → IsLegal s ms → GoOn c t (standing s ms) more → GoOn c t s (ms ++ more))
    → GoOn c t (standing s (if b then mark.Cut client total taken ∷ ms else ms)) more → GoOn c t s ((if b then mark.Cut client total taken ∷ ms else ms) ++ more)
cut_first true c t s client total taken ms more legal rest h = (legal.0.in_order, legal.0.loss, rest (after s (mark.Cut client total taken)) legal.1 h)
cut_first false c t s client total taken ms more legal rest h = rest s legal h

pub cuts_go_on : (c : Cell) (t : CoreStep ℕ) (s : Standing) (rs : List Registration) (more : List (Mark ℕ)) → IsLegal s (cuts_due rs) → GoOn c t (standing s (cuts_due rs)) more → GoOn c t s (cuts_due rs ++ more)
cuts_go_on c t s [] more legal h = h
cuts_go_on c t s (r ∷ rs) more legal h =
    cut_first (is_over r) c t s r.client (r.taken + most_of r) r.taken (cuts_due rs) more legal (λ x l g. cuts_go_on c t x rs more l g) h

-- a turn that goes on may begin so

pub may_begin : (c : Cell) (t : CoreStep ℕ) (marks : List (Mark ℕ)) → GoOn c t (standing_of c) marks → MayLeave c t marks
may_begin c t [] h = h
may_begin c t (mark.Admit number who wanted d boot ∷ marks) h = absurd h.0
may_begin c t (mark.Refused number who d why held ∷ marks) h = absurd h.0
may_begin c t (mark.End number who r ∷ marks) h = absurd h.0
may_begin c t (mark.Watch number client ∷ marks) h = absurd h.0
may_begin c t (mark.Unwatch number client ∷ marks) h = absurd h.0
may_begin c t (m ∷ marks) h = h

-- the reply of a call that is done

done_of : (s : Standing) (j : Option OpenJob) (n : ℕ) (a : Asked) (r : Reply) (more : List (Mark ℕ)) → IsDoneLawful s j n a → IsTold s j a r → HasDone n r (closing s j n a ++ more)
done_of s None n a r more lawful told = absurd lawful
done_of s (Some j) n a r more lawful told = (refl, sym told)

pub has_done : (s : Standing) (n : ℕ) (a : Asked) (r : Reply) (more : List (Mark ℕ)) → IsDoneLawful s s.job n a → IsTold s s.job a r → HasDone n r (closing s s.job n a ++ more)
has_done s n a r more lawful told = done_of s s.job n a r more lawful told
