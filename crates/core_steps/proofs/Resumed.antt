-- What the turn of an answer did: the end of a boot first, then the call or the phase, then the held events.
use Rattle.std.proofs.Common.{◌≡◌, ◌≤◌, ◌+◌, ℕ, List, [], Bool, true, false, Option, None, Some, refl, sym, ap, ◌∙◌, subst, arith}
use Rattle.domain_spec.specs.Types.{Answer, Ask, EndReason, Reply}
use Rattle.domain_spec.specs.Types.answer
use Rattle.domain_spec.specs.declared.open.OpenJob.{OpenJob}
use Rattle.domain_spec.specs.declared.standing.Standing.{Standing}
use Rattle.domain_spec.specs.Asks.{is_ended_answer}
use Rattle.domain_spec.specs.Cell.{HeldEvent}
use Rattle.domain_spec.specs.Reading.{is_live}
use Rattle.core_log.specs.Below.core_plan.Along.{Asked}
use Rattle.core_log.specs.Below.core_flight.Away.{WaitsWith}
use Rattle.core_log.specs.Below.core_flight.Ledger.{MayAnswer}
use Rattle.core_log.specs.Below.core_flight.declared.ledger.Back.TheVariants as back
use Rattle.core_log.specs.Below.core_flight.declared.phase_out.Step.{Step}
use Rattle.core_log.specs.Record.{GoesBack, Recorded, force_of}
use Rattle.core_log.proofs.Joining.{force_after}
use Rattle.core_steps.specs.Answering.{Answers, IsNumbered}
use Rattle.core_steps.specs.Applying.{Applies}
use Rattle.core_steps.specs.Ending.{EndsCarried, EndsFirst, EndsLive, boot_of}
use Rattle.core_steps.specs.Rooms.{marks_needed}
use Rattle.core_steps.proofs.MayAnswer.{not_ended_away}
use Rattle.core_steps.proofs.Staying.{applies_course}

-- the end of a boot leaves the course of its call

live_course : (b : Bool) (boot : ℕ) (why : EndReason) (old mid : Recorded) → EndsLive b boot why old mid → mid.course ≡ old.course
live_course true boot why old mid h = h.1
live_course false boot why old mid h = ap (λ (r : Recorded). r.course) h

carried_course : (boot : Option ℕ) (why : EndReason) (old mid : Recorded) → EndsCarried boot why old mid → mid.course ≡ old.course
carried_course None why old mid h = ap (λ (r : Recorded). r.course) h
carried_course (Some boot) why old mid h = live_course (is_live (force_of old).state boot) boot why old mid h

first_course : (x : Answer) (old mid : Recorded) → EndsFirst x old mid → mid.course ≡ old.course
first_course (answer.Ended why) old mid h = carried_course (boot_of (force_of old).job) why old mid h
first_course other old mid h = ap (λ (r : Recorded). r.course) h

-- the call is done

done_by : (o : Option Asked) (old mid done new : Recorded) (n : ℕ) (x : Answer) (held : List HeldEvent) (r : Reply) → EndsFirst x old mid → GoesBack n o x mid done (back.Done r) → (force_of done).lost ≡ None
    → WaitsWith (force_of done) (force_of done).job done.course → Applies held done new → Answers n o x held old new (back.Done r)
done_by None old mid done new n x held r first h lost waits applies = absurd h
done_by (Some a) old mid done new n x held r first h lost waits applies = (mid, first, h.0, done, h.1, record { lost = lost; waits = waits }, applies)

pub done_answers : (old mid done new : Recorded) (n : ℕ) (x : Answer) (held : List HeldEvent) (r : Reply) → EndsFirst x old mid → GoesBack n mid.course x mid done (back.Done r) → (force_of done).lost ≡ None
    → WaitsWith (force_of done) (force_of done).job done.course → Applies held done new → Answers n old.course x held old new (back.Done r)
done_answers old mid done new n x held r first h lost waits applies =
    done_by old.course old mid done new n x held r first (subst (λ (o : Option Asked). GoesBack n o x mid done (back.Done r)) (first_course x old mid first) h) lost waits applies

none_done : (o : Option Asked) (mid done : Recorded) (n : ℕ) (x : Answer) (r : Reply) → GoesBack n o x mid done (back.Done r) → done.course ≡ None
none_done None mid done n x r h = absurd h
none_done (Some a) mid done n x r h = h.1.none_away

balance : (done new : Recorded) (held : List HeldEvent) (spare between before was now : ℕ) → done.course ≡ None → Applies held done new → spare + was ≤ between + before → between ≤ done.spare + 2 → done.spare + now ≤ new.spare + was
    → spare + (marks_needed new.course + now) ≤ new.spare + (2 + before)
balance done new held spare between before was now none applies one two three =
    subst (λ (k : ℕ). spare + (k + now) ≤ new.spare + (2 + before)) (sym (ap marks_needed (applies_course held done new applies ∙ none))) (omega (arith, one, two, three))

pub done_balance : (mid done new : Recorded) (n : ℕ) (x : Answer) (held : List HeldEvent) (r : Reply) (spare before was now : ℕ) → GoesBack n mid.course x mid done (back.Done r) → Applies held done new
    → spare + was ≤ mid.spare + before → mid.spare ≤ done.spare + 2 → done.spare + now ≤ new.spare + was → spare + (marks_needed new.course + now) ≤ new.spare + (2 + before)
done_balance mid done new n x held r spare before was now h applies one two three =
    balance done new held spare mid.spare before was now (none_done mid.course mid done n x r h) applies one two three

-- the phase is done

phased_by : (o : Option Asked) (old mid done new : Recorded) (n : ℕ) (x : Answer) (held : List HeldEvent) (st : Step) → EndsFirst x old mid → GoesBack n o x mid done (back.Phased st) → (force_of done).lost ≡ None
    → WaitsWith (force_of done) (force_of done).job done.course → Applies held done new → Answers n o x held old new (back.Phased st)
phased_by None old mid done new n x held st first h lost waits applies = absurd h
phased_by (Some a) old mid done new n x held st first h lost waits applies = (mid, first, h.0, done, h.1, record { lost = lost; waits = waits }, applies)

pub phased_answers : (old mid done new : Recorded) (n : ℕ) (x : Answer) (held : List HeldEvent) (st : Step) → EndsFirst x old mid → GoesBack n mid.course x mid done (back.Phased st) → (force_of done).lost ≡ None
    → WaitsWith (force_of done) (force_of done).job done.course → Applies held done new → Answers n old.course x held old new (back.Phased st)
phased_answers old mid done new n x held st first h lost waits applies =
    phased_by old.course old mid done new n x held st first (subst (λ (o : Option Asked). GoesBack n o x mid done (back.Phased st)) (first_course x old mid first) h) lost waits applies

none_phased : (o : Option Asked) (mid done : Recorded) (n : ℕ) (x : Answer) (st : Step) → GoesBack n o x mid done (back.Phased st) → done.course ≡ None
none_phased None mid done n x st h = absurd h
none_phased (Some a) mid done n x st h = h.1.none_away

pub phased_balance : (mid done new : Recorded) (n : ℕ) (x : Answer) (held : List HeldEvent) (st : Step) (spare before was now : ℕ) → GoesBack n mid.course x mid done (back.Phased st) → Applies held done new
    → spare + was ≤ mid.spare + before → mid.spare ≤ done.spare + 2 → done.spare + now ≤ new.spare + was → spare + (marks_needed new.course + now) ≤ new.spare + (2 + before)
phased_balance mid done new n x held st spare before was now h applies one two three =
    balance done new held spare mid.spare before was now (none_phased mid.course mid done n x st h) applies one two three

-- it asks on

pub may_numbered : (s : Standing) (j : Option OpenJob) (o : Option Asked) (n : ℕ) (x : Answer) → MayAnswer s j o n x → IsNumbered j n
may_numbered s None o n x h = absurd h
may_numbered s (Some j) None n x h = absurd h
may_numbered s (Some j) (Some a) n x h = h.0

away_by : (o : Option Asked) (old mid new : Recorded) (n : ℕ) (x : Answer) (held : List HeldEvent) (y : Ask) → EndsFirst x old mid → IsNumbered (force_of mid).job n → GoesBack n o x mid new (back.Away y)
    → Answers n o x held old new (back.Away y)
away_by None old mid new n x held y first numbered h = absurd h
away_by (Some a) old mid new n x held y first numbered h =
    (mid, first, h.0, h.1, subst (λ (s : Standing). IsNumbered s.job n) (sym (force_after mid new [] h.1.marked)) numbered)

pub away_answers : (old mid new : Recorded) (n : ℕ) (x : Answer) (held : List HeldEvent) (y : Ask) → EndsFirst x old mid → MayAnswer (force_of mid) (force_of mid).job mid.course n x → GoesBack n mid.course x mid new (back.Away y)
    → Answers n old.course x held old new (back.Away y)
away_answers old mid new n x held y first may h =
    away_by old.course old mid new n x held y first (may_numbered (force_of mid) (force_of mid).job mid.course n x may)
    (subst (λ (o : Option Asked). GoesBack n o x mid new (back.Away y)) (first_course x old mid first) h)

pub away_not_ended : (o : Option Asked) (mid new : Recorded) (n : ℕ) (x : Answer) (y : Ask) → GoesBack n o x mid new (back.Away y) → WaitsWith (force_of new) (force_of new).job new.course → is_ended_answer x ≡ false
away_not_ended None mid new n x y h waits = absurd h
away_not_ended (Some a) mid new n x y h waits = not_ended_away new (force_of mid).job a x h.0 h.1.away waits
