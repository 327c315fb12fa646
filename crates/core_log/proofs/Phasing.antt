-- A phase that is done, with its listeners, and how an operation begins.
use Rattle.std.proofs.Common.{◌≡◌, ℕ, ◌≤◌, List, [], ◌∷◌, ◌++◌, Option, None, Some, refl, ap, ◌∙◌, subst}
use Rattle.domain_spec.specs.Types.{Answer, Call, Who}
use Rattle.domain_spec.specs.Types.job
use Rattle.domain_spec.specs.Types.reason
use Rattle.domain_spec.specs.declared.mark.Mark.{Mark}
use Rattle.domain_spec.specs.declared.mark.Mark.TheVariants as mark
use Rattle.domain_spec.specs.declared.open.OpenOperation.{OpenOperation}
use Rattle.domain_spec.specs.declared.standing.Standing.{Standing}
use Rattle.domain_spec.specs.Exit.{exit_transitions}
use Rattle.domain_spec.specs.Fold.{lost_boot}
use Rattle.domain_spec.specs.Legal.{IsLegal}
use Rattle.domain_spec.specs.Phase.{phase_of}
use Rattle.domain_spec.specs.Reading.{live_boot}
use Rattle.core_flight.specs.Below.core_plan.Along.{Asked}
use Rattle.core_flight.specs.Below.core_plan.Starving.{starved}
use Rattle.core_flight.specs.Below.core_plan.AwayLaws.{made}
use Rattle.core_flight.specs.Below.core_plan.PhaseCopying.{with_answer}
use Rattle.core_flight.proofs.Silent.{lost_phase_is_silent}
use Rattle.core_flight.specs.Below.core_chapter.Closing.{due_of}
use Rattle.core_flight.specs.Ledger as ledger
use Rattle.core_flight.specs.Ledger.{Chaptered, IsPhaseClosed, IsPhaseLawful, Ledgered, loss, now_in, phase_closing, phased_by, standing_in, step_in, with_marks}
use Rattle.core_flight.specs.Operations.{nested_in}
use Rattle.core_flight.specs.Told.{told_last}
use Rattle.core_flight.specs.declared.ledger.Back.TheVariants as back
use Rattle.core_flight.specs.declared.phase_out.Step.{Step}
use Rattle.event_queue.specs.Listening.{Listening, registrations}
use Rattle.core_log.specs.Following.{IsFollowed}
use Rattle.core_log.specs.Record.{GoesBack, IsHeld, IsPhasedWith, admit_of, cuts_after, open_ends, recorded}
use Rattle.core_log.proofs.Closing.{last_after, none_added}
use Rattle.core_log.proofs.Held.{AreQuiet, held_told, may_tell, more_more, tells}
use Rattle.core_log.proofs.Cuts.{TellLast, plain_admit, plain_exit, plain_phase, plain_start, plain_take_up}

-- of the marks by which a phase is done the last alone tells something

phase_last : (s : Standing) (o : OpenOperation) (n : ℕ) (a : Asked) (lost : Option ℕ) → lost_boot (phase_of s.state o a.answers).state o.boot a.answers ≡ lost → TellLast (phased_by s o n a ∷ loss lost)
phase_last s o n a None e = plain_phase n o.who (due_of o.outcome) (made a) a.answers (phase_of s.state o a.answers).outcome (phase_of s.state o a.answers).transitions
phase_last s o n a (Some k) e = (
  plain_phase n o.who (due_of o.outcome) (made a) a.answers (phase_of s.state o a.answers).outcome (phase_of s.state o a.answers).transitions,
  lost_phase_is_silent s.state o a.answers k e,
  plain_exit k reason.Lost (exit_transitions reason.Lost),
)

phases_last : (s : Standing) (q : Option OpenOperation) (n : ℕ) (a : Asked) → IsPhaseLawful s q n a → TellLast (phase_closing s q n a)
phases_last s None n a h = absurd h
phases_last s (Some o) n a h = phase_last s o n a (lost_boot (phase_of s.state o a.answers).state o.boot a.answers) refl

-- its Admit tells nothing
pub nested_quiet : (s : Standing) (q : Option OpenOperation) (n : ℕ) (who : Who) → AreQuiet (nested_in s q n who)
nested_quiet s None n who = tt
nested_quiet s (Some o) n who = (plain_admit n who job.Nested o.call (live_boot s.state), refl, tt)

-- the marks of a phase that is done after these

abbrev pub phase_marks : Ledgered → List (Mark ℕ) → ℕ → Asked → List (Mark ℕ)
phase_marks old before n a = before ++ phase_closing (standing_in (with_marks old.history before)) (standing_in (with_marks old.history before)).operation n a

last_in : (old : Ledgered) (before : List (Mark ℕ)) (n : ℕ) (a : Asked) (left : Chaptered) (st : Step) → AreQuiet before → IsPhaseClosed (with_marks old.history before) n a left st → TellLast (phase_marks old before n a)
last_in old before n a left st quiet closed =
    let s : Standing = standing_in (with_marks old.history before) in
    last_after before (phase_closing s s.operation n a) quiet (phases_last s s.operation n a closed.lawful)

adds : (old mid : Ledgered) (before : List (Mark ℕ)) (n : ℕ) (a : Asked) (st : Step) → IsPhaseClosed (with_marks old.history before) n a mid.history st → mid.history ≡ with_marks old.history (phase_marks old before n a)
adds old mid before n a st closed =
    let s : Standing = standing_in (with_marks old.history before) in
    closed.adds ∙ more_more old.history before (phase_closing s s.operation n a)

pub is_phased : (old mid new : Ledgered) (ls ms : List Listening) (before : List (Mark ℕ)) (n : ℕ) (a : Asked) (st : Step) → IsHeld old ls → AreQuiet before
    → IsPhaseClosed (with_marks old.history before) n a mid.history st → mid.course ≡ None → (now_in mid).lost ≡ None → IsFollowed mid new ls ms → IsPhasedWith (recorded old ls) before n a (recorded new ms) st
is_phased old mid new ls ms before n a st held quiet closed none lost by = record {
  told = (tells old mid new ls ms (phase_marks old before n a) held (adds old mid before n a st closed) (last_in old before n a mid.history st quiet closed) lost by, closed.lawful);
  leads = closed.leads ∙ ap (λ (h : Chaptered). step_in (standing_in h).operation) closed.adds;
  none_away = by.course ∙ none;
}

pub phase_tell : (old mid : Ledgered) (ls : List Listening) (before : List (Mark ℕ)) (n : ℕ) (a : Asked) (st : Step) → IsHeld old ls → AreQuiet before → IsPhaseClosed (with_marks old.history before) n a mid.history st
    → (now_in mid).lost ≡ None → IsLegal (standing_in mid.history) (cuts_after (registrations ls) (told_last mid.history.marks))
phase_tell old mid ls before n a st held quiet closed lost =
    may_tell old mid ls (phase_marks old before n a) held (adds old mid before n a st closed) (last_in old before n a mid.history st quiet closed) lost

pub phase_held : (old mid new : Ledgered) (ls ms : List Listening) (before : List (Mark ℕ)) (n : ℕ) (a : Asked) (st : Step) → IsHeld old ls → AreQuiet before → IsPhaseClosed (with_marks old.history before) n a mid.history st
    → (now_in mid).lost ≡ None → open_ends (registrations ls) ≤ mid.spare → IsFollowed mid new ls ms → IsHeld new ms
phase_held old mid new ls ms before n a st held quiet closed lost room by =
    held_told old mid new ls ms (phase_marks old before n a) held (adds old mid before n a st closed) (last_in old before n a mid.history st quiet closed) lost room by

-- a phase that was answered

closed_now : (h left : Chaptered) (n : ℕ) (a : Asked) (st : Step) → IsPhaseClosed h n a left st → IsPhaseClosed (with_marks h []) n a left st
closed_now h left n a st closed = subst (λ (g : Chaptered). IsPhaseClosed g n a left st) (none_added h) closed

pub back_phase_tell : (course : Option Asked) (old mid : Ledgered) (ls : List Listening) (n : ℕ) (x : Answer) (st : Step) → IsHeld old ls → ledger.GoesBack n course x old mid (back.Phased st) → (now_in mid).lost ≡ None
    → IsLegal (standing_in mid.history) (cuts_after (registrations ls) (told_last mid.history.marks))
back_phase_tell None old mid ls n x st held h lost = absurd h
back_phase_tell (Some a) old mid ls n x st held h lost =
    phase_tell old mid ls [] n (starved h.0 (with_answer a x)) st held tt (closed_now old.history mid.history n (starved h.0 (with_answer a x)) st h.1) lost

pub back_phase_held : (course : Option Asked) (old mid new : Ledgered) (ls ms : List Listening) (n : ℕ) (x : Answer) (st : Step) → IsHeld old ls → ledger.GoesBack n course x old mid (back.Phased st) → (now_in mid).lost ≡ None
    → open_ends (registrations ls) ≤ mid.spare → IsFollowed mid new ls ms → IsHeld new ms
back_phase_held None old mid new ls ms n x st held h lost room by = absurd h
back_phase_held (Some a) old mid new ls ms n x st held h lost room by =
    phase_held old mid new ls ms [] n (starved h.0 (with_answer a x)) st held tt (closed_now old.history mid.history n (starved h.0 (with_answer a x)) st h.1) lost room by

pub back_phased : (course : Option Asked) (old mid new : Ledgered) (ls ms : List Listening) (n : ℕ) (x : Answer) (st : Step) → IsHeld old ls → ledger.GoesBack n course x old mid (back.Phased st) → (now_in mid).lost ≡ None
    → IsFollowed mid new ls ms → GoesBack n course x (recorded old ls) (recorded new ms) (back.Phased st)
back_phased None old mid new ls ms n x st held h lost by = absurd h
back_phased (Some a) old mid new ls ms n x st held h lost by =
    (h.0, is_phased old mid new ls ms [] n (starved h.0 (with_answer a x)) st held tt (closed_now old.history mid.history n (starved h.0 (with_answer a x)) st h.1) h.2 lost by)

-- an operation that begins, or is taken up, tells nothing

pub start_quiet : (n : ℕ) (who : Who) (c : Call) (boot : Option ℕ) → AreQuiet (admit_of n who c boot ∷ mark.Start n who c boot ∷ [])
start_quiet n who c boot = (plain_admit n who _ c boot, refl, (plain_start n who c boot, refl, tt))

pub taken_quiet : (n : ℕ) (who : Who) (c : Call) (boot : Option ℕ) → AreQuiet (admit_of n who c boot ∷ mark.TakeUp n who c ∷ [])
taken_quiet n who c boot = (plain_admit n who _ c boot, refl, (plain_take_up n who c, refl, tt))

pub two_added : (h g : Chaptered) (m k : Mark ℕ) → g ≡ with_marks (with_marks h (m ∷ [])) (k ∷ []) → g ≡ with_marks h (m ∷ k ∷ [])
two_added h g m k e = e ∙ more_more h (m ∷ []) (k ∷ [])
