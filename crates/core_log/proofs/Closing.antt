-- A call that is done, with its listeners.
use Rattle.std.proofs.Common.{◌≡◌, ℕ, ◌+◌, ◌≤◌, List, [], ◌∷◌, ◌++◌, Bool, true, false, ◌&&◌, Option, None, Some, if◌then◌else◌, refl, sym, ap, ◌∙◌, subst, append-nil, arith}
use Rattle.std.specs.List.{list_any}
use Rattle.domain_spec.specs.Types.{Answer, Ask, Call, Refusal, Reply, State, Who}
use Rattle.domain_spec.specs.Types.answer
use Rattle.domain_spec.specs.Types.call
use Rattle.domain_spec.specs.Types.reason
use Rattle.domain_spec.specs.declared.mark.Mark.{Mark}
use Rattle.domain_spec.specs.declared.open.OpenJob.{OpenJob}
use Rattle.domain_spec.specs.declared.standing.Standing.{Standing}
use Rattle.domain_spec.specs.declared.step.CallStep.{CallStep}
use Rattle.domain_spec.specs.Asks.{first_bad, is_lost_answer}
use Rattle.domain_spec.specs.Call.{job_of}
use Rattle.domain_spec.specs.CallResult.{refused}
use Rattle.domain_spec.specs.Exit.{exit_transitions}
use Rattle.domain_spec.specs.Fold.{at_base, lost_boot}
use Rattle.domain_spec.specs.Legal.{IsLegal}
use Rattle.domain_spec.specs.Reading.{is_live}
use Rattle.domain_spec.specs.Refusals.{invalid}
use Rattle.domain_spec.specs.Sequential.{answered_step, ended_step, meets_ended, seq, tested_step}
use Rattle.domain_spec.specs.TakeUp.{meets_another, step_at}
use Rattle.domain_spec.specs.Tests.{refusal_of}
use Rattle.core_flight.specs.Below.core_plan.Along.{Asked, answered}
use Rattle.core_flight.specs.Below.core_plan.Starving.{starved}
use Rattle.core_flight.specs.Ledger as ledger
use Rattle.core_flight.specs.declared.ledger.Back.TheVariants as back
use Rattle.core_flight.specs.Ledger.{Chaptered, IsClosed, IsDoneLawful, Ledgered, closing, done_by, loss, now_in, standing_in, with_marks}
use Rattle.core_flight.specs.Told.{told_last}
use Rattle.event_queue.specs.Listening.{Listening, registrations}
use Rattle.core_log.specs.Following.{IsFollowed}
use Rattle.core_log.specs.Record.{GoesBack, IsDoneWith, IsHeld, admit_of, cuts_after, open_ends, recorded}
use Rattle.core_log.proofs.Held.{AreQuiet, held_quiet, held_told, marked_quiet, may_tell, more_more, tells}
use Rattle.core_log.proofs.Cuts.{TellLast, plain_admit, plain_done, plain_exit}

-- a call whose monitor was lost tells nothing

none_lost : (answers : List Answer) → first_bad answers ≡ None → list_any is_lost_answer answers ≡ false
none_lost [] e = refl
none_lost (answer.Ok v ∷ answers) e = none_lost answers e
none_lost (other ∷ answers) e = cc

pub bad_silent : (s : State) (c : Call) (answers : List Answer) (bad : Option Answer) → first_bad answers ≡ bad → list_any is_lost_answer answers ≡ true → (answered_step s c answers bad).transitions ≡ []
bad_silent s c answers None e lost = let none = none_lost answers e in cc
bad_silent s c answers (Some bad) e lost = refl

tested_silent : (s : State) (c : Call) (answers : List Answer) (r : Option Refusal) → list_any is_lost_answer answers ≡ true → (tested_step s c answers r).transitions ≡ []
tested_silent s c answers None lost = bad_silent s c answers (first_bad answers) refl lost
tested_silent s c answers (Some r) lost = refl

ended_silent : (s : State) (c : Call) (boot : Option ℕ) → (ended_step s c boot).transitions ≡ []
ended_silent s call.Destroy boot = refl
ended_silent s other None = refl
ended_silent s other (Some boot) = refl

of_either : (b : Bool) (x y : CallStep) → x.transitions ≡ [] → y.transitions ≡ [] → (if b then x else y).transitions ≡ []
of_either true x y e f = e
of_either false x y e f = f

lost_silent : (s : Standing) (c : Call) (boot : Option ℕ) (answers : List Answer) → list_any is_lost_answer answers ≡ true → (step_at s c boot answers).transitions ≡ []
lost_silent s c boot answers lost =
    of_either (meets_another s c) (refused s.state (invalid None)) (seq s.state c boot answers) refl
    (of_either (meets_ended s.state c boot) (ended_step s.state c boot) (tested_step s.state c answers (refusal_of s.state boot c)) (ended_silent s.state c boot)
    (tested_silent s.state c answers (refusal_of s.state boot c) lost))

some_if : (b c : Bool) (boot k : ℕ) → (if b && c then Some boot else None) ≡ Some k → b ≡ true
some_if true c boot k e = refl
some_if false c boot k e = cc

was_lost : (s : State) (boot : Option ℕ) (answers : List Answer) (k : ℕ) → lost_boot s boot answers ≡ Some k → list_any is_lost_answer answers ≡ true
was_lost s None answers k e = cc
was_lost s (Some boot) answers k e = some_if (list_any is_lost_answer answers) (is_live s boot) boot k e

-- of the marks by which a call is done the last alone tells something

done_last : (s : Standing) (j : OpenJob) (n : ℕ) (a : Asked) (lost : Option ℕ) → lost_boot (seq s.state j.call j.boot a.answers).state j.boot a.answers ≡ lost → TellLast (done_by s j n a ∷ loss lost)
done_last s j n a None e = plain_done n j.who j.call j.boot _ a.answers (step_at s j.call j.boot a.answers).reply (step_at s j.call j.boot a.answers).transitions
done_last s j n a (Some k) e = (
  plain_done n j.who j.call j.boot _ a.answers (step_at s j.call j.boot a.answers).reply (step_at s j.call j.boot a.answers).transitions,
  lost_silent s j.call j.boot a.answers (was_lost (seq s.state j.call j.boot a.answers).state j.boot a.answers k e),
  plain_exit k reason.Lost (exit_transitions reason.Lost),
)

closing_last : (s : Standing) (j : Option OpenJob) (n : ℕ) (a : Asked) → IsDoneLawful s j n a → TellLast (closing s j n a)
closing_last s None n a h = absurd h
closing_last s (Some j) n a h = done_last s j n a (lost_boot (seq s.state j.call j.boot a.answers).state j.boot a.answers) refl

pub last_after : (before marks : List (Mark ℕ)) → AreQuiet before → TellLast marks → TellLast (before ++ marks)
last_after [] marks quiet last = last
last_after (m ∷ []) [] quiet last = absurd last
last_after (m ∷ []) (k ∷ marks) quiet last = (quiet.0, quiet.1, last)
last_after (m ∷ k ∷ before) marks quiet last = (quiet.0, quiet.1, last_after (k ∷ before) marks quiet.2 last)

pub admit_quiet : (n : ℕ) (who : Who) (c : Call) (boot : Option ℕ) → AreQuiet (admit_of n who c boot ∷ [])
admit_quiet n who c boot = (plain_admit n who (job_of c) c boot, refl, tt)

-- the marks of a call that is done after these

abbrev pub done_marks : Ledgered → List (Mark ℕ) → ℕ → Asked → List (Mark ℕ)
done_marks old before n a = before ++ closing (standing_in (with_marks old.history before)) (standing_in (with_marks old.history before)).job n a

pub done_last_in : (old : Ledgered) (before : List (Mark ℕ)) (n : ℕ) (a : Asked) (left : _) (r : Reply) → AreQuiet before → IsClosed (with_marks old.history before) n a left r → TellLast (done_marks old before n a)
done_last_in old before n a left r quiet closed =
    let s : Standing = standing_in (with_marks old.history before) in
    last_after before (closing s s.job n a) quiet (closing_last s s.job n a closed.lawful)

pub done_adds : (old mid : Ledgered) (before : List (Mark ℕ)) (n : ℕ) (a : Asked) (r : Reply) → IsClosed (with_marks old.history before) n a mid.history r → mid.history ≡ with_marks old.history (done_marks old before n a)
done_adds old mid before n a r closed =
    let s : Standing = standing_in (with_marks old.history before) in
    closed.adds ∙ more_more old.history before (closing s s.job n a)

pub is_done : (old mid new : Ledgered) (ls ms : List Listening) (before : List (Mark ℕ)) (n : ℕ) (a : Asked) (r : Reply) → IsHeld old ls → AreQuiet before
    → IsClosed (with_marks old.history before) n a mid.history r → mid.course ≡ None → (now_in mid).lost ≡ None → IsFollowed mid new ls ms → IsDoneWith (recorded old ls) before n a (recorded new ms) r
is_done old mid new ls ms before n a r held quiet closed none lost by = record {
  told = (tells old mid new ls ms (done_marks old before n a) held (done_adds old mid before n a r closed) (done_last_in old before n a mid.history r quiet closed) lost by, closed.lawful, closed.told);
  none_away = by.course ∙ none;
}

pub done_tell : (old mid : Ledgered) (ls : List Listening) (before : List (Mark ℕ)) (n : ℕ) (a : Asked) (r : Reply) → IsHeld old ls → AreQuiet before → IsClosed (with_marks old.history before) n a mid.history r
    → (now_in mid).lost ≡ None → IsLegal (standing_in mid.history) (cuts_after (registrations ls) (told_last mid.history.marks))
done_tell old mid ls before n a r held quiet closed lost =
    may_tell old mid ls (done_marks old before n a) held (done_adds old mid before n a r closed) (done_last_in old before n a mid.history r quiet closed) lost

pub done_held : (old mid new : Ledgered) (ls ms : List Listening) (before : List (Mark ℕ)) (n : ℕ) (a : Asked) (r : Reply) → IsHeld old ls → AreQuiet before → IsClosed (with_marks old.history before) n a mid.history r
    → (now_in mid).lost ≡ None → open_ends (registrations ls) ≤ mid.spare → IsFollowed mid new ls ms → IsHeld new ms
done_held old mid new ls ms before n a r held quiet closed lost room by =
    held_told old mid new ls ms (done_marks old before n a) held (done_adds old mid before n a r closed) (done_last_in old before n a mid.history r quiet closed) lost room by

pub still_fits : (k e a b : ℕ) → k + e ≤ a → a ≤ b + k → e ≤ b
still_fits k e a b le more = omega (arith, le, more)

pub still_fits_one : (e a b : ℕ) → 1 + e ≤ a → b + 1 ≡ a → e ≤ b
still_fits_one e a b le more = omega (arith, le, more)

-- a call that was answered

pub none_added : (h : Chaptered) → h ≡ with_marks h []
none_added h = ap (λ (ms : List (Mark ℕ)). record h { marks = ms }) (sym (append-nil h.marks))

closed_now : (h left : Chaptered) (n : ℕ) (a : Asked) (r : Reply) → IsClosed h n a left r → IsClosed (with_marks h []) n a left r
closed_now h left n a r closed = subst (λ (g : Chaptered). IsClosed g n a left r) (none_added h) closed

pub back_tell : (course : Option Asked) (old mid : Ledgered) (ls : List Listening) (n : ℕ) (x : Answer) (r : Reply) → IsHeld old ls → ledger.GoesBack n course x old mid (back.Done r) → (now_in mid).lost ≡ None
    → IsLegal (standing_in mid.history) (cuts_after (registrations ls) (told_last mid.history.marks))
back_tell None old mid ls n x r held h lost = absurd h
back_tell (Some a) old mid ls n x r held h lost = done_tell old mid ls [] n _ r held tt (closed_now old.history mid.history n _ r h.1) lost

pub back_held : (course : Option Asked) (old mid new : Ledgered) (ls ms : List Listening) (n : ℕ) (x : Answer) (r : Reply) → IsHeld old ls → ledger.GoesBack n course x old mid (back.Done r) → (now_in mid).lost ≡ None
    → open_ends (registrations ls) ≤ mid.spare → IsFollowed mid new ls ms → IsHeld new ms
back_held None old mid new ls ms n x r held h lost room by = absurd h
back_held (Some a) old mid new ls ms n x r held h lost room by = done_held old mid new ls ms [] n _ r held tt (closed_now old.history mid.history n _ r h.1) lost room by

pub back_done : (course : Option Asked) (old mid new : Ledgered) (ls ms : List Listening) (n : ℕ) (x : Answer) (r : Reply) → IsHeld old ls → ledger.GoesBack n course x old mid (back.Done r) → (now_in mid).lost ≡ None
    → IsFollowed mid new ls ms → GoesBack n course x (recorded old ls) (recorded new ms) (back.Done r)
back_done None old mid new ls ms n x r held h lost by = absurd h
back_done (Some a) old mid new ls ms n x r held h lost by = (h.0, is_done old mid new ls ms [] n (starved h.0 (answered a x)) r held tt (closed_now old.history mid.history n (starved h.0 (answered a x)) r h.1) h.2 lost by)

pub back_away : (course : Option Asked) (old new : Ledgered) (ls : List Listening) (n : ℕ) (x : Answer) (y : Ask) → IsHeld old ls → ledger.GoesBack n course x old new (back.Away y)
    → IsLegal (at_base new.history.base) new.history.marks → GoesBack n course x (recorded old ls) (recorded new ls) (back.Away y)
back_away None old new ls n x y held h legal = absurd h
back_away (Some a) old new ls n x y held h legal = (
  h.0,
  record { marked = marked_quiet old new ls [] held tt (h.1.stays ∙ none_added old.history) legal; listeners = refl; away = h.1.away; asks = h.1.asks },
)

pub away_held : (course : Option Asked) (old new : Ledgered) (ls : List Listening) (n : ℕ) (x : Answer) (y : Ask) → IsHeld old ls → ledger.GoesBack n course x old new (back.Away y)
    → open_ends (registrations ls) ≤ new.spare → IsHeld new ls
away_held None old new ls n x y held h ends = absurd h
away_held (Some a) old new ls n x y held h ends = held_quiet old new ls [] held tt (h.1.stays ∙ none_added old.history) ends
