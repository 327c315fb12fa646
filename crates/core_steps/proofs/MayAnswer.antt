-- What an open call may be answered once the end of its boot is marked.
use Rattle.std.proofs.Common.{inl, inr, ◌≡◌, ℕ, ◌==◌, List, [], ◌∷◌, ◌++◌, map, Bool, true, false, not, ◌&&◌, ◌||◌, Option, None, Some, if◌then◌else◌, refl, sym, ap, ◌∙◌, subst, arith, append_assoc, replicate}
use Rattle.std.proofs.lemmas.Bool.Decides.{nat_tests}
use Rattle.std.specs.List.{list_any}
use Rattle.domain_spec.specs.Types.{Answer, Call, EndReason, Job, Live, State}
use Rattle.domain_spec.specs.Types.answer
use Rattle.domain_spec.specs.Types.job
use Rattle.domain_spec.specs.declared.mark.Mark.{Mark}
use Rattle.domain_spec.specs.declared.mark.Mark.TheVariants as mark
use Rattle.domain_spec.specs.declared.open.OpenJob.{OpenJob}
use Rattle.domain_spec.specs.declared.open.OpenOperation.{OpenOperation}
use Rattle.domain_spec.specs.declared.standing.Standing.{Standing}
use Rattle.domain_spec.specs.Asks.{asks_made, is_ended_answer}
use Rattle.domain_spec.specs.Call.{is_on_stored}
use Rattle.domain_spec.specs.CanTake.{IsAway as IsAwayIn}
use Rattle.domain_spec.specs.Cell.{Cell}
use Rattle.domain_spec.specs.Exit.{exit_transitions}
use Rattle.domain_spec.specs.Fold.{after, carries, job_at_exit}
use Rattle.domain_spec.specs.Lawful.{IsUnsentUntilMade}
use Rattle.domain_spec.specs.Reading.{boot_in, carries_ended, is_boot_in, is_live, live_boot, live_of}
use Rattle.domain_spec.specs.Sequential.{meets_ended}
use Rattle.core_log.specs.Below.core_plan.Along.{Asked, answered}
use Rattle.core_log.specs.Below.core_plan.Starving.{starved}
use Rattle.core_log.proofs.Below.core_flight.Turned.{starved_find_none}
use Rattle.core_log.specs.Below.core_plan.Away.{IsAway, IsOfKind, IsOnGuest, NoneSince}
use Rattle.core_log.specs.Below.core_flight.Away.{IsPhaseWaiting, WaitsWith}
use Rattle.core_log.specs.Below.core_flight.Ledger.{CanAnswerAs, MayAnswer, answered_in}
use Rattle.core_log.specs.Below.core_flight.Told.{told_last}
use Rattle.event_queue.specs.Listening.{registrations}
use Rattle.domain_spec.specs.Registrations.{with_pending}
use Rattle.core_log.specs.Record.{Recorded, force_of, with_cuts}
use Rattle.core_log.proofs.Joining.{force_after}
use Rattle.core_steps.specs.Answering.{IsNumbered, MayBeAnswered, MayBeAnsweredAs}
use Rattle.core_steps.specs.Ending.{EndsCarried, EndsFirst, EndsLive, boot_of}
use Rattle.core_steps.proofs.Admitting.{not_nested}
use Rattle.core_steps.proofs.Answered.{one_more}
use Rattle.core_steps.proofs.Applied.{StaysOpen, cuts_stay}

on_guest : (b : Bool) (s : State) (j : OpenJob) → b ≡ false → IsOfKind b s j → IsOnGuest s j
on_guest true s j e h = cc
on_guest false s j e h = h

none_live : (l : Option Live) (boot : ℕ) → boot_in l ≡ None → is_boot_in l boot ≡ false
none_live None boot e = refl
none_live (Some l) boot e = cc

-- the boot is not live, so the call meets its end
meets : (s : State) (d : Call) (carried : Option ℕ) (boot : ℕ) → is_on_stored d ≡ false → carried ≡ Some boot → is_live s boot ≡ false → meets_ended s d carried ≡ true
meets s d carried boot stored is gone =
    ap (λ (o : Option ℕ). not (is_on_stored d) && carries_ended s o) is
    ∙ ap (λ (b : Bool). not b && not (is_live s boot)) stored ∙ ap not gone

never : (b : Bool) (P : Type 0) → b ≡ true → b ≡ false → P
never true P e f = cc
never false P e f = cc

-- a phase, or a call that is not on the stored definition
abbrev NotOnStored : Job → OpenJob → Type 0
NotOnStored job.Nested j = Unit {0}
NotOnStored other j = is_on_stored j.call ≡ false

not_on_stored : (w : Job) (s : Standing) (j : OpenJob) (a : Asked) (why : EndReason) → MayBeAnsweredAs w s j a (answer.Ended why) → NotOnStored w j
not_on_stored job.Nested s j a why may = tt
not_on_stored other s j a why may = may.1 refl

-- where the boot has ended any answer may come
ended_any : (w : Job) (s : Standing) (j : OpenJob) (a : Asked) (x : Answer) (boot : ℕ) → MayBeAnsweredAs w s j a x → NotOnStored w j → j.boot ≡ Some boot → is_live s.state boot ≡ false → CanAnswerAs s w j a x
ended_any job.Nested s j a x boot may stored carried gone =
    λ live. never (carries_ended s.state j.boot) (is_ended_answer x ≡ false) (ap (λ (o : Option ℕ). carries_ended s.state o) carried ∙ ap not gone) live
ended_any other s j a x boot may stored carried gone =
    record { unsent = may.0; ended_first = λ live. never (meets_ended s.state j.call j.boot) (is_ended_answer x ≡ false) (meets s.state j.call j.boot boot stored carried gone) live }

-- the open call once the end of its boot was marked

record SameCall (j k : OpenJob) : Type 0 where
  call : k.call ≡ j.call
  boot : k.boot ≡ j.boot
  number : k.number ≡ j.number
  job : k.job ≡ j.job

same_one : (j k : OpenJob) → j ≡ k → SameCall j k
same_one j k e = record {
  call = ap (λ (x : OpenJob). x.call) (sym e);
  boot = ap (λ (x : OpenJob). x.boot) (sym e);
  number = ap (λ (x : OpenJob). x.number) (sym e);
  job = ap (λ (x : OpenJob). x.job) (sym e);
}

same_by : (b : Bool) (s : State) (j k : OpenJob) → Some (if b then record j { before = Some s } else j) ≡ Some k → SameCall j k
same_by true s j k e =
    let same : record j { before = Some s } ≡ k = cc in
    let one = same_one (record j { before = Some s }) k same in record { call = one.call; boot = one.boot; number = one.number; job = one.job }
same_by false s j k e = let same : j ≡ k = cc in same_one j k same

since_by : (b : Bool) (s : State) (j k : OpenJob) (now : State) → b ≡ true → Some (if b then record j { before = Some s } else j) ≡ Some k → NoneSince k.before now → live_boot now ≡ None
since_by true s j k now e f since = let same : record j { before = Some s } ≡ k = cc in subst (λ (x : OpenJob). NoneSince x.before now) (sym same) since
since_by false s j k now e f since = cc

same_boot : (n : ℕ) → (n == n) ≡ true
same_boot n = grind (arith, nat_tests)

carried_so : (o : Option ℕ) (boot : ℕ) → o ≡ Some boot → carries o boot ≡ true
carried_so None boot e = cc
carried_so (Some b) boot e = let is : b ≡ boot = cc in ap (λ (k : ℕ). k == boot) is ∙ same_boot boot

-- it is on a guest

guest_phase : (s : State) (o : Option OpenOperation) (j : OpenJob) (a : Asked) → IsPhaseWaiting s o j a → IsOnGuest s j
guest_phase s None j a h = absurd h
guest_phase s (Some o) j a h = record { boot = h.boot; carried = h.carried; was_live = h.was_live; ended = h.ended }

guest_call : (w : Job) (s : State) (o : Option OpenOperation) (j : OpenJob) (a : Asked) → j.job ≡ w → NotOnStored w j → IsAway s o j a → IsOnGuest s j
guest_call job.Nested s o j a e stored h = absurd (not_nested j.call (sym h.own ∙ e))
guest_call other s o j a e stored h = on_guest (is_on_stored j.call) s j stored h.kind

kind_in : (s : Standing) (j : OpenJob) (o : Option Asked) → NotOnStored j.job j → WaitsWith s (Some j) o → IsOnGuest s.state j
kind_in s j None stored h = absurd h
kind_in s j (Some a) stored (inl h) = guest_call j.job s.state s.operation j a refl stored h
kind_in s j (Some a) stored (inr h) = guest_phase s.state s.operation j a h

stored_moves : (w : Job) (j k : OpenJob) → k.call ≡ j.call → NotOnStored w j → NotOnStored w k
stored_moves job.Nested j k e h = tt
stored_moves other j k e h = ap is_on_stored e ∙ h

may_moves : (w : Job) (s t : Standing) (j k : OpenJob) (a : Asked) (x : Answer) → t.operation ≡ s.operation → SameCall j k → MayBeAnsweredAs w s j a x → MayBeAnsweredAs w t k a x
may_moves job.Nested s t j k a x same kept may = tt
may_moves other s t j k a x same kept may = (
  subst (λ (op : Option OpenOperation). IsUnsentUntilMade op k.boot (asks_made a.plan (a.answers ++ x ∷ [])) (a.answers ++ x ∷ [])) (sym same)
      (subst (λ (b : Option ℕ). IsUnsentUntilMade s.operation b (asks_made a.plan (a.answers ++ x ∷ [])) (a.answers ++ x ∷ [])) (sym kept.boot) may.0),
  λ e. ap is_on_stored kept.call ∙ may.1 e,
)

after_exit : (s t : Standing) (j k : OpenJob) (boot : ℕ) (a : Asked) (x : Answer) (o : Option Asked) → j.boot ≡ Some boot → t.operation ≡ s.operation
    → job_at_exit s.state boot (Some j) ≡ Some k → MayBeAnsweredAs j.job s j a x → NotOnStored j.job j → WaitsWith t (Some k) o → CanAnswerAs t k.job k a x
after_exit s t j k boot a x o carried same is may stored waits =
    let kept : SameCall j k = same_by (carries j.boot boot) s.state j k is in
    let stored_too : NotOnStored k.job k = subst (λ (w : Job). NotOnStored w k) (sym kept.job) (stored_moves j.job j k kept.call stored) in
    let may_too : MayBeAnsweredAs k.job t k a x = subst (λ (w : Job). MayBeAnsweredAs w t k a x) (sym kept.job) (may_moves j.job s t j k a x same kept may) in
    let guest : IsOnGuest t.state k = kind_in t k o stored_too waits in
    let none : live_boot t.state ≡ None = since_by (carries j.boot boot) s.state j k t.state (carried_so j.boot boot carried) is guest.ended in
    ended_any k.job t k a x boot may_too stored_too (kept.boot ∙ carried) (none_live (live_of t.state) boot none)

-- what the caller knows of the open call

pub numbered_by : (c : Cell) (j : Option OpenJob) (n : ℕ) → IsAwayIn c j n → IsNumbered j n
numbered_by c None n h = h
numbered_by c (Some j) n h = h.0

not_ended_as : (w : Job) (s : Standing) (j : OpenJob) (a : Asked) (x : Answer) → is_ended_answer x ≡ false → MayBeAnsweredAs w s j a x → CanAnswerAs s w j a x
not_ended_as job.Nested s j a x e h = λ live. e
not_ended_as other s j a x e h = record { unsent = h.0; ended_first = λ live. e }

not_ended : (s : Standing) (j : Option OpenJob) (o : Option Asked) (n : ℕ) (x : Answer) → IsNumbered j n → is_ended_answer x ≡ false → MayBeAnswered s j o x → MayAnswer s j o n x
not_ended s None o n x numbered e h = absurd numbered
not_ended s (Some j) None n x numbered e h = absurd h
not_ended s (Some j) (Some a) n x numbered e h = (numbered, not_ended_as j.job s j a x e h)

live_ended : (b : Bool) (old mid : Recorded) (j : OpenJob) (a : Asked) (boot : ℕ) (why : EndReason) (n : ℕ) → (force_of old).job ≡ Some j → old.course ≡ Some a → j.boot ≡ Some boot → is_live (force_of old).state boot ≡ b
    → n ≡ j.number → MayBeAnsweredAs j.job (force_of old) j a (answer.Ended why) → EndsLive b boot why old mid → WaitsWith (force_of mid) (force_of mid).job mid.course
    → MayAnswer (force_of mid) (force_of mid).job mid.course n (answer.Ended why)
live_ended true old mid j a boot why n is away carried live numbered may h waits =
    let m : Mark ℕ = mark.Exit boot why (exit_transitions why) in
    let there : StaysOpen (after (force_of old) m) (force_of mid) =
    subst (λ (s : Standing). StaysOpen (after (force_of old) m) s) (sym (force_after old mid (with_cuts old.listeners (m ∷ [])) h.0.marked)) (cuts_stay (after (force_of old) m) (map (with_pending (told_last (m ∷ []))) (registrations old.listeners))) in
    let k : OpenJob = if carries j.boot boot then record j { before = Some (force_of old).state } else j in
    let job : (force_of mid).job ≡ Some k = there.job ∙ ap (λ (o : Option OpenJob). job_at_exit (force_of old).state boot o) is in
    let kept : SameCall j k = same_by (carries j.boot boot) (force_of old).state j k refl in
    subst (λ (o : Option OpenJob). MayAnswer (force_of mid) o mid.course n (answer.Ended why)) (sym job)
    (subst (λ (o : Option Asked). MayAnswer (force_of mid) (Some k) o n (answer.Ended why)) (sym (h.1 ∙ away)) (
      numbered ∙ sym kept.number,
      after_exit (force_of old) (force_of mid) j k boot a (answer.Ended why) mid.course carried there.operation refl may (not_on_stored j.job (force_of old) j a why may)
          (subst (λ (o : Option OpenJob). WaitsWith (force_of mid) o mid.course) job waits),
    ))
live_ended false old mid j a boot why n is away carried live numbered may h waits =
    subst (λ (r : Recorded). MayAnswer (force_of r) (force_of r).job r.course n (answer.Ended why)) (sym h)
    (subst (λ (o : Option OpenJob). MayAnswer (force_of old) o old.course n (answer.Ended why)) (sym is)
    (subst (λ (o : Option Asked). MayAnswer (force_of old) (Some j) o n (answer.Ended why)) (sym away)
    (numbered, ended_any j.job (force_of old) j a (answer.Ended why) boot may (not_on_stored j.job (force_of old) j a why may) carried live)))

carried_ended : (carried : Option ℕ) (old mid : Recorded) (j : OpenJob) (a : Asked) (why : EndReason) (n : ℕ) → (force_of old).job ≡ Some j → old.course ≡ Some a → j.boot ≡ carried → n ≡ j.number
    → MayBeAnsweredAs j.job (force_of old) j a (answer.Ended why) → IsOnGuest (force_of old).state j → EndsCarried carried why old mid → WaitsWith (force_of mid) (force_of mid).job mid.course
    → MayAnswer (force_of mid) (force_of mid).job mid.course n (answer.Ended why)
carried_ended None old mid j a why n is away carried numbered may guest h waits = let on = guest.carried in cc
carried_ended (Some boot) old mid j a why n is away carried numbered may guest h waits =
    live_ended (is_live (force_of old).state boot) old mid j a boot why n is away carried refl numbered may h waits

call_ended : (open_job : Option OpenJob) (course : Option Asked) (old mid : Recorded) (why : EndReason) (n : ℕ) → (force_of old).job ≡ open_job → old.course ≡ course → IsNumbered open_job n
    → MayBeAnswered (force_of old) open_job course (answer.Ended why) → WaitsWith (force_of old) open_job course → EndsCarried (boot_of open_job) why old mid → WaitsWith (force_of mid) (force_of mid).job mid.course
    → MayAnswer (force_of mid) (force_of mid).job mid.course n (answer.Ended why)
call_ended None course old mid why n is away numbered may waits_old h waits = absurd numbered
call_ended (Some j) None old mid why n is away numbered may waits_old h waits = absurd may
call_ended (Some j) (Some a) old mid why n is away numbered may waits_old h waits =
    carried_ended j.boot old mid j a why n is away refl numbered may (kind_in (force_of old) j (Some a) (not_on_stored j.job (force_of old) j a why may) waits_old) h waits

pub by_answer : (x : Answer) (old mid : Recorded) (n : ℕ) → IsNumbered (force_of old).job n → MayBeAnswered (force_of old) (force_of old).job old.course x → WaitsWith (force_of old) (force_of old).job old.course
    → EndsFirst x old mid → WaitsWith (force_of mid) (force_of mid).job mid.course → MayAnswer (force_of mid) (force_of mid).job mid.course n x
by_answer (answer.Ended why) old mid n numbered may waits_old h waits = call_ended (force_of old).job old.course old mid why n refl refl numbered may waits_old h waits
by_answer other old mid n numbered may waits_old h waits =
    subst (λ (r : Recorded). MayAnswer (force_of r) (force_of r).job r.course n other) (sym h) (not_ended (force_of old) (force_of old).job old.course n other numbered refl may)

-- a call, or a phase, that asks on was not answered that its boot has ended

or_first : (b c : Bool) → (b || c) ≡ false → b ≡ false
or_first true c e = cc
or_first false c e = refl

or_second : (b c : Bool) → (b || c) ≡ false → c ≡ false
or_second true c e = cc
or_second false c e = e

any_more : (xs ys : List Answer) → list_any is_ended_answer (xs ++ ys) ≡ false → list_any is_ended_answer ys ≡ false
any_more [] ys e = e
any_more (x ∷ xs) ys e = any_more xs ys (or_second (is_ended_answer x) (list_any is_ended_answer (xs ++ ys)) e)

none_ended_phase : (s : State) (o : Option OpenOperation) (j : OpenJob) (a : Asked) → IsPhaseWaiting s o j a → list_any is_ended_answer a.answers ≡ false
none_ended_phase s None j a h = absurd h
none_ended_phase s (Some o) j a h = h.none_ended

none_ended : (s : Standing) (j : Option OpenJob) (o : Option Asked) (b : Asked) → o ≡ Some b → WaitsWith s j o → list_any is_ended_answer b.answers ≡ false
none_ended s None None b e h = cc
none_ended s None (Some a) b e h = absurd h
none_ended s (Some j) None b e h = absurd h
none_ended s (Some j) (Some a) b e (inl h) = let same : a ≡ b = cc in ap (λ (y : Asked). list_any is_ended_answer y.answers) (sym same) ∙ h.none_ended
none_ended s (Some j) (Some a) b e (inr h) =
    let same : a ≡ b = cc in ap (λ (y : Asked). list_any is_ended_answer y.answers) (sym same) ∙ none_ended_phase s.state s.operation j a h

pub not_ended_away : (r : Recorded) (j : Option OpenJob) (a : Asked) (x : Answer) (count : ℕ) → r.course ≡ Some (starved count (answered_in j a x)) → WaitsWith (force_of r) (force_of r).job r.course → is_ended_answer x ≡ false
not_ended_away r j a x count e h =
    let b : Asked = answered_in j a x in
    let answers : (starved count b).answers ≡ a.answers ++ (x ∷ replicate count answer.NoMemory) =
    starved_find_none count b ∙ ap (λ (xs : List Answer). xs ++ replicate count answer.NoMemory) (one_more j a x) ∙ append_assoc a.answers (x ∷ []) (replicate count answer.NoMemory) in
    let none : list_any is_ended_answer (a.answers ++ (x ∷ replicate count answer.NoMemory)) ≡ false =
    ap (λ (xs : List Answer). list_any is_ended_answer xs) (sym answers) ∙ none_ended (force_of r) (force_of r).job r.course (starved count b) e h in
    or_first (is_ended_answer x) (list_any is_ended_answer (replicate count answer.NoMemory)) (any_more a.answers (x ∷ replicate count answer.NoMemory) none)
