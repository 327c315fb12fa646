-- Why what the ledger leaves of a call is what a turn of a domain may leave.
use Rattle.std.proofs.Common.{◌≡◌, ℕ, zero, suc, ◌+◌, List, [], ◌∷◌, ◌++◌, replicate, length, take, Bool, true, false, inl, inr, Option, None, Some, unwrap_or, refl, sym, ap, ◌∙◌, subst, append_assoc, append-nil, arith}
use Rattle.std.proofs.lemmas.List.{length-append}
use Rattle.domain_spec.specs.Types.{Answer, Ask, Call, Job, State, Who}
use Rattle.domain_spec.specs.Types.answer
use Rattle.domain_spec.specs.Types.call
use Rattle.domain_spec.specs.Types.job
use Rattle.domain_spec.specs.Types.reason
use Rattle.domain_spec.specs.declared.core_step.CoreStep.{CoreStep}
use Rattle.domain_spec.specs.declared.core_step.CoreStep.TheVariants as step
use Rattle.domain_spec.specs.declared.core_step.First.{First}
use Rattle.domain_spec.specs.declared.mark.Mark.{Mark}
use Rattle.domain_spec.specs.declared.mark.Mark.TheVariants as mark
use Rattle.domain_spec.specs.declared.open.OpenJob.{OpenJob}
use Rattle.domain_spec.specs.declared.standing.Standing.{Standing}
use Rattle.domain_spec.specs.Asks.{asks_left, asks_made}
use Rattle.domain_spec.specs.Call.{job_of}
use Rattle.domain_spec.specs.CanTake.{WaitsForAnswer}
use Rattle.domain_spec.specs.Cell.{Cell, asks_so_far, call_asks, planned_at, standing_of}
use Rattle.domain_spec.specs.Exit.{exit_transitions}
use Rattle.domain_spec.specs.Fold.{after, lost_boot, standing}
use Rattle.domain_spec.specs.Legal.{MarksLoss}
use Rattle.domain_spec.specs.Sequential.{asked, seq, still_asked}
use Rattle.domain_spec.specs.Steps.{AnswersBy, IsExitOf, LetsIn}
use Rattle.domain_spec.specs.Turns.{GoOn, GoesOnBy, IsOwn, MayLeave}
use Rattle.core_rules.specs.Next.{is_ask, next_of}
use Rattle.core_plan.specs.Along.{Asked, answered}
use Rattle.core_plan.specs.Starving.{starved}
use Rattle.core_plan.specs.Away.{IsAway, IsOfKind, IsOnGuest}
use Rattle.core_plan.specs.Going.{first_course}
use Rattle.core_plan.proofs.Planning.{asked_planned, still_planned}
use Rattle.core_chapter.proofs.Closed.{is_lost_live}
use Rattle.core_flight.specs.Ledger.{IsDoneLawful, closing, done_by, loss}
use Rattle.core_plan.specs.Tidy.{planned}
use Rattle.core_flight.specs.Turned.{AwayWaits, DoneIsLeft, LetInIsLeft, StarvedFindNone, admit_of}

pub starved_find_none : StarvedFindNone
starved_find_none zero a = sym (append-nil a.answers)
starved_find_none (suc n) a =
    starved_find_none n (answered a answer.NoMemory) ∙ append_assoc a.answers (answer.NoMemory ∷ []) (replicate n answer.NoMemory)

-- the end of a boot that was lost comes next

lost_next : (c : Cell) (t : CoreStep ℕ) (s : Standing) (lost : Option ℕ) (more : List (Mark ℕ)) → s.lost ≡ lost → ((boot : ℕ) → lost ≡ Some boot → IsExitOf s t boot reason.Lost (exit_transitions reason.Lost))
    → GoOn c t (standing s (loss lost)) more → GoOn c t s (loss lost ++ more)
lost_next c t s None more e exit h = h
lost_next c t s (Some boot) more e exit h = (
  exit boot refl,
  subst (λ (o : Option ℕ). MarksLoss o (mark.Exit boot reason.Lost (exit_transitions reason.Lost))) (sym e) (refl, refl),
  h,
)

done_left : (c : Cell) (t : CoreStep ℕ) (s : Standing) (j : Option OpenJob) (n : ℕ) (a : Asked) (more : List (Mark ℕ)) → IsOwn t n → AnswersBy c t a.answers → IsDoneLawful s j n a
    → GoOn c t (standing s (closing s j n a)) more → GoOn c t s (closing s j n a ++ more)
done_left c t s None n a more own answers lawful h = absurd lawful
done_left c t s (Some j) n a more own answers lawful h =
    let next : State = (seq s.state j.call j.boot a.answers).state in
    let there : Standing = after s (done_by s j n a) in (
      (own, answers, lawful.in_order),
      lawful.loss,
      lost_next c t there (lost_boot next j.boot a.answers) more refl
          (λ boot e. record { by = inl (e, refl); live = is_lost_live next j.boot a.answers boot e; told = refl }) h,
    )

pub done_is_left : DoneIsLeft
done_is_left c t s n a more own answers lawful h = done_left c t s s.job n a more own answers lawful h

pub let_in_is_left : LetInIsLeft
let_in_is_left c n who d first boot count more lost letin lawful h =
    let s : Standing = after (standing_of c) (admit_of n who d boot) in
    let a : Asked = starved count (first_course (standing_of c).state d boot) in (
      letin,
      subst (λ (o : Option ℕ). MarksLoss o (admit_of n who d boot)) (sym lost) tt,
      done_left c (step.Look n who d first) s s.job n a more refl (count, starved_find_none count (first_course (standing_of c).state d boot)) lawful h,
    )

-- a call that is away

one_left : (asks : List Ask) → is_ask (next_of asks) ≡ true → length (take 1 asks) ≡ 1
one_left [] e = cc
one_left (x ∷ asks) e = refl

pub waits_by_plan : (s : State) (j : OpenJob) (a : Asked) → a.plan ≡ planned (planned_at s j) j.call j.boot → length (asks_made a.plan a.answers) ≡ length a.answers
    → is_ask (next_of (asks_left a.plan a.answers)) ≡ true → length (call_asks (planned_at s j) j a.answers) ≡ length a.answers + 1
waits_by_plan s j a is len waits =
    let at : State = planned_at s j in
    let made_so : asked at j.call j.boot a.answers ≡ asks_made a.plan a.answers = sym (ap (λ (p : _). asks_made p a.answers) is ∙ asked_planned at j.call j.boot a.answers) in
    let left_so : still_asked at j.call j.boot a.answers ≡ asks_left a.plan a.answers = sym (ap (λ (p : _). asks_left p a.answers) is ∙ still_planned at j.call j.boot a.answers) in
    let one : length (take 1 (asks_left a.plan a.answers)) ≡ 1 = one_left (asks_left a.plan a.answers) waits in
    ap (λ (xs : List Ask). length (xs ++ take 1 (still_asked at j.call j.boot a.answers))) made_so
    ∙ ap (λ (xs : List Ask). length (asks_made a.plan a.answers ++ take 1 xs)) left_so
    ∙ length-append (asks_made a.plan a.answers) (take 1 (asks_left a.plan a.answers))
    ∙ ap (λ (m : ℕ). m + length (take 1 (asks_left a.plan a.answers))) len
    ∙ ap (λ (m : ℕ). length a.answers + m) one

-- no call takes a nested job of its own
own_asks : (s : Standing) (d : Call) (j : OpenJob) (answers : List Answer) → asks_so_far s (job_of d) j answers ≡ call_asks (planned_at s.state j) j answers
own_asks s call.Suspend j answers = refl
own_asks s other j answers = refl

waits_in : (c : Cell) (s : Standing) (k : Option OpenJob) (j : OpenJob) (a : Asked) → standing_of c ≡ s → k ≡ Some j → IsAway s.state s.operation j a → c.answers ≡ a.answers → WaitsForAnswer c k
waits_in c s None j a at is h e = cc
waits_in c s (Some k) j a at is h e =
    let same : k ≡ j = cc in
    subst (λ (x : OpenJob). WaitsForAnswer c (Some x)) (sym same)
    (subst (λ (x : Standing). length (asks_so_far x j.job j c.answers) ≡ length c.answers + 1) (sym at)
    (subst (λ (xs : List Answer). length (asks_so_far s j.job j xs) ≡ length xs + 1) (sym e)
    (subst (λ (w : Job). length (asks_so_far s w j a.answers) ≡ length a.answers + 1) (sym h.own)
    (ap (λ (xs : List Ask). length xs) (own_asks s j.call j a.answers) ∙ waits_by_plan s.state j a h.plan h.asked h.waits))))

pub away_waits : AwayWaits
away_waits c j a is h e = waits_in c (standing_of c) (standing_of c).job j a refl is h e
