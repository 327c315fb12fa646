-- The first mark of a turn in which a call may be let in.
use Rattle.std.proofs.Common.{◌≡◌, ℕ, zero, suc, ◌==◌, List, [], ◌∷◌, length, replicate, not, Bool, true, false, Option, None, Some, if◌then◌else◌, refl, sym, ap, ◌∙◌, subst, eq-eqb}
use Rattle.history_spec.specs.Pass.{own}
use Rattle.domain_spec.specs.Types.{Answer, Ask, Call, Job, Reply, Transition, Who}
use Rattle.domain_spec.specs.Types.answer
use Rattle.domain_spec.specs.declared.core_step.CoreStep.{CoreStep}
use Rattle.domain_spec.specs.declared.core_step.CoreStep.TheVariants as step
use Rattle.domain_spec.specs.declared.mark.Mark.{Mark}
use Rattle.domain_spec.specs.declared.mark.Mark.TheVariants as mark
use Rattle.domain_spec.specs.declared.open.OpenJob.{OpenJob}
use Rattle.domain_spec.specs.declared.standing.Standing.{Standing}
use Rattle.domain_spec.specs.declared.step.Outcome.{Outcome}
use Rattle.domain_spec.specs.declared.open.OpenOperation.{OpenOperation}
use Rattle.domain_spec.specs.Call.{job_of}
use Rattle.domain_spec.specs.CanTake.{IsNotJobOf}
use Rattle.domain_spec.specs.Cell.{Cell, OpenCall, as_let_in, asks_so_far, call_of, share_of, standing_of}
use Rattle.domain_spec.specs.Fold.{after, standing}
use Rattle.domain_spec.specs.Lawful.{IsDone}
use Rattle.domain_spec.specs.Steps.{AnswersBy, LetsIn}
use Rattle.domain_spec.specs.Turns.{BeginsBy, GoesOnBy, MayLeave}
use Rattle.core_steps.specs.Phased.{HasLedTo}
use Rattle.core_steps.specs.Turning.{AsksLast, HasDone}
use Rattle.core_step_laws.specs.Shares.{IsStepOf, whose}
use Rattle.core_step_laws.proofs.Jobs.{differ}
use Rattle.core_step_laws.specs.MarkedLooked.{IsDoneAtOnce, IsLetIn}
use Rattle.core_step_laws.specs.Told.{told}
use Rattle.core_step_laws.proofs.Owning.{done_owned, led_owned, own_here}
use Rattle.core_step_laws.proofs.Walking.{IsDoneIn, IsOpenAs, IsPhasedIn, IsWithOperation, done_in, goes_not, none_of, open_keeps, phased_in, with_keeps}

-- asks for which there was no memory are not told
pub starved_told : (asks : List Ask) (more : ℕ) → told asks (replicate more answer.NoMemory) ≡ []
starved_told [] more = refl
starved_told (x ∷ asks) zero = refl
starved_told (x ∷ asks) (suc more) = starved_told asks more

pub none_told : (asks : List Ask) (answers : List Answer) (more : ℕ) → answers ≡ replicate more answer.NoMemory → told asks answers ≡ []
none_told asks answers more e = ap (λ (xs : List Answer). told asks xs) e ∙ starved_told asks more

-- steps by which a call, or a phase, may be let in
abbrev pub Enters : CoreStep ℕ → Type 0
Enters (step.Look n who d first) = Unit {0}
Enters (step.BeginOp n who d) = Unit {0}
Enters (step.TakeUp n who d) = Unit {0}
Enters (step.Phase n who) = Unit {0}
Enters other = ⊥

-- what was answered in such a turn found no memory
pub starved_by : (c : Cell) (t : CoreStep ℕ) (answers : List Answer) → Enters t → AnswersBy c t answers → (more : ℕ) × (answers ≡ replicate more answer.NoMemory)
starved_by c (step.Look n who d first) answers enters by = by
starved_by c (step.BeginOp n who d) answers enters by = by
starved_by c (step.TakeUp n who d) answers enters by = by
starved_by c (step.Phase n who) answers enters by = by
starved_by c t answers enters by = absurd enters

abbrev is_admit : Mark ℕ → Bool
is_admit (mark.Admit number who wanted d boot) = true
is_admit other = false

-- another first mark opens no call of the number
first_not : (c : Cell) (t : CoreStep ℕ) (n : ℕ) (m : Mark ℕ) → IsStepOf n t → Enters t → is_admit m ≡ false → IsNotJobOf (standing_of c).job n → BeginsBy c t (standing_of c) m → IsNotJobOf (after (standing_of c) m).job n
first_not c t n (mark.Admit number who wanted d boot) its enters e unlike h = cc
first_not c t n (mark.Refused number who d why held) its enters e unlike h = unlike
first_not c t n (mark.End number who r) its enters e unlike h = unlike
first_not c t n (mark.Watch number client) its enters e unlike h = unlike
first_not c t n (mark.Unwatch number client) its enters e unlike h = unlike
first_not c t n m its enters e unlike h = (goes_not c t n (standing_of c) m its unlike h).not_its

goes_nobody : (c : Cell) (t : CoreStep ℕ) (n : ℕ) (m : Mark ℕ) → IsStepOf n t → IsNotJobOf (standing_of c).job n → GoesOnBy c t (standing_of c) m → whose m ≡ None
goes_nobody c t n m its unlike h = (goes_not c t n (standing_of c) m its unlike h).nobody

-- the call that a mark lets in
abbrev pub let_in : ℕ → Who → Job → Call → Option ℕ → OpenJob
let_in number who wanted d boot = record { number = number; who = who; job = wanted; call = d; boot = boot; before = None }

-- what is left where the call is done in the turn in which it was let in
pub record IsEnteredDone (c : Cell) (t : CoreStep ℕ) (n : ℕ) (its : IsStepOf n t) (r : Reply) (left : List (Mark ℕ)) : Type 0 where
  pub number : ℕ
  pub who : Who
  pub wanted : Job
  pub call : Call
  pub boot : Option ℕ
  pub rest : List (Mark ℕ)
  pub is : left ≡ mark.Admit number who wanted call boot ∷ rest
  pub lets : LetsIn c t number who wanted call boot
  pub done : IsDoneIn c t n its (IsOpenAs (let_in number who wanted call boot)) r rest

pub entered_done : (c : Cell) (t : CoreStep ℕ) (n : ℕ) (its : IsStepOf n t) (r : Reply) (left : List (Mark ℕ)) → Enters t → IsNotJobOf (standing_of c).job n → MayLeave c t left → HasDone n r left
    → IsEnteredDone c t n its r left
entered_done c t n its r [] enters unlike may h = absurd h
entered_done c t n its r (mark.Admit number who wanted d boot ∷ rest) enters unlike may h = record {
  number = number;
  who = who;
  wanted = wanted;
  call = d;
  boot = boot;
  rest = rest;
  is = refl;
  lets = may.0;
  done =
      let j : OpenJob = let_in number who wanted d boot in
      done_in c t n its (IsOpenAs j) (open_keeps c t n its j) r (after (standing_of c) (mark.Admit number who wanted d boot)) rest (record { job = j; is = refl; same = refl }) may.2 h;
}
entered_done c t n its r (mark.Done number who d boot asks answers reply events ∷ rest) enters unlike may h =
    let none : whose (mark.Done number who d boot asks answers reply events) ≡ None = goes_nobody c t n (mark.Done number who d boot asks answers reply events) its unlike may.0 in
    cc
entered_done c t n its r (m ∷ rest) enters unlike may h =
    absurd (done_owned n r rest h (none_of c t n (after (standing_of c) m) rest its (first_not c t n m its enters refl unlike may.0) may.2))

-- the same of a phase that is done
pub record IsEnteredPhased (c : Cell) (t : CoreStep ℕ) (n : ℕ) (its : IsStepOf n t) (o : Outcome) (left : List (Mark ℕ)) : Type 0 where
  pub number : ℕ
  pub who : Who
  pub wanted : Job
  pub call : Call
  pub boot : Option ℕ
  pub rest : List (Mark ℕ)
  pub is : left ≡ mark.Admit number who wanted call boot ∷ rest
  pub lets : LetsIn c t number who wanted call boot
  pub phased : IsPhasedIn c t n its (IsWithOperation (standing_of c).operation (let_in number who wanted call boot)) o rest

pub entered_phased : (c : Cell) (t : CoreStep ℕ) (n : ℕ) (its : IsStepOf n t) (o : Outcome) (left : List (Mark ℕ)) → Enters t → IsNotJobOf (standing_of c).job n → MayLeave c t left → HasLedTo n o left
    → IsEnteredPhased c t n its o left
entered_phased c t n its o [] enters unlike may h = absurd h
entered_phased c t n its o (mark.Admit number who wanted d boot ∷ rest) enters unlike may h = record {
  number = number;
  who = who;
  wanted = wanted;
  call = d;
  boot = boot;
  rest = rest;
  is = refl;
  lets = may.0;
  phased =
      let j : OpenJob = let_in number who wanted d boot in
      let q : Option OpenOperation = (standing_of c).operation in
      phased_in c t n its (IsWithOperation q j) (with_keeps c t n its q j) o (after (standing_of c) (mark.Admit number who wanted d boot)) rest
      (record { open_as = record { job = j; is = refl; same = refl }; operation = refl }) may.2 h;
}
entered_phased c t n its o (mark.Phase number who p asks answers next events ∷ rest) enters unlike may h =
    let none : whose (mark.Phase number who p asks answers next events) ≡ None = goes_nobody c t n (mark.Phase number who p asks answers next events) its unlike may.0 in
    cc
entered_phased c t n its o (m ∷ rest) enters unlike may h =
    absurd (led_owned n o rest h (none_of c t n (after (standing_of c) m) rest its (first_not c t n m its enters refl unlike may.0) may.2))

-- one mark was left, and the number has a call open

is_its : (s : Standing) (j : Option OpenJob) (answers : List Answer) (n : ℕ) (x : Ask) → AsksLast (call_of s j answers n) x → IsNotJobOf j n → ⊥
is_its s None answers n x h unlike = h
is_its s (Some j) answers n x h unlike =
    let e : (j.number == n) ≡ false = differ j.number n (j.number == n) refl (λ same. unlike (sym same)) in
    subst (λ (b : Bool). AsksLast (if b then Some (record { job = as_let_in j; asks = asks_so_far s j.job j answers; answers = answers }) else None) x) e h

pub open_its : (d : Cell) (n : ℕ) (x : Ask) → AsksLast (share_of d n).call x → IsNotJobOf (standing_of d).job n → ⊥
open_its d n x h unlike = is_its (standing_of d) (standing_of d).job d.answers n x h unlike

-- the call was let in, and is open
pub record IsEntered (c : Cell) (t : CoreStep ℕ) (left : List (Mark ℕ)) : Type 0 where
  pub number : ℕ
  pub who : Who
  pub wanted : Job
  pub call : Call
  pub boot : Option ℕ
  pub is : left ≡ mark.Admit number who wanted call boot ∷ []
  pub lets : LetsIn c t number who wanted call boot

pub entered : (c d : Cell) (t : CoreStep ℕ) (n : ℕ) (left : List (Mark ℕ)) (x : Ask) → IsStepOf n t → Enters t → IsNotJobOf (standing_of c).job n → MayLeave c t left
    → standing_of d ≡ standing (standing_of c) left → length left ≡ 1 → AsksLast (share_of d n).call x → IsEntered c t left
entered c d t n [] x its enters unlike may is one asks = cc
entered c d t n (mark.Admit number who wanted e boot ∷ []) x its enters unlike may is one asks = record {
  number = number;
  who = who;
  wanted = wanted;
  call = e;
  boot = boot;
  is = refl;
  lets = may.0;
}
entered c d t n (m ∷ k ∷ rest) x its enters unlike may is one asks = cc
entered c d t n (m ∷ []) x its enters unlike may is one asks =
    absurd (open_its d n x asks (subst (λ (s : Standing). IsNotJobOf s.job n) (sym is) (first_not c t n m its enters refl unlike may.0)))

-- what is open then

with_number : (n k : ℕ) (y : OpenCall) → n ≡ k → (if n == k then Some y else None) ≡ Some y
with_number n k y e = ap (λ (b : Bool). if b then Some y else None) (eq-eqb n k e)

pub opened : (c d : Cell) (n : ℕ) (who : Who) (wanted : Job) (e : Call) (boot : Option ℕ) (x : Ask) (left : List (Mark ℕ)) (more : ℕ)
    → left ≡ mark.Admit n who wanted e boot ∷ [] → standing_of d ≡ standing (standing_of c) left → d.answers ≡ replicate more answer.NoMemory → AsksLast (share_of d n).call x
    → IsLetIn n who wanted e boot (share_of d n).call x left
opened c d n who wanted e boot x left more only is starved asks =
    let j : OpenJob = let_in n who wanted e boot in
    let s : Standing = after (standing_of c) (mark.Admit n who wanted e boot) in
    let open_now : OpenCall = record { job = j; asks = asks_so_far s wanted j d.answers; answers = d.answers } in
    let at : standing_of d ≡ s = is ∙ ap (λ (ms : List (Mark ℕ)). standing (standing_of c) ms) only in
    let call : (share_of d n).call ≡ Some open_now = ap (λ (z : Standing). call_of z z.job d.answers n) at ∙ with_number n n open_now refl in
    let last : AsksLast (Some open_now) x = subst (λ (y : Option OpenCall). AsksLast y x) call asks in
    record {
      own_are = ap (λ (ms : List (Mark ℕ)). own whose n ms) only ∙ own_here n (mark.Admit n who wanted e boot) [] refl;
      away = open_now;
      is_open = call;
      job_is = refl;
      none_told = none_told open_now.asks d.answers more starved;
      before = last.0;
      asks_last = last.1;
    }

-- the marks of a call that is done in the turn in which it was let in

caller_of : (j : OpenJob) (k : OpenJob) → as_let_in k ≡ as_let_in j → k.who ≡ j.who
caller_of j k e = ap (λ (x : OpenJob). x.who) e

-- what an open call is done by is its own
pub record IsOf (j : OpenJob) (who : Who) (d : Call) (boot : Option ℕ) : Type 0 where
  pub caller : who ≡ j.who
  pub same_call : d ≡ j.call
  pub same_boot : boot ≡ j.boot

done_of : (s : Standing) (k : Option OpenJob) (x j : OpenJob) (number : ℕ) (who : Who) (d : Call) (boot : Option ℕ) (asks : List Ask) (answers : List Answer) (r : Reply) (events : List Transition)
    → k ≡ Some x → as_let_in x ≡ as_let_in j → IsDone s k number who d boot asks answers r events → IsOf j who d boot
done_of s None x j number who d boot asks answers r events is same h = absurd h
done_of s (Some y) x j number who d boot asks answers r events is same h =
    let here : y ≡ x = cc in
    record {
      caller = h.0.caller ∙ ap (λ (z : OpenJob). z.who) here ∙ ap (λ (z : OpenJob). z.who) same;
      same_call = h.0.same_call ∙ ap (λ (z : OpenJob). z.call) here ∙ ap (λ (z : OpenJob). z.call) same;
      same_boot = h.0.same_boot ∙ ap (λ (z : OpenJob). z.boot) here ∙ ap (λ (z : OpenJob). z.boot) same;
    }

pub done_is_of : (s : Standing) (j : OpenJob) (number : ℕ) (who : Who) (d : Call) (boot : Option ℕ) (asks : List Ask) (answers : List Answer) (r : Reply) (events : List Transition)
    → IsOpenAs j s → IsDone s s.job number who d boot asks answers r events → IsOf j who d boot
done_is_of s j number who d boot asks answers r events h done = done_of s s.job h.job j number who d boot asks answers r events h.is h.same done

pub same_done : (n : ℕ) (w who : Who) (e d : Call) (b boot : Option ℕ) (asks : List Ask) (answers : List Answer) (r : Reply) (events : List Transition) → w ≡ who → e ≡ d → b ≡ boot
    → mark.Done n w e b asks answers r events ≡ mark.Done n who d boot asks answers r events
same_done n w who e d b boot asks answers r events p q s =
    ap (λ (x : Who). mark.Done n x e b asks answers r events) p
    ∙ ap (λ (x : Call). mark.Done n who x b asks answers r events) q
    ∙ ap (λ (x : Option ℕ). mark.Done n who d x asks answers r events) s

pub done_at_once : (c : Cell) (t : CoreStep ℕ) (n : ℕ) (its : IsStepOf n t) (who : Who) (d : Call) (boot : Option ℕ) (r : Reply) (left : List (Mark ℕ)) (h : IsEnteredDone c t n its r left) → Enters t
    → mark.Admit h.number h.who h.wanted h.call h.boot ≡ mark.Admit n who (job_of d) d boot → h.who ≡ who → h.call ≡ d → h.boot ≡ boot → IsDoneAtOnce n who d boot r left
done_at_once c t n its who d boot r left h enters admit p q s =
    let x = h.done in
    let of = done_is_of x.at (let_in h.number h.who h.wanted h.call h.boot) n x.who x.call x.boot x.asks x.answers r x.events x.holds x.done in
    let starved = starved_by c t x.answers enters x.by in
    record {
      asks = x.asks;
      answers = x.answers;
      events = x.events;
      own_are =
          ap (λ (ms : List (Mark ℕ)). own whose n ms) h.is
          ∙ ap (λ (m : Mark ℕ). own whose n (m ∷ h.rest)) admit
          ∙ own_here n (mark.Admit n who (job_of d) d boot) h.rest refl
          ∙ ap (λ (ms : List (Mark ℕ)). mark.Admit n who (job_of d) d boot ∷ ms) x.own_are
          ∙ ap (λ (m : Mark ℕ). mark.Admit n who (job_of d) d boot ∷ m ∷ []) (same_done n x.who who x.call d x.boot boot x.asks x.answers r x.events (of.caller ∙ p) (of.same_call ∙ q) (of.same_boot ∙ s));
      none_told = none_told x.asks x.answers starved.0 starved.1;
    }
