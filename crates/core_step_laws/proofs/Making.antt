-- A phase that makes the guest goes on only where the last of its asks, the Make, was answered Ok.
use Rattle.std.proofs.Common.{◌≡◌, ◌⊎◌, inl, inr, ℕ, List, [], ◌∷◌, ◌++◌, flat_map, length, replicate, take, Bool, true, false, not, ◌&&◌, Option, None, Some, if◌then◌else◌, unwrap_or, refl, sym, ap, ◌∙◌, subst, eq-eqb}
use Rattle.std.specs.List.{list_any}
use Rattle.domain_spec.specs.Types.{Answer, Ask, Call, Domain, Live, Op, Phase, State}
use Rattle.domain_spec.specs.Types.answer
use Rattle.domain_spec.specs.Types.ask
use Rattle.domain_spec.specs.Types.job
use Rattle.domain_spec.specs.Types.phase
use Rattle.domain_spec.specs.Types.reason
use Rattle.domain_spec.specs.Types.reply
use Rattle.domain_spec.specs.Types.state
use Rattle.domain_spec.specs.declared.core_step.CoreStep.{CoreStep}
use Rattle.domain_spec.specs.declared.core_step.CoreStep.TheVariants as step
use Rattle.domain_spec.specs.declared.open.OpenJob.{OpenJob}
use Rattle.domain_spec.specs.declared.open.OpenOperation.{OpenOperation}
use Rattle.domain_spec.specs.declared.planned.PlannedAsk.{PlannedAsk}
use Rattle.domain_spec.specs.declared.standing.Standing.{Standing}
use Rattle.domain_spec.specs.declared.step.PhaseStep.{PhaseStep}
use Rattle.domain_spec.specs.Asks.{asks_left, asks_made, first_bad, is_ended_answer, is_lost_answer, is_ok_answer, is_undone, undone_by}
use Rattle.domain_spec.specs.Begin.{due_in, due_phase}
use Rattle.domain_spec.specs.Call.{lease_of}
use Rattle.domain_spec.specs.Cell.{Cell, asks_so_far, phase_asks, standing_of}
use Rattle.domain_spec.specs.CopyResult.{over}
use Rattle.domain_spec.specs.Fold.{lost_boot}
use Rattle.domain_spec.specs.Lawful.{EndedFirst, IsPhaseMade, IsStarved, WerePlanned, planned_in}
use Rattle.domain_spec.specs.Phase.{answered_phase, ended_reply, live_phase_refused, phase_asked, phase_in, phase_of, phase_on, phase_refused, phase_still_asked, plan_in, plan_on}
use Rattle.domain_spec.specs.PhaseAsks.{live_phase_plan, make_asks, phase_plan}
use Rattle.domain_spec.specs.Reading.{boot_in, carries_ended, is_boot_in, is_live, live_boot, live_of}
use Rattle.domain_spec.specs.Refusals.{failure_of, monitor_lost}
use Rattle.domain_spec.specs.Steps.{AnswersBy}
use Rattle.domain_spec.proofs.ExitProofs.{gone}
use Rattle.core_step_laws.specs.Made.{AsksThis, IsMakeAnswered}
use Rattle.core_step_laws.proofs.Asking.{bad_is_undone, last_waited, no_memory_none, ok_after, ok_head, ok_tail, some_answer}
use Rattle.core_step_laws.proofs.Settled.{IsFresh, IsSettled, IsSettledIn}

-- a domain with a guest, whose operation has still to make it
pub record IsMaking (d : Domain) (l : Live) (op : Op) (o : OpenOperation) : Type 0 where
  pub live : d.live ≡ Some l
  pub operation : d.op ≡ Some op
  pub due : op.phase ≡ phase.Make
  pub boot : o.boot ≡ Some l.boot

-- what such a phase asks

plan_is : (d : Domain) (l : Live) (op : Op) (o : OpenOperation) (c : Call) (answers : List Answer) → IsMaking d l op o → plan_in (state.Held d) c answers ≡ undone_by [] (make_asks l)
plan_is d l op o c answers h =
    ap (λ (q : Option Op). plan_on d q c answers) h.operation
    ∙ ap (λ (v : Option Live). phase_plan d v op c answers) h.live
    ∙ ap (λ (p : Phase). live_phase_plan d l op c answers p) h.due

is_its : (d : Domain) (l : Live) (op : Op) (o : OpenOperation) → IsMaking d l op o → is_live (state.Held d) l.boot ≡ true
is_its d l op o h = ap (λ (v : Option Live). is_boot_in v l.boot) h.live ∙ eq-eqb l.boot l.boot refl

not_ended : (d : Domain) (l : Live) (op : Op) (o : OpenOperation) → IsMaking d l op o → carries_ended (state.Held d) o.boot ≡ false
not_ended d l op o h = ap (λ (b : Option ℕ). carries_ended (state.Held d) b) h.boot ∙ ap not (is_its d l op o h)

asked_is : (d : Domain) (l : Live) (op : Op) (o : OpenOperation) (answers : List Answer) → IsMaking d l op o → phase_asked (state.Held d) o answers ≡ asks_made (undone_by [] (make_asks l)) answers
asked_is d l op o answers h =
    ap (λ (b : Bool). if b then [] else asks_made (plan_in (state.Held d) o.call answers) answers) (not_ended d l op o h)
    ∙ ap (λ (plan : List PlannedAsk). asks_made plan answers) (plan_is d l op o o.call answers h)

left_is : (d : Domain) (l : Live) (op : Op) (o : OpenOperation) (answers : List Answer) → IsMaking d l op o → phase_still_asked (state.Held d) o answers ≡ asks_left (undone_by [] (make_asks l)) answers
left_is d l op o answers h =
    ap (λ (b : Bool). if b then [] else asks_left (plan_in (state.Held d) o.call answers) answers) (not_ended d l op o h)
    ∙ ap (λ (plan : List PlannedAsk). asks_left plan answers) (plan_is d l op o o.call answers h)

-- the last answer is that of the open call's last ask

pub record IsMadeWhole (l : Live) (answers : List Answer) : Type 0 where
  pub ok : first_bad answers ≡ None
  pub long : length (asks_made (undone_by [] (make_asks l)) answers) ≡ length answers
  pub through : asks_left (undone_by [] (make_asks l)) answers ≡ []

so_far : (s : Standing) (j : OpenJob) (o : OpenOperation) (d : Domain) (l : Live) (op : Op) (answers : List Answer) → IsMaking d l op o → j.job ≡ job.Nested → j.before ≡ None → s.state ≡ state.Held d → s.operation ≡ Some o
    → asks_so_far s j.job j answers ≡ asks_made (undone_by [] (make_asks l)) answers ++ take 1 (asks_left (undone_by [] (make_asks l)) answers)
so_far s j o d l op answers h nested fresh is operation =
    ap (λ (x : _). asks_so_far s x j answers) nested
    ∙ ap (λ (b : Option State). phase_asks (unwrap_or b s.state) s.operation answers) fresh
    ∙ ap (λ (st : State). phase_asks st s.operation answers) is
    ∙ ap (λ (q : Option OpenOperation). phase_asks (state.Held d) q answers) operation
    ∙ ap (λ (xs : List Ask). xs ++ take 1 (phase_still_asked (state.Held d) o answers)) (asked_is d l op o answers h)
    ∙ ap (λ (xs : List Ask). asks_made (undone_by [] (make_asks l)) answers ++ take 1 xs) (left_is d l op o answers h)

last_of : (answers before : List Answer) (a : Answer) (more : ℕ) → answers ≡ before ++ a ∷ replicate more answer.NoMemory → first_bad answers ≡ None → (is_ok_answer a ≡ true) × (answers ≡ before ++ a ∷ [])
last_of answers before a more is ok =
    let all : first_bad (before ++ a ∷ replicate more answer.NoMemory) ≡ None = sym (ap first_bad is) ∙ ok in
    let rest : first_bad (a ∷ replicate more answer.NoMemory) ≡ None = ok_after before (a ∷ replicate more answer.NoMemory) all in
    let none : replicate more answer.NoMemory ≡ [] = no_memory_none more (ok_tail a (replicate more answer.NoMemory) rest) in
    (ok_head a (replicate more answer.NoMemory) rest, is ∙ ap (λ (xs : List Answer). before ++ a ∷ xs) none)

asks_all : (l : Live) (answers before : List Answer) (a : Answer) → answers ≡ before ++ a ∷ [] → IsMadeWhole l answers
    → asks_made (undone_by [] (make_asks l)) before ++ take 1 (asks_left (undone_by [] (make_asks l)) before) ≡ make_asks l
asks_all l answers before a is h =
    let g : IsMadeWhole l (before ++ a ∷ []) = subst (λ (xs : List Answer). IsMadeWhole l xs) is h in
    last_waited [] (make_asks l) before a g.ok g.long g.through

back_made : (c : Cell) (n : ℕ) (a : Answer) (st : State) (j : OpenJob) (o : OpenOperation) (d : Domain) (l : Live) (op : Op) (answers : List Answer)
    → IsMaking d l op o → j.job ≡ job.Nested → st ≡ state.Held d → IsFresh st (Some j) → IsSettled (standing_of c) st (Some j) (Some o) → IsMadeWhole l answers → AnswersBy c (step.Back n a) answers
    → IsMakeAnswered c (step.Back n a) l.boot
back_made c n a st j o d l op answers h nested is fresh (inl none) whole by = cc
back_made c n a st j o d l op answers h nested is fresh (inr (inl none)) whole by =
    let some : live_boot st ≡ Some l.boot = ap live_boot is ∙ ap boot_in h.live in cc
back_made c n a st j o d l op answers h nested is (inr none) (inr (inr same)) whole by =
    let some : live_boot st ≡ Some l.boot = ap live_boot is ∙ ap boot_in h.live in cc
back_made c n a st j o d l op answers h nested is (inl fresh) (inr (inr same)) whole by =
    let last = last_of answers c.answers a by.0 by.1 whole.ok in
    let waits : asks_so_far (standing_of c) j.job j c.answers ≡ make_asks l =
    so_far (standing_of c) j o d l op c.answers h nested fresh (same.state ∙ is) same.operation ∙ asks_all l answers c.answers a last.1 whole in
    (last.0, l.def, subst (λ (q : Option OpenJob). AsksThis c q (ask.Make l.def l.boot)) (sym same.job) (flat_map lease_of l.def.interfaces, waits))

starved : (l : Live) (answers : List Answer) (more : ℕ) → IsMadeWhole l answers → answers ≡ replicate more answer.NoMemory → ⊥
starved l answers more whole is =
    let none : answers ≡ [] = is ∙ no_memory_none more (sym (ap first_bad is) ∙ whole.ok) in
    some_answer [] (flat_map lease_of l.def.interfaces) (ask.Make l.def l.boot) (subst (λ (xs : List Answer). asks_left (undone_by [] (make_asks l)) xs ≡ []) none whole.through)

make_answered : (c : Cell) (t : CoreStep ℕ) (s : Standing) (j : OpenJob) (o : OpenOperation) (d : Domain) (l : Live) (op : Op) (answers : List Answer)
    → IsMaking d l op o → j.job ≡ job.Nested → s.state ≡ state.Held d → IsFresh s.state (Some j) → s.job ≡ Some j → s.operation ≡ Some o → IsSettledIn c t s → IsMadeWhole l answers → AnswersBy c t answers
    → IsMakeAnswered c t l.boot
make_answered c (step.Back n a) s j o d l op answers h nested is fresh held operation settled whole by =
    back_made c n a s.state j o d l op answers h nested is fresh
    (subst (λ (x : Option OpenOperation). IsSettled (standing_of c) s.state (Some j) x) operation (subst (λ (x : Option OpenJob). IsSettled (standing_of c) s.state x s.operation) held settled)) whole by
make_answered c (step.Look n who x first) s j o d l op answers h nested is fresh held operation settled whole by = absurd (starved l answers by.0 whole by.1)
make_answered c (step.BeginOp n who x) s j o d l op answers h nested is fresh held operation settled whole by = absurd (starved l answers by.0 whole by.1)
make_answered c (step.Phase n who) s j o d l op answers h nested is fresh held operation settled whole by = absurd (starved l answers by.0 whole by.1)
make_answered c (step.TakeUp n who x) s j o d l op answers h nested is fresh held operation settled whole by = absurd (starved l answers by.0 whole by.1)
make_answered c other s j o d l op answers h nested is fresh held operation settled whole by = absurd by

-- where an answer is not Ok the guest is gone, or its loss is marked next

step_is : (d : Domain) (l : Live) (op : Op) (o : OpenOperation) (answers : List Answer) → IsMaking d l op o → phase_of (state.Held d) o answers ≡ answered_phase d op o.call answers (first_bad answers)
step_is d l op o answers h =
    ap (λ (b : Bool). if b then over (state.Held d) [] (ended_reply o o.boot answers) else phase_in (state.Held d) o.call answers) (not_ended d l op o h)
    ∙ ap (λ (q : Option Op). phase_on d q o.call answers) h.operation

refused_gone : (d : Domain) (l : Live) (op : Op) (o : OpenOperation) (answers : List Answer) (bad : Answer) → IsMaking d l op o → is_undone bad ≡ true
    → live_boot (answered_phase d op o.call answers (Some bad)).state ≡ None
refused_gone d l op o answers bad h undone =
    ap (λ (b : Bool). live_boot (if b then phase_refused d d.live op (failure_of bad) else over (state.Held d) [] (reply.No monitor_lost)).state) undone
    ∙ ap (λ (v : Option Live). live_boot (phase_refused d v op (failure_of bad)).state) h.live
    ∙ ap (λ (p : Phase). live_boot (live_phase_refused d l op (failure_of bad) p).state) h.due
    ∙ gone d l reason.Failed d.stored

no_loss : (b a : Bool) (boot : ℕ) → (if b && a then Some boot else None) ≡ None → a ≡ true → b ≡ false
no_loss true true boot none e = cc
no_loss true false boot none e = cc
no_loss false a boot none e = refl

is_boot : (v : Option Live) (boot : ℕ) → boot_in v ≡ Some boot → is_boot_in v boot ≡ true
is_boot None boot e = cc
is_boot (Some l) boot e = let same : l.boot ≡ boot = cc in eq-eqb l.boot boot same

-- what is known of a phase that is done, after which this boot is live, and no loss is to be marked
pub record LeavesLive (st : State) (o : OpenOperation) (answers : List Answer) (boot : ℕ) : Type 0 where
  pub ended_first : EndedFirst (carries_ended st o.boot) answers
  pub live : live_boot (phase_of st o answers).state ≡ Some boot
  pub lost : lost_boot (phase_of st o answers).state o.boot answers ≡ None

all_ok : (d : Domain) (l : Live) (op : Op) (o : OpenOperation) (answers : List Answer) (boot : ℕ) (bad : Option Answer) → IsMaking d l op o → l.boot ≡ boot → LeavesLive (state.Held d) o answers boot → first_bad answers ≡ bad → first_bad answers ≡ None
all_ok d l op o answers boot None h same leaves is = is
all_ok d l op o answers boot (Some bad) h same leaves is =
    let ended : list_any is_ended_answer answers ≡ false = subst (λ (b : Bool). EndedFirst b answers) (not_ended d l op o h) leaves.ended_first in
    let after : State = (phase_of (state.Held d) o answers).state in
    let lives : is_live after boot ≡ true = is_boot (live_of after) boot leaves.live in
    let loss : lost_boot after (Some boot) answers ≡ None = subst (λ (b : Option ℕ). lost_boot after b answers ≡ None) (h.boot ∙ ap (λ (n : ℕ). Some n) same) leaves.lost in
    let lost : list_any is_lost_answer answers ≡ false = no_loss (list_any is_lost_answer answers) (is_live after boot) boot loss lives in
    let none : live_boot after ≡ None =
    ap (λ (p : PhaseStep). live_boot p.state) (step_is d l op o answers h)
    ∙ ap (λ (b : Option Answer). live_boot (answered_phase d op o.call answers b).state) is
    ∙ refused_gone d l op o answers bad h (bad_is_undone answers bad is ended lost) in
    let some : live_boot after ≡ Some boot = leaves.live in
    cc

-- what it asked, with all its answers Ok

whole_by : (d : Domain) (l : Live) (op : Op) (o : OpenOperation) (before : Option State) (asks : List Ask) (answers : List Answer) → IsMaking d l op o → first_bad answers ≡ None
    → IsPhaseMade (state.Held d) before o asks answers ⊎ IsStarved asks answers → IsMadeWhole l answers
whole_by d l op o before asks answers h ok (inr none) = let bad : first_bad answers ≡ Some answer.NoMemory = ap first_bad none.1 in cc
whole_by d l op o before asks answers h ok (inl made) =
    let planned : WerePlanned (Some (state.Held d)) (λ at. phase_asked at o answers) asks answers =
    subst (λ (b : Bool). WerePlanned (planned_in b (state.Held d) before) (λ at. phase_asked at o answers) asks answers) (not_ended d l op o h) made.planned in
    record {
      ok = ok;
      long = sym (ap length (planned.0 ∙ asked_is d l op o answers h)) ∙ planned.1;
      through = sym (left_is d l op o answers h) ∙ made.through;
    }

-- all that is known of a phase that made the guest of this boot
pub record HasMade (c : Cell) (t : CoreStep ℕ) (s : Standing) (j : OpenJob) (o : OpenOperation) (st : State) (asks : List Ask) (answers : List Answer) (boot : ℕ) : Type 0 where
  pub is : s.state ≡ st
  pub call : s.job ≡ Some j
  pub operation : s.operation ≡ Some o
  pub nested : j.job ≡ job.Nested
  pub fresh : IsFresh s.state (Some j)
  pub settled : IsSettledIn c t s
  pub made : IsPhaseMade st j.before o asks answers ⊎ IsStarved asks answers
  pub by : AnswersBy c t answers
  pub leaves : LeavesLive st o answers boot

by_parts : (c : Cell) (t : CoreStep ℕ) (s : Standing) (j : OpenJob) (o : OpenOperation) (d : Domain) (asks : List Ask) (answers : List Answer) (boot : ℕ) (live : Option Live) (op : Option Op)
    → d.live ≡ live → d.op ≡ op → boot_in live ≡ Some boot → due_in op ≡ phase.Make → o.boot ≡ Some boot → HasMade c t s j o (state.Held d) asks answers boot → IsMakeAnswered c t boot
by_parts c t s j o d asks answers boot None op lives has own due boots h = cc
by_parts c t s j o d asks answers boot (Some l) None lives has own due boots h = cc
by_parts c t s j o d asks answers boot (Some l) (Some op) lives has own due boots h =
    let same : l.boot ≡ boot = cc in
    let making : IsMaking d l op o = record { live = lives; operation = has; due = due; boot = boots ∙ sym (ap (λ (n : ℕ). Some n) same) } in
    let ok : first_bad answers ≡ None = all_ok d l op o answers boot (first_bad answers) making same h.leaves refl in
    subst (λ (n : ℕ). IsMakeAnswered c t n) same
    (make_answered c t s j o d l op answers making h.nested h.is h.fresh h.call h.operation h.settled (whole_by d l op o j.before asks answers making ok h.made) h.by)

pub by_its_make : (c : Cell) (t : CoreStep ℕ) (s : Standing) (j : OpenJob) (o : OpenOperation) (st : State) (asks : List Ask) (answers : List Answer) (boot : ℕ)
    → live_boot st ≡ Some boot → o.boot ≡ Some boot → due_phase st ≡ phase.Make → HasMade c t s j o st asks answers boot → IsMakeAnswered c t boot
by_its_make c t s j o (state.Vacant boots) asks answers boot lives own due h = cc
by_its_make c t s j o (state.Held d) asks answers boot lives own due h = by_parts c t s j o d asks answers boot d.live d.op refl refl lives due own h
