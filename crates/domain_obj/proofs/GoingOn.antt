-- An operation that goes on phase after phase: what holds between two of them, and what becomes of it.
use Rattle.std.proofs.Common.{◌≡◌, inl, inr, ℕ, ◌+◌, ◌++◌, List, [], ◌∷◌, Option, Some, refl, sym, ap, ◌∙◌, subst, append_assoc, append-nil}
use Rattle.std.specs.Prelude.{unwrap_or}
use Rattle.virt_types.specs.Below.types_base.declared.caller.Front.{Front}
use Rattle.history_spec.specs.Chapter.{tagged}
use Rattle.domain_spec.specs.Types.{Answer, Ask, Call, Phase, Reply, Who}
use Rattle.domain_spec.specs.Types.job
use Rattle.domain_spec.specs.declared.mark.Mark.{Mark}
use Rattle.domain_spec.specs.declared.mark.Mark.TheVariants as mark
use Rattle.domain_spec.specs.declared.open.OpenOperation.{OpenOperation}
use Rattle.domain_spec.specs.declared.step.Outcome.{Outcome}
use Rattle.domain_spec.specs.declared.step.Outcome.TheVariants as outcome
use Rattle.domain_spec.specs.Fold.{with_outcome}
use Rattle.domain_obj.specs.Finishing.{IsClosed}
use Rattle.domain_obj.specs.InTurn.{DomainPass}
use Rattle.domain_core.specs.Leading.{IsTold}
use Rattle.domain_obj.specs.Placing.{IsPlaced}
use Rattle.domain_obj.specs.Running.{Goes, IsSpent}
use Rattle.domain_core.specs.declared.next.Next.{Next}
use Rattle.domain_core.specs.declared.next.Next.TheVariants as next
use Rattle.domain_obj.proofs.Going.{goes_nowhere, goes_on}
use Rattle.domain_core.specs.Celled.{CellShare}
use Rattle.domain_core.specs.OfTurns.{IsToldAtEnd}
use Rattle.domain_obj.specs.Phases.{HasRunPhase, IsAwayAt, IsEnded, IsLost, IsLostAt, IsPhaseLost, IsResting, LeadsTo, marks_of_all, told_of_all, without_operation}
use Rattle.domain_obj.specs.Phasing.{HasEnded, IsDueFor, IsOverFor, IsPhaseDone, PhaseDone, led, marks_of, phase_let_in, phase_mark}
use Rattle.domain_obj.specs.declared.operating.phases.OnePhase.{OnePhase}
use Rattle.domain_obj.specs.declared.operating.phases.OnePhase.TheVariants as one
use Rattle.domain_obj.proofs.Listing.{leads_with, marks_with, told_with}
use Rattle.domain_core.specs.OfTurns.{led_to}
use Rattle.domain_core.specs.OfTurns.{IsDue}
use Rattle.domain_core.specs.OfShares.{told}

-- the same share, with this operation or none
abbrev pub having : Option OpenOperation → CellShare → CellShare
having o s = record s { kept = record s.kept { operation = o } }

-- the pass came here by these phases, the last of which led to this
pub record CameBy (who : Who) (o : OpenOperation) (before now : DomainPass) (report report_now : List (Ask × Answer)) (phases : List PhaseDone) (next : Outcome) : Type 0 where
  pub turns : ℕ
  pub goes : Goes turns (marks_of_all before.number who o.call phases) before now
  pub leads : LeadsTo o.outcome phases next
  pub reported : report_now ≡ report ++ told_of_all phases
  pub share : now.share ≡ having (led_to next (Some o)) before.share

-- what holds between two phases: one is due
pub record GoesOnBy (who : Who) (o : OpenOperation) (before now : DomainPass) (report report_now : List (Ask × Answer)) : Type 0 where
  pub phases : List PhaseDone
  pub phase : Phase
  pub due : IsDueFor who o before
  pub came : CameBy who o before now report report_now phases (outcome.On phase)

-- at first

due_phase : (x : Outcome) (o : OpenOperation) (n : ℕ) (who : Who) → o.outcome ≡ x → IsDue (Some o) n who → (p : Phase) × (x ≡ outcome.On p)
due_phase (outcome.On p) o n who e h = (p, refl)
due_phase (outcome.Over r) o n who e h = absurd (subst (λ (x : Outcome). IsDue (Some (with_outcome x o)) n who) e h).2
due_phase (outcome.Rest r) o n who e h = absurd (subst (λ (x : Outcome). IsDue (Some (with_outcome x o)) n who) e h).2

having_own : (o : OpenOperation) (s : CellShare) → s.kept.operation ≡ Some o → s ≡ having (Some o) s
having_own o s e = ap (λ (x : Option OpenOperation). having x s) e

on_own : (o : OpenOperation) (p : Phase) → o.outcome ≡ outcome.On p → o ≡ with_outcome (outcome.On p) o
on_own o p e = ap (λ (x : Outcome). with_outcome x o) e

pub goes_on_first : (who : Who) (o : OpenOperation) (pass : DomainPass) (report : List (Ask × Answer)) → IsDueFor who o pass → GoesOnBy who o pass pass report report
goes_on_first who o pass report due =
    let (phase, is) = due_phase o.outcome o pass.number who refl due.due in
    record {
      phases = [];
      phase = phase;
      due = due;
      came = record {
        turns = 0;
        goes = goes_nowhere pass;
        leads = sym is;
        reported = sym (append-nil report);
        share = having_own o pass.share due.operation ∙ ap (λ (q : OpenOperation). having (Some q) pass.share) (on_own o phase is);
      };
    }

-- the operation as it is

pub operation_is : (who : Who) (o : OpenOperation) (before now : DomainPass) (report report_now : List (Ask × Answer)) (k : GoesOnBy who o before now report report_now) → now.share.kept.operation ≡ Some (with_outcome (outcome.On k.phase) o)
operation_is who o before now report report_now k = ap (λ (s : CellShare). s.kept.operation) k.came.share

closed_by : (x : Option OpenOperation) (before now : DomainPass) → IsClosed before → now.share ≡ having x before.share → IsClosed now
closed_by x before now closed same = record {
  call = ap (λ (s : CellShare). s.kept.call) same ∙ closed.call;
  monitor = ap (λ (s : CellShare). s.monitor) same ∙ closed.monitor;
  chapter = ap (λ (s : CellShare). s.chapter) same ∙ closed.chapter;
}

is_of : (who : Who) (o : OpenOperation) (n m : ℕ) → IsDue (Some o) n who → m ≡ n → (m ≡ o.number) × (who ≡ o.who)
is_of who o n m (number, same, goes) e = (e ∙ number, same)

due_now : (who : Who) (o : OpenOperation) (before now : DomainPass) (report report_now : List (Ask × Answer)) (k : GoesOnBy who o before now report report_now) → IsDueFor who (with_outcome (outcome.On k.phase) o) now
due_now who o before now report report_now k =
    let (number, caller) = is_of who o before.number now.number k.due.due k.came.goes.went.same.number in
    record {
      closed = closed_by (Some (with_outcome (outcome.On k.phase) o)) before now k.due.closed k.came.share;
      waits = ap (λ (s : CellShare). s.kept.waits) k.came.share ∙ k.due.waits;
      operation = operation_is who o before now report report_now k;
      due = (number, caller, tt);
    }

-- the operation that a pass has
abbrev pub operation_or : DomainPass → OpenOperation → OpenOperation
operation_or pass other = unwrap_or pass.share.kept.operation other

pub named : (pass : DomainPass) (o other : OpenOperation) → pass.share.kept.operation ≡ Some o → operation_or pass other ≡ o
named pass o other e = ap (λ (x : Option OpenOperation). unwrap_or x other) e

pub due_to_run : (who : Who) (o : OpenOperation) (before now : DomainPass) (report report_now : List (Ask × Answer)) → GoesOnBy who o before now report report_now → IsDueFor who (operation_or now o) now
due_to_run who o before now report report_now k =
    subst (λ (q : OpenOperation). IsDueFor who q now) (sym (named now (with_outcome (outcome.On k.phase) o) o (operation_is who o before now report report_now k))) (due_now who o before now report report_now k)

-- one phase more

led_again : (x : Outcome) (p : Phase) (o : OpenOperation) → led_to x (Some (with_outcome (outcome.On p) o)) ≡ led_to x (Some o)
led_again (outcome.On q) p o = refl
led_again (outcome.Over r) p o = refl
led_again (outcome.Rest r) p o = refl

led_on : (x : Outcome) (p : Phase) (o : OpenOperation) (s t u : CellShare) → t ≡ having (led_to (outcome.On p) (Some o)) s → u ≡ led x (with_outcome (outcome.On p) o) t → u ≡ having (led_to x (Some o)) s
led_on x p o s t u e f = f ∙ ap (λ (c : CellShare). led x (with_outcome (outcome.On p) o) c) e ∙ ap (λ (y : Option OpenOperation). having y s) (led_again x p o)

told_on : (report now later more more_now : List (Ask × Answer)) → now ≡ report ++ more → later ≡ now ++ more_now → later ≡ report ++ (more ++ more_now)
told_on report now later more more_now e f = f ∙ ap (λ (l : List (Ask × Answer)). l ++ more_now) e ∙ append_assoc report more more_now

came_on : (who : Who) (o : OpenOperation) (before now after : DomainPass) (report report_now later : List (Ask × Answer)) (n : ℕ) (p : PhaseDone) (said : Next) (place : Front) (k : GoesOnBy who o before now report report_now)
    → IsPhaseDone who (with_outcome (outcome.On k.phase) o) n p now after said place → later ≡ report_now ++ told p.asks p.answers → CameBy who o before after report later (k.phases ++ p ∷ []) p.next
came_on who o before now after report report_now later n p said place k h then =
    let came = k.came in
    let number : now.number ≡ before.number = came.goes.went.same.number in
    record {
      turns = came.turns + n;
      goes =
          subst (λ (ms : List (ℕ × Mark ℕ)). Goes (came.turns + n) ms before after) (sym (marks_with before.number who o.call k.phases p))
          (goes_on came.turns n (marks_of_all before.number who o.call k.phases) (marks_of before.number who o.call p) before now after came.goes
          (subst (λ (m : ℕ). Goes n (marks_of m who o.call p) now after) number h.goes));
      leads = leads_with o.outcome (outcome.On k.phase) k.phases p came.leads h.due;
      reported = told_on report report_now later (told_of_all k.phases) (told p.asks p.answers) came.reported then ∙ ap (λ (l : List (Ask × Answer)). report ++ l) (sym (told_with k.phases p));
      share = led_on p.next k.phase o before.share now.share after.share came.share h.share;
    }

-- what it led to

is_on : (x : Outcome) → IsTold x next.On → (q : Phase) × (x ≡ outcome.On q)
is_on (outcome.On q) h = (q, refl)
is_on (outcome.Over r) h = absurd h
is_on (outcome.Rest r) h = absurd h

is_over : (x : Outcome) → IsTold x next.Over → (r : Reply) × (x ≡ outcome.Over r)
is_over (outcome.On q) h = absurd h
is_over (outcome.Over r) h = (r, refl)
is_over (outcome.Rest r) h = absurd h

is_rest : (x : Outcome) (said : Reply) → IsTold x (next.Rest said) → (r : Reply) × (x ≡ outcome.Rest r) × IsToldAtEnd r said
is_rest (outcome.On q) said h = absurd h
is_rest (outcome.Over r) said h = absurd h
is_rest (outcome.Rest r) said h = (r, refl, h)

-- a phase, of the operation that the pass had
abbrev pub RunsPhase : Who → OpenOperation → DomainPass → DomainPass → List (Ask × Answer) → List (Ask × Answer) → OnePhase → Type 0
RunsPhase who o now after report later r = HasRunPhase who (operation_or now o) now after report later r

runs_now : (who : Who) (o : OpenOperation) (before now after : DomainPass) (report report_now later : List (Ask × Answer)) (r : OnePhase) (k : GoesOnBy who o before now report report_now) → RunsPhase who o now after report_now later r
    → HasRunPhase who (with_outcome (outcome.On k.phase) o) now after report_now later r
runs_now who o before now after report report_now later r k h =
    subst (λ (q : OpenOperation). HasRunPhase who q now after report_now later r) (named now (with_outcome (outcome.On k.phase) o) o (operation_is who o before now report report_now k)) h

-- another phase is due
pub goes_on_again : (who : Who) (o : OpenOperation) (before now after : DomainPass) (report report_now later : List (Ask × Answer)) (place : Front) → GoesOnBy who o before now report report_now → RunsPhase who o now after report_now later (one.Phased next.On place)
    → GoesOnBy who o before after report later
goes_on_again who o before now after report report_now later place k h =
    let (n, p, done, reported) = runs_now who o before now after report report_now later (one.Phased next.On place) k h in
    let (q, is) = is_on p.next done.leads in
    record {
      phases = k.phases ++ p ∷ [];
      phase = q;
      due = k.due;
      came = subst (λ (x : Outcome). CameBy who o before after report later (k.phases ++ p ∷ []) x) is (came_on who o before now after report report_now later n p next.On place k done reported);
    }

-- it rests
pub rests : (who : Who) (o : OpenOperation) (before now after : DomainPass) (report report_now later : List (Ask × Answer)) (said : Reply) (place : Front) → GoesOnBy who o before now report report_now
    → RunsPhase who o now after report_now later (one.Phased (next.Rest said) place) → IsResting who o before after report later said place
rests who o before now after report report_now later said place k h =
    let (n, p, done, reported) = runs_now who o before now after report report_now later (one.Phased (next.Rest said) place) k h in
    let (r, is, told_so) = is_rest p.next said done.leads in
    let came : CameBy who o before after report later (k.phases ++ p ∷ []) (outcome.Rest r) =
    subst (λ (x : Outcome). CameBy who o before after report later (k.phases ++ p ∷ []) x) is (came_on who o before now after report report_now later n p (next.Rest said) place k done reported) in
    record {
      turns = came.turns;
      earlier = k.phases;
      final = p;
      last = r;
      goes = came.goes;
      leads = came.leads;
      reported = came.reported;
      told_so = told_so;
      share = came.share;
      placed = subst (λ (m : ℕ). IsPlaced place p.chapter (phase_mark m who p) after) k.came.goes.went.same.number done.placed;
    }

-- it is over
pub record IsOverBy (who : Who) (o : OpenOperation) (before now : DomainPass) (report report_now : List (Ask × Answer)) : Type 0 where
  pub phases : List PhaseDone
  pub last : Reply
  pub due : IsDueFor who o before
  pub came : CameBy who o before now report report_now phases (outcome.Over last)

over_by : (who : Who) (o : OpenOperation) (before now after : DomainPass) (report report_now later : List (Ask × Answer)) (place : Front) → GoesOnBy who o before now report report_now → RunsPhase who o now after report_now later (one.Phased next.Over place)
    → IsOverBy who o before after report later
over_by who o before now after report report_now later place k h =
    let (n, p, done, reported) = runs_now who o before now after report report_now later (one.Phased next.Over place) k h in
    let (r, is) = is_over p.next done.leads in
    record {
      phases = k.phases ++ p ∷ [];
      last = r;
      due = k.due;
      came = subst (λ (x : Outcome). CameBy who o before after report later (k.phases ++ p ∷ []) x) is (came_on who o before now after report report_now later n p next.Over place k done reported);
    }

over_is : (who : Who) (o : OpenOperation) (before now : DomainPass) (report report_now : List (Ask × Answer)) (k : IsOverBy who o before now report report_now) → now.share.kept.operation ≡ Some (with_outcome (outcome.Over k.last) o)
over_is who o before now report report_now k = ap (λ (s : CellShare). s.kept.operation) k.came.share

over_now : (who : Who) (o : OpenOperation) (before now : DomainPass) (report report_now : List (Ask × Answer)) (k : IsOverBy who o before now report report_now) → IsOverFor who (with_outcome (outcome.Over k.last) o) now
over_now who o before now report report_now k =
    let (number, caller) = is_of who o before.number now.number k.due.due k.came.goes.went.same.number in
    record {
      closed = closed_by (Some (with_outcome (outcome.Over k.last) o)) before now k.due.closed k.came.share;
      operation = over_is who o before now report report_now k;
      over = (number, caller, tt);
    }

pub over_to_end : (who : Who) (o : OpenOperation) (before now after : DomainPass) (report report_now later : List (Ask × Answer)) (place : Front) → GoesOnBy who o before now report report_now → RunsPhase who o now after report_now later (one.Phased next.Over place)
    → IsOverFor who (operation_or after o) after
over_to_end who o before now after report report_now later place k h =
    let over : IsOverBy who o before after report later = over_by who o before now after report report_now later place k h in
    subst (λ (q : OpenOperation). IsOverFor who q after) (sym (named after (with_outcome (outcome.Over over.last) o) o (over_is who o before after report later over))) (over_now who o before after report later over)

-- it ended

over_reply : (a b : Reply) → outcome.Over a ≡ outcome.Over b → a ≡ b
over_reply a b e = cc

ends_by : (who : Who) (o : OpenOperation) (before now after : DomainPass) (report report_now : List (Ask × Answer)) (said : Reply) (place : Front) (k : IsOverBy who o before now report report_now) → HasEnded who (with_outcome (outcome.Over k.last) o) now after said place
    → IsEnded who o before after report report_now said place
ends_by who o before now after report report_now said place k h =
    let came = k.came in
    let number : now.number ≡ before.number = came.goes.went.same.number in
    let last : k.last ≡ h.last = over_reply k.last h.last h.over in
    record {
      turns = came.turns + 1;
      phases = k.phases;
      chapter = h.chapter;
      last = h.last;
      goes =
          goes_on came.turns 1 (marks_of_all before.number who o.call k.phases) (tagged h.chapter (mark.End before.number who h.last ∷ [])) before now after came.goes
          (subst (λ (m : ℕ). Goes 1 (tagged h.chapter (mark.End m who h.last ∷ [])) now after) number h.goes);
      leads = subst (λ (r : Reply). LeadsTo o.outcome k.phases (outcome.Over r)) last came.leads;
      reported = came.reported;
      told_so = h.told_so;
      share = h.share ∙ ap (λ (s : CellShare). without_operation s) came.share;
      placed = subst (λ (m : ℕ). IsPlaced place h.chapter (mark.End m who h.last) after) number h.placed;
    }

pub ended_so : (who : Who) (o : OpenOperation) (before now mid after : DomainPass) (report report_now later : List (Ask × Answer)) (said : Reply) (place at : Front) → GoesOnBy who o before now report report_now → RunsPhase who o now mid report_now later (one.Phased next.Over place)
    → HasEnded who (operation_or mid o) mid after said at → IsEnded who o before after report later said at
ended_so who o before now mid after report report_now later said place at k h ends =
    let over : IsOverBy who o before mid report later = over_by who o before now mid report report_now later place k h in
    ends_by who o before mid after report later said at over
    (subst (λ (q : OpenOperation). HasEnded who q mid after said at) (named mid (with_outcome (outcome.Over over.last) o) o (over_is who o before mid report later over)) ends)

-- no ticket was left

away_from : (who : Who) (o q : OpenOperation) (before now last : DomainPass) (marks : List (ℕ × Mark ℕ)) (asked : List (Ask × Answer)) → now.number ≡ before.number → q.call ≡ o.call → IsAwayAt who q now last marks asked → IsAwayAt who o before last marks asked
away_from who o q before now last marks asked number same h = record {
  chapter = h.chapter;
  boot = h.boot;
  marks_are =
      h.marks_are ∙ ap (λ (n : ℕ). tagged h.chapter (mark.Admit n who job.Nested q.call h.boot ∷ [])) number
      ∙ ap (λ (d : Call). tagged h.chapter (mark.Admit before.number who job.Nested d h.boot ∷ [])) same;
  call = h.call;
  is_open = h.is_open;
  job = h.job ∙ ap (λ (n : ℕ). phase_let_in n who q h.boot) number ∙ ap (λ (d : Call). phase_let_in before.number who (record o { call = d }) h.boot) same;
  ask = h.ask;
  answer = h.answer;
  asks = h.asks;
  asked_are = h.asked_are;
}

pub lost_from : (who : Who) (o q : OpenOperation) (before now last : DomainPass) (marks : List (ℕ × Mark ℕ)) (asked : List (Ask × Answer)) → now.number ≡ before.number → q.call ≡ o.call → IsLostAt who q now last marks asked → IsLostAt who o before last marks asked
lost_from who o q before now last marks asked number same (inl h) = inl h
lost_from who o q before now last marks asked number same (inr h) = inr (away_from who o q before now last marks asked number same h)

pub lost_amid : (who : Who) (o : OpenOperation) (before now after : DomainPass) (report report_now later : List (Ask × Answer)) → GoesOnBy who o before now report report_now → RunsPhase who o now after report_now later one.Spent → IsLost who o before after report later
lost_amid who o before now after report report_now later k h =
    let lost : IsPhaseLost who (with_outcome (outcome.On k.phase) o) now after report_now later = runs_now who o before now after report report_now later one.Spent k h in
    let came = k.came in
    record {
      turns = came.turns + lost.turns;
      phases = k.phases;
      marks = lost.marks;
      asked = lost.asked;
      next = outcome.On k.phase;
      last = lost.last;
      goes = goes_on came.turns lost.turns (marks_of_all before.number who o.call k.phases) lost.marks before now lost.last came.goes lost.goes;
      leads = came.leads;
      lost = lost_from who o (with_outcome (outcome.On k.phase) o) before now lost.last lost.marks lost.asked came.goes.went.same.number refl lost.lost;
      still_open = lost.still_open;
      reported = told_on report report_now later (told_of_all k.phases) lost.asked came.reported lost.reported;
      spent = lost.spent;
    }

lost_over : (who : Who) (o : OpenOperation) (before now after : DomainPass) (report report_now : List (Ask × Answer)) → IsOverBy who o before now report report_now → IsSpent now after → IsLost who o before after report report_now
lost_over who o before now after report report_now k spent =
    let came = k.came in
    record {
      turns = came.turns;
      phases = k.phases;
      marks = [];
      asked = [];
      next = outcome.Over k.last;
      last = now;
      goes = subst (λ (ms : List (ℕ × Mark ℕ)). Goes came.turns ms before now) (sym (append-nil (marks_of_all before.number who o.call k.phases))) came.goes;
      leads = came.leads;
      lost = inl (refl, refl, (over_now who o before now report report_now k).closed.call);
      still_open = over_is who o before now report report_now k;
      reported = came.reported ∙ ap (λ (l : List (Ask × Answer)). report ++ l) (sym (append-nil (told_of_all k.phases)));
      spent = spent;
    }

pub lost_before_end : (who : Who) (o : OpenOperation) (before now mid after : DomainPass) (report report_now later : List (Ask × Answer)) (place : Front) → GoesOnBy who o before now report report_now → RunsPhase who o now mid report_now later (one.Phased next.Over place)
    → IsSpent mid after → IsLost who o before after report later
lost_before_end who o before now mid after report report_now later place k h spent =
    lost_over who o before mid after report later (over_by who o before now mid report report_now later place k h) spent
