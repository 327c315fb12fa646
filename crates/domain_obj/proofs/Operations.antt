-- A call that begins an operation or takes one up: what holds between two of its looks, and what becomes of it.
use Rattle.std.proofs.Common.{◌≡◌, ℕ, ◌+◌, ◌≤◌, ◌++◌, List, [], ◌∷◌, Option, None, Some, refl, sym, ap, ◌∙◌, subst, arith}
use Rattle.virt_types.specs.Below.types_base.declared.caller.Front.{Front}
use Rattle.history_spec.specs.Chapter.{tagged}
use Rattle.domain_spec.specs.Types.{Answer, Ask, Call, Reply, Who}
use Rattle.domain_spec.specs.Types.call
use Rattle.domain_spec.specs.Types.reply
use Rattle.domain_spec.specs.Types.value
use Rattle.domain_spec.specs.declared.core_step.First.TheVariants as first
use Rattle.domain_spec.specs.declared.mark.Mark.{Mark}
use Rattle.domain_spec.specs.declared.mark.Mark.TheVariants as mark
use Rattle.domain_spec.specs.declared.open.OpenOperation.{OpenOperation}
use Rattle.domain_spec.specs.declared.step.Outcome.TheVariants as outcome
use Rattle.domain_spec.specs.Call.{job_of}
use Rattle.domain_obj.specs.InTurn.{DomainPass}
use Rattle.domain_obj.specs.Placing.{IsPlaced}
use Rattle.domain_obj.specs.Running.{Goes}
use Rattle.domain_obj.proofs.Going.{goes_on}
use Rattle.domain_core.specs.Celled.{CellShare}
use Rattle.domain_obj.specs.Entered.{IsBegun, IsDoneNow, IsFirst, IsReadyToEnter, IsWaiting, begun_by, operating}
use Rattle.domain_obj.specs.Operated.{HasOperated, IsOperation, IsRefusedDone, operated_by}
use Rattle.domain_obj.specs.Phases.{HasRunPhases, marks_of_all, told_of_all, without_operation}
use Rattle.domain_obj.specs.Phasing.{IsDueFor, phase_mark}
use Rattle.domain_obj.specs.Turned.{waiting_as}
use Rattle.domain_obj.specs.declared.operating.phases.Over.{Over}
use Rattle.domain_obj.specs.declared.operating.phases.Over.TheVariants as over
use Rattle.domain_obj.proofs.Calling.{LooksOn, Rests, ready_to_look, rests_on, share_back}
use Rattle.domain_obj.proofs.GoingOn.{lost_from, named, operation_or}
use Rattle.domain_core.specs.OfTurns.{IsDue}

-- what holds before a look
abbrev pub Enters : Who → Call → DomainPass → DomainPass → ℕ → Type 0
Enters who d before now count = LooksOn who d before now first.Now count

pub ready_to_enter : (who : Who) (d : Call) (before now : DomainPass) (count : ℕ) → Enters who d before now count → IsReadyToEnter who now
ready_to_enter who d before now count k = (ready_to_look who d before now first.Now count k).free

-- it waits on

waits_on : (who : Who) (d : Call) (before now after : DomainPass) (count more : ℕ) → Enters who d before now count → more ≤ count + 1 → IsWaiting who now after → Enters who d before after more
waits_on who d before now after count more k le w = record {
  turns = k.turns + 1;
  goes = goes_on k.turns 1 [] [] before now after k.goes w.goes;
  counted = let counted = k.counted in omega (arith, le, counted);
  rests = λ fresh. rests_on who before now after (k.rests w.fresh) w.share;
  keeps = λ fresh. tt;
  of_destroy = tt;
  found = tt;
}

pub waits_again : (who : Who) (d : Call) (before now after rested : DomainPass) (count more : ℕ) → Enters who d before now count → more ≤ count + 1 → IsWaiting who now after → rested ≡ after → Enters who d before rested more
waits_again who d before now after rested count more k le w same = subst (λ (p : DomainPass). Enters who d before p more) (sym same) (waits_on who d before now after count more k le w)

-- it was admitted and refused
pub refused_done : (who : Who) (d : Call) (before now after : DomainPass) (count : ℕ) (report report_now : List (Ask × Answer)) (r : Reply) (place : Front) → Enters who d before now count → report_now ≡ report → IsDoneNow who d now after r place
    → IsRefusedDone who d before after report report_now r place
refused_done who d before now after count report report_now r place k same h =
    let number : now.number ≡ before.number = k.goes.went.same.number in
    record {
      turns = k.turns + 1;
      chapter = h.chapter;
      boot = h.boot;
      asks = h.asks;
      answers = h.answers;
      events = h.events;
      goes =
          subst (λ (n : ℕ). Goes (k.turns + 1) (tagged h.chapter (mark.Admit n who (job_of d) d h.boot ∷ mark.Done n who d h.boot h.asks h.answers r h.events ∷ [])) before after) number
          (goes_on k.turns 1 [] (tagged h.chapter (mark.Admit now.number who (job_of d) d h.boot ∷ mark.Done now.number who d h.boot h.asks h.answers r h.events ∷ [])) before now after k.goes h.goes);
      none_told = h.none_told;
      reported = same;
      share = share_back who before now after (k.rests h.fresh) h.share;
      placed = subst (λ (n : ℕ). IsPlaced place h.chapter (mark.Done n who d h.boot h.asks h.answers r h.events) after) number h.placed;
    }

-- its operation goes on

-- any operation, for a pass that has none
abbrev pub no_operation : OpenOperation
no_operation = record { number = 0; who = record { session = 0; lane = 0; count = 0 }; call = call.Destroy; boot = None; outcome = outcome.Over (reply.Ok value.Nothing) }

has_operation : (who : Who) (d : Call) (now mid : DomainPass) (h : IsBegun who d now mid) → mid.share.kept.operation ≡ Some h.operation
has_operation who d now mid h = ap (λ (s : CellShare). s.kept.operation) h.share

due_begun : (who : Who) (d : Call) (now mid : DomainPass) (h : IsBegun who d now mid) → IsDueFor who h.operation mid
due_begun who d now mid h = record {
  closed = h.closed;
  waits = ap (λ (s : CellShare). s.kept.waits) h.share;
  operation = has_operation who d now mid h;
  due = subst (λ (n : ℕ). IsDue (Some h.operation) n who) (sym h.goes.went.same.number) h.due;
}

pub due_to_run : (who : Who) (d : Call) (now mid : DomainPass) → IsBegun who d now mid → IsDueFor who (operation_or mid no_operation) mid
due_to_run who d now mid h = subst (λ (o : OpenOperation). IsDueFor who o mid) (sym (named mid h.operation no_operation (has_operation who d now mid h))) (due_begun who d now mid h)

-- the call's marks so far, and those of its phases
with_first : (who : Who) (d : Call) (before now mid after : DomainPass) (count : ℕ) (k : Enters who d before now count) (h : IsBegun who d now mid) (n : ℕ) (more : List (ℕ × Mark ℕ)) → Goes n more mid after
    → Goes (k.turns + (1 + n)) (begun_by h.chapter before.number who d h.boot h.first ++ more) before after
with_first who d before now mid after count k h n more goes =
    subst (λ (m : ℕ). Goes (k.turns + (1 + n)) (begun_by h.chapter m who d h.boot h.first ++ more) before after) k.goes.went.same.number
    (goes_on k.turns (1 + n) [] (begun_by h.chapter now.number who d h.boot h.first ++ more) before now after k.goes
    (goes_on 1 n (begun_by h.chapter now.number who d h.boot h.first) more now mid after h.goes goes))

mid_number : (who : Who) (d : Call) (before now mid : DomainPass) (count : ℕ) → Enters who d before now count → IsBegun who d now mid → mid.number ≡ before.number
mid_number who d before now mid count k h = h.goes.went.same.number ∙ k.goes.went.same.number

is_operation : (who : Who) (d : Call) (before now mid : DomainPass) (count : ℕ) (k : Enters who d before now count) (h : IsBegun who d now mid) → IsOperation who d before.number h.boot h.first h.operation
is_operation who d before now mid count k h = record {
  is_first = subst (λ (n : ℕ). IsFirst n who d h.boot h.first) k.goes.went.same.number h.is_first;
  due = subst (λ (n : ℕ). IsDue (Some h.operation) n who) k.goes.went.same.number h.due;
}

-- what is kept for the pass is what was

at_rest_back : (s : CellShare) → s.kept.waits ≡ None → s.kept.operation ≡ None → operating None s ≡ s
at_rest_back s waits operation = λ i. record { kept = record { waits = sym waits i; call = s.kept.call; operation = sym operation i; registrations = s.kept.registrations; ears = s.kept.ears }; monitor = s.monitor; chapter = s.chapter }

ended_back : (o : OpenOperation) (w : Option Who) (s t u v : CellShare) → t ≡ waiting_as w s → u ≡ operating (Some o) t → v ≡ without_operation u → v ≡ operating None s
ended_back o w s t u v e f g = g ∙ ap (λ (c : CellShare). without_operation c) f ∙ ap (λ (c : CellShare). operating None c) e

operation_back : (who : Who) (d : Call) (before now mid after : DomainPass) (count : ℕ) → Enters who d before now count → (h : IsBegun who d now mid) → after.share ≡ without_operation mid.share → after.share ≡ before.share
operation_back who d before now mid after count k h is =
    let r : Rests who before now = k.rests h.fresh in
    ended_back h.operation now.share.kept.waits before.share now.share mid.share after.share r.share h.share is ∙ at_rest_back before.share r.at_rest.waits r.at_rest.operation

-- what became of it

pub operation_then : (who : Who) (d : Call) (before now mid after : DomainPass) (count : ℕ) (report report_now later : List (Ask × Answer)) (r : Over) → Enters who d before now count → report_now ≡ report → (h : IsBegun who d now mid)
    → HasRunPhases who h.operation mid after report_now later r → HasOperated who d before after report later (operated_by r)
operation_then who d before now mid after count report report_now later (over.Ended said place) k same h e =
    let number : mid.number ≡ before.number = mid_number who d before now mid count k h in
    record {
      turns = k.turns + (1 + e.turns);
      chapter = h.chapter;
      boot = h.boot;
      first = h.first;
      operation = h.operation;
      is_operation = is_operation who d before now mid count k h;
      phases = e.phases;
      end_chapter = e.chapter;
      last = e.last;
      goes =
          subst
          (λ (n : ℕ). Goes (k.turns + (1 + e.turns)) (begun_by h.chapter before.number who d h.boot h.first ++ (marks_of_all n who h.operation.call e.phases ++ tagged e.chapter (mark.End n who e.last ∷ []))) before after)
          number
          (with_first who d before now mid after count k h e.turns (marks_of_all mid.number who h.operation.call e.phases ++ tagged e.chapter (mark.End mid.number who e.last ∷ [])) e.goes);
      leads = e.leads;
      reported = e.reported ∙ ap (λ (l : List (Ask × Answer)). l ++ told_of_all e.phases) same;
      told_so = e.told_so;
      share = operation_back who d before now mid after count k h e.share;
      placed = subst (λ (n : ℕ). IsPlaced place e.chapter (mark.End n who e.last) after) number e.placed;
    }
operation_then who d before now mid after count report report_now later (over.Rests said place) k same h e =
    let number : mid.number ≡ before.number = mid_number who d before now mid count k h in
    record {
      turns = k.turns + (1 + e.turns);
      chapter = h.chapter;
      boot = h.boot;
      first = h.first;
      operation = h.operation;
      is_operation = is_operation who d before now mid count k h;
      earlier = e.earlier;
      final = e.final;
      last = e.last;
      goes =
          subst (λ (n : ℕ). Goes (k.turns + (1 + e.turns)) (begun_by h.chapter before.number who d h.boot h.first ++ marks_of_all n who h.operation.call (e.earlier ++ e.final ∷ [])) before after) number
          (with_first who d before now mid after count k h e.turns (marks_of_all mid.number who h.operation.call (e.earlier ++ e.final ∷ [])) e.goes);
      leads = e.leads;
      reported = e.reported ∙ ap (λ (l : List (Ask × Answer)). l ++ told_of_all (e.earlier ++ e.final ∷ [])) same;
      told_so = e.told_so;
      share = operation_back who d before now mid after count k h e.share;
      placed = subst (λ (n : ℕ). IsPlaced place e.final.chapter (phase_mark n who e.final) after) number e.placed;
    }
operation_then who d before now mid after count report report_now later over.Spent k same h e =
    let number : mid.number ≡ before.number = mid_number who d before now mid count k h in
    record {
      turns = k.turns + (1 + e.turns);
      chapter = h.chapter;
      boot = h.boot;
      first = h.first;
      operation = h.operation;
      is_operation = is_operation who d before now mid count k h;
      phases = e.phases;
      next = e.next;
      marks = e.marks;
      asked = e.asked;
      last = e.last;
      goes =
          subst (λ (n : ℕ). Goes (k.turns + (1 + e.turns)) (begun_by h.chapter before.number who d h.boot h.first ++ (marks_of_all n who h.operation.call e.phases ++ e.marks)) before e.last) number
          (with_first who d before now mid e.last count k h e.turns (marks_of_all mid.number who h.operation.call e.phases ++ e.marks) e.goes);
      leads = e.leads;
      lost = lost_from who h.operation h.operation before mid e.last e.marks e.asked number refl e.lost;
      still_open = e.still_open;
      reported = e.reported ∙ ap (λ (l : List (Ask × Answer)). l ++ (told_of_all e.phases ++ e.asked)) same;
      spent = e.spent;
    }

-- as its calls show it: they name the operation that the pass has
pub operated_so : (who : Who) (d : Call) (before now mid after : DomainPass) (count : ℕ) (report report_now later : List (Ask × Answer)) (r : Over) → Enters who d before now count → report_now ≡ report → IsBegun who d now mid
    → HasRunPhases who (operation_or mid no_operation) mid after report_now later r → HasOperated who d before after report later (operated_by r)
operated_so who d before now mid after count report report_now later r k same h e =
    operation_then who d before now mid after count report report_now later r k same h
    (subst (λ (o : OpenOperation). HasRunPhases who o mid after report_now later r) (named mid h.operation no_operation (has_operation who d now mid h)) e)
