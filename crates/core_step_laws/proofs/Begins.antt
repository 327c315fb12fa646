-- What a call leaves of its share that looks whether its operation may begin, or be taken up.
use Rattle.std.proofs.Common.{◌≡◌, ℕ, List, [], ◌∷◌, Option, None, refl, ap, ◌∙◌, subst}
use Rattle.domain_spec.specs.Types.{Call, Who}
use Rattle.domain_spec.specs.Types.code
use Rattle.domain_spec.specs.declared.core_step.CoreStep.{CoreStep}
use Rattle.domain_spec.specs.declared.core_step.CoreStep.TheVariants as step
use Rattle.domain_spec.specs.declared.mark.Mark.{Mark}
use Rattle.domain_spec.specs.declared.mark.Mark.TheVariants as mark
use Rattle.domain_spec.specs.declared.standing.Standing.{Standing}
use Rattle.domain_spec.specs.Call.{job_of}
use Rattle.domain_spec.specs.Cell.{Cell, share_of, standing_of, waits_of}
use Rattle.domain_spec.specs.Fold.{after, standing}
use Rattle.domain_spec.specs.Kept.{LooksOn}
use Rattle.domain_spec.specs.Reading.{live_boot}
use Rattle.domain_spec.specs.Turns.{IsTurn, Leads, MayLeave}
use Rattle.core_steps.specs.Phasing.{IsDue}
use Rattle.core_steps.specs.declared.beginning.OperationLook.TheVariants as look
use Rattle.core_step_laws.specs.OwnOperations.{BeginningsKeep, IsLookedFor, TakingsUpKeep}
use Rattle.core_step_laws.specs.Staying.{RestStays}
use Rattle.core_step_laws.proofs.Closing.{take_up_closes}
use Rattle.core_step_laws.proofs.Looks.{IsLook, IsOver, look_call, look_done, look_refused, look_rest}
use Rattle.core_step_laws.proofs.Parts.{call_none, ears_stay, moved, registrations_stay}
use Rattle.core_step_laws.proofs.Waiting.{look_may, look_waits, some_left}

-- both kinds

waits_no_more : (c d : Cell) (n : ℕ) (who : Who) (e : Call) (m : Mark ℕ) (ms left : List (Mark ℕ)) → left ≡ m ∷ ms → LooksOn c n who e left d.queue → waits_of d.queue.passes n ≡ None
waits_no_more c d n who e m ms left only h = some_left c n who e m ms d.queue (subst (λ (xs : List (Mark ℕ)). LooksOn c n who e xs d.queue) only h)

begun_keeps : (c d : Cell) (t : CoreStep ℕ) (n : ℕ) (who : Who) (e : Call) (m : Mark ℕ) (ms left : List (Mark ℕ)) → IsLook c d t n who e left → left ≡ m ∷ ms → (standing (standing_of c) (m ∷ ms)).job ≡ None → IsDue (share_of d n).operation n who
    → IsLookedFor n who (share_of c n) (share_of d n) look.Begun
begun_keeps c d t n who e m ms left k only closed due = record {
  call = call_none d n (ap (λ (s : Standing). s.job) (moved c d left k.moves) ∙ ap (λ (xs : List (Mark ℕ)). (standing (standing_of c) xs).job) only ∙ closed);
  operation = due;
  registrations = registrations_stay c d t n left k.moves k.keeps k.may;
  ears = ears_stay c d n left k.moves;
  waits = waits_no_more c d n who e m ms left only k.queue;
}

-- a call that begins an operation

is_beginning : (c d : Cell) (n : ℕ) (who : Who) (e : Call) (left : List (Mark ℕ)) → IsTurn c (step.BeginOp n who e) left → Leads c (step.BeginOp n who e) left d → IsLook c d (step.BeginOp n who e) n who e left
is_beginning c d n who e left turn leads = record {
  ends_none = tt;
  keeps = tt;
  none_open = turn.can.0.no_call;
  may = turn.left;
  moves = record { base = leads.base; marks = leads.marks; registrations = leads.registrations; ears = leads.ears };
  queue = leads.queue;
}

pub beginnings_keep : BeginningsKeep
beginnings_keep old new n who d look.Begun h =
    let k = is_beginning old.cell new.cell n who d h.0 h.1.turn h.1.leads in
    let boot = live_boot (standing_of old.cell).state in
    begun_keeps old.cell new.cell (step.BeginOp n who d) n who d (mark.Admit n who (job_of d) d boot) (mark.Start n who d boot ∷ []) h.0 k h.2.0 refl h.2.1
beginnings_keep old new n who d (look.Done r) h =
    let k = is_beginning old.cell new.cell n who d h.0 h.1.turn h.1.leads in
    let over : IsOver old.cell new.cell n = look_done old.cell new.cell (step.BeginOp n who d) n who d r h.0 k h.2 in
    record { call = over.call; operation = over.rest.operation; registrations = over.rest.registrations; ears = over.rest.ears; waits = over.waits }
beginnings_keep old new n who d (look.Excluded held boot looks) h =
    let k = is_beginning old.cell new.cell n who d h.0 h.1.turn h.1.leads in
    let rest : RestStays (share_of old.cell n) (share_of new.cell n) = look_rest old.cell new.cell (step.BeginOp n who d) n who d h.0 k h.2.0 in
    record {
      call = look_call old.cell new.cell (step.BeginOp n who d) n who d h.0 k h.2.0;
      operation = rest.operation;
      registrations = rest.registrations;
      ears = rest.ears;
      waits = look_waits old.cell n who d h.0 new.cell.queue looks h.2.0 h.2.1.looks_are k.queue;
    }
beginnings_keep old new n who d (look.WaitersFull waiting) h =
    let k = is_beginning old.cell new.cell n who d h.0 h.1.turn h.1.leads in
    let over : IsOver old.cell new.cell n = look_refused old.cell new.cell (step.BeginOp n who d) n who d code.TooManyWaiting h.0 k h.2.0 in
    record { call = over.call; operation = over.rest.operation; registrations = over.rest.registrations; ears = over.rest.ears; waits = over.waits }
beginnings_keep old new n who d look.NoMemory h =
    let k = is_beginning old.cell new.cell n who d h.0 h.1.turn h.1.leads in
    let rest : RestStays (share_of old.cell n) (share_of new.cell n) = look_rest old.cell new.cell (step.BeginOp n who d) n who d h.0 k h.2 in
    record {
      call = look_call old.cell new.cell (step.BeginOp n who d) n who d h.0 k h.2;
      operation = rest.operation;
      registrations = rest.registrations;
      ears = rest.ears;
      waits = look_may old.cell n who d h.0 new.cell.queue h.2 k.queue;
    }

-- a call that takes one up

is_taking_up : (c d : Cell) (n : ℕ) (who : Who) (e : Call) (left : List (Mark ℕ)) → IsTurn c (step.TakeUp n who e) left → Leads c (step.TakeUp n who e) left d → IsLook c d (step.TakeUp n who e) n who e left
is_taking_up c d n who e left turn leads = record {
  ends_none = tt;
  keeps = tt;
  none_open = turn.can.0.no_call;
  may = turn.left;
  moves = record { base = leads.base; marks = leads.marks; registrations = leads.registrations; ears = leads.ears };
  queue = leads.queue;
}

taken_closes : (c : Cell) (n : ℕ) (who : Who) (e : Call) (boot : Option ℕ) (left : List (Mark ℕ)) → left ≡ mark.Admit n who (job_of e) e boot ∷ mark.TakeUp n who e ∷ [] → MayLeave c (step.TakeUp n who e) left
    → (standing (standing_of c) (mark.Admit n who (job_of e) e boot ∷ mark.TakeUp n who e ∷ [])).job ≡ None
taken_closes c n who e boot left only may =
    let so : MayLeave c (step.TakeUp n who e) (mark.Admit n who (job_of e) e boot ∷ mark.TakeUp n who e ∷ []) = subst (λ (xs : List (Mark ℕ)). MayLeave c (step.TakeUp n who e) xs) only may in
    take_up_closes (after (standing_of c) (mark.Admit n who (job_of e) e boot)) n who e so.2.0.1

pub takings_up_keep : TakingsUpKeep
takings_up_keep old new n who d look.Begun h =
    let k = is_taking_up old.cell new.cell n who d h.0 h.1.turn h.1.leads in
    let boot = live_boot (standing_of old.cell).state in
    begun_keeps old.cell new.cell (step.TakeUp n who d) n who d (mark.Admit n who (job_of d) d boot) (mark.TakeUp n who d ∷ []) h.0 k h.2.0
    (taken_closes old.cell n who d boot h.0 h.2.0 h.1.turn.left) h.2.1
takings_up_keep old new n who d (look.Done r) h =
    let k = is_taking_up old.cell new.cell n who d h.0 h.1.turn h.1.leads in
    let over : IsOver old.cell new.cell n = look_done old.cell new.cell (step.TakeUp n who d) n who d r h.0 k h.2 in
    record { call = over.call; operation = over.rest.operation; registrations = over.rest.registrations; ears = over.rest.ears; waits = over.waits }
takings_up_keep old new n who d (look.Excluded held boot looks) h =
    let k = is_taking_up old.cell new.cell n who d h.0 h.1.turn h.1.leads in
    let rest : RestStays (share_of old.cell n) (share_of new.cell n) = look_rest old.cell new.cell (step.TakeUp n who d) n who d h.0 k h.2.0 in
    record {
      call = look_call old.cell new.cell (step.TakeUp n who d) n who d h.0 k h.2.0;
      operation = rest.operation;
      registrations = rest.registrations;
      ears = rest.ears;
      waits = look_waits old.cell n who d h.0 new.cell.queue looks h.2.0 h.2.1.looks_are k.queue;
    }
takings_up_keep old new n who d (look.WaitersFull waiting) h =
    let k = is_taking_up old.cell new.cell n who d h.0 h.1.turn h.1.leads in
    let over : IsOver old.cell new.cell n = look_refused old.cell new.cell (step.TakeUp n who d) n who d code.TooManyWaiting h.0 k h.2.0 in
    record { call = over.call; operation = over.rest.operation; registrations = over.rest.registrations; ears = over.rest.ears; waits = over.waits }
takings_up_keep old new n who d look.NoMemory h =
    let k = is_taking_up old.cell new.cell n who d h.0 h.1.turn h.1.leads in
    let rest : RestStays (share_of old.cell n) (share_of new.cell n) = look_rest old.cell new.cell (step.TakeUp n who d) n who d h.0 k h.2 in
    record {
      call = look_call old.cell new.cell (step.TakeUp n who d) n who d h.0 k h.2;
      operation = rest.operation;
      registrations = rest.registrations;
      ears = rest.ears;
      waits = look_may old.cell n who d h.0 new.cell.queue h.2 k.queue;
    }
