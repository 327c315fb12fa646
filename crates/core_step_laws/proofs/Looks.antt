-- What a look leaves of the share of its own number.
use Rattle.std.proofs.Common.{◌≡◌, ℕ, List, [], ◌∷◌, length, Option, None, refl, sym, ap, ◌∙◌, subst}
use Rattle.domain_spec.specs.Types.{Ask, Call, RefusalCode, Reply, Who}
use Rattle.domain_spec.specs.Types.code
use Rattle.domain_spec.specs.declared.core_step.CoreStep.{CoreStep}
use Rattle.domain_spec.specs.declared.core_step.CoreStep.TheVariants as step
use Rattle.domain_spec.specs.declared.core_step.First.{First}
use Rattle.domain_spec.specs.declared.mark.Mark.{Mark}
use Rattle.domain_spec.specs.declared.mark.Mark.TheVariants as mark
use Rattle.domain_spec.specs.declared.open.OpenJob.{OpenJob}
use Rattle.domain_spec.specs.declared.standing.Standing.{Standing}
use Rattle.domain_spec.specs.CanTake.{IsNotJobOf}
use Rattle.domain_spec.specs.Cell.{Cell, share_of, standing_of, waits_of}
use Rattle.domain_spec.specs.Fold.{standing}
use Rattle.domain_spec.specs.Kept.{LooksOn}
use Rattle.domain_spec.specs.Turns.{IsTurn, Leads, MayLeave}
use Rattle.core_steps.specs.declared.looking.Looked.TheVariants as looked
use Rattle.core_steps.specs.Refusing.{HasRefused}
use Rattle.core_steps.specs.Turning.{AsksLast, HasDone}
use Rattle.core_step_laws.specs.Looked.{LooksKeep}
use Rattle.core_step_laws.specs.Staying.{RestStays}
use Rattle.core_step_laws.proofs.Closing.{EndsNone, IsFree, left_done, left_open}
use Rattle.core_step_laws.proofs.Listing.{KeepsClients}
use Rattle.core_step_laws.proofs.Parts.{Moves, asks_there, call_none, call_other, moved, rest_stays}
use Rattle.core_step_laws.proofs.Waiting.{look_may, look_waits, some_left}

-- a turn in which a call looks, of this kind
pub record IsLook (c d : Cell) (t : CoreStep ℕ) (n : ℕ) (who : Who) (e : Call) (left : List (Mark ℕ)) : Type 0 where
  pub ends_none : EndsNone t
  pub keeps : KeepsClients t
  pub none_open : IsNotJobOf (standing_of c).job n
  pub may : MayLeave c t left
  pub moves : Moves c d left
  pub queue : LooksOn c n who e left d.queue

-- one that is done

pub record IsOver (c d : Cell) (n : ℕ) : Type 0 where
  pub rest : RestStays (share_of c n) (share_of d n)
  pub call : (share_of d n).call ≡ None
  pub waits : (share_of d n).waits ≡ None

done_waits : (c d : Cell) (n : ℕ) (who : Who) (e : Call) (r : Reply) (left : List (Mark ℕ)) → HasDone n r left → LooksOn c n who e left d.queue → waits_of d.queue.passes n ≡ None
done_waits c d n who e r [] done h = absurd done
done_waits c d n who e r (m ∷ left) done h = some_left c n who e m left d.queue h

pub look_done : (c d : Cell) (t : CoreStep ℕ) (n : ℕ) (who : Who) (e : Call) (r : Reply) (left : List (Mark ℕ)) → IsLook c d t n who e left → HasDone n r left → IsOver c d n
look_done c d t n who e r left k done =
    let free : IsFree (standing_of c) (standing (standing_of c) left) = left_done c t n r left k.ends_none k.may done in
    record {
      rest = rest_stays c d t n left k.moves k.keeps k.may free.operation;
      call = call_none d n (ap (λ (s : Standing). s.job) (moved c d left k.moves) ∙ free.job);
      waits = done_waits c d n who e r left done k.queue;
    }

-- one that is away

one_waits : (c d : Cell) (n : ℕ) (who : Who) (e : Call) (left : List (Mark ℕ)) → length left ≡ 1 → LooksOn c n who e left d.queue → waits_of d.queue.passes n ≡ None
one_waits c d n who e [] one h = cc
one_waits c d n who e (m ∷ left) one h = some_left c n who e m left d.queue h

pub record IsOut (c d : Cell) (n : ℕ) : Type 0 where
  pub rest : RestStays (share_of c n) (share_of d n)
  pub waits : (share_of d n).waits ≡ None

pub look_away : (c d : Cell) (t : CoreStep ℕ) (n : ℕ) (who : Who) (e : Call) (x : Ask) (left : List (Mark ℕ)) → IsLook c d t n who e left → length left ≡ 1 → AsksLast (share_of d n).call x → IsOut c d n
look_away c d t n who e x left k one asks =
    let there : (standing (standing_of c) left).job ≡ None → ⊥ = λ none. asks_there d n x asks (ap (λ (s : Standing). s.job) (moved c d left k.moves) ∙ none) in
    record {
      rest = rest_stays c d t n left k.moves k.keeps k.may (left_open c t left k.ends_none k.may there);
      waits = one_waits c d n who e left one k.queue;
    }

-- one that leaves no mark

same_by : (c : Cell) (left : List (Mark ℕ)) → left ≡ [] → standing (standing_of c) left ≡ standing_of c
same_by c left none = ap (λ (ms : List (Mark ℕ)). standing (standing_of c) ms) none

pub look_rest : (c d : Cell) (t : CoreStep ℕ) (n : ℕ) (who : Who) (e : Call) (left : List (Mark ℕ)) → IsLook c d t n who e left → left ≡ [] → RestStays (share_of c n) (share_of d n)
look_rest c d t n who e left k none = rest_stays c d t n left k.moves k.keeps k.may (ap (λ (s : Standing). s.operation) (same_by c left none))

pub look_call : (c d : Cell) (t : CoreStep ℕ) (n : ℕ) (who : Who) (e : Call) (left : List (Mark ℕ)) → IsLook c d t n who e left → left ≡ [] → (share_of d n).call ≡ None
look_call c d t n who e left k none =
    call_other d n (subst (λ (s : Standing). IsNotJobOf s.job n) (sym (moved c d left k.moves ∙ same_by c left none)) k.none_open)

-- one that was refused

refused_operation : (c : Cell) (n : ℕ) (who : Who) (e : Call) (why : RefusalCode) (left : List (Mark ℕ)) → HasRefused n who e why left → (standing (standing_of c) left).operation ≡ (standing_of c).operation
refused_operation c n who e why [] h = absurd h
refused_operation c n who e why (mark.Refused number w d code held ∷ []) h = refl
refused_operation c n who e why (mark.Refused number w d code held ∷ k ∷ left) h = absurd h
refused_operation c n who e why (k ∷ left) h = absurd h

refused_job : (c : Cell) (n : ℕ) (who : Who) (e : Call) (why : RefusalCode) (left : List (Mark ℕ)) → HasRefused n who e why left → (standing (standing_of c) left).job ≡ (standing_of c).job
refused_job c n who e why [] h = absurd h
refused_job c n who e why (mark.Refused number w d code held ∷ []) h = refl
refused_job c n who e why (mark.Refused number w d code held ∷ k ∷ left) h = absurd h
refused_job c n who e why (k ∷ left) h = absurd h

refused_waits : (c d : Cell) (n : ℕ) (who : Who) (e : Call) (why : RefusalCode) (left : List (Mark ℕ)) → HasRefused n who e why left → LooksOn c n who e left d.queue → waits_of d.queue.passes n ≡ None
refused_waits c d n who e why [] refused h = absurd refused
refused_waits c d n who e why (m ∷ left) refused h = some_left c n who e m left d.queue h

pub look_refused : (c d : Cell) (t : CoreStep ℕ) (n : ℕ) (who : Who) (e : Call) (why : RefusalCode) (left : List (Mark ℕ)) → IsLook c d t n who e left → HasRefused n who e why left → IsOver c d n
look_refused c d t n who e why left k refused = record {
  rest = rest_stays c d t n left k.moves k.keeps k.may (refused_operation c n who e why left refused);
  call =
      call_other d n
      (subst (λ (j : Option OpenJob). IsNotJobOf j n) (sym (ap (λ (s : Standing). s.job) (moved c d left k.moves) ∙ refused_job c n who e why left refused)) k.none_open);
  waits = refused_waits c d n who e why left refused k.queue;
}

-- a call that begins no operation

is_look : (c d : Cell) (n : ℕ) (who : Who) (e : Call) (f : First) (left : List (Mark ℕ)) → IsTurn c (step.Look n who e f) left → Leads c (step.Look n who e f) left d → IsLook c d (step.Look n who e f) n who e left
is_look c d n who e f left turn leads = record {
  ends_none = tt;
  keeps = tt;
  none_open = turn.can.none_open.no_call;
  may = turn.left;
  moves = record { base = leads.base; marks = leads.marks; registrations = leads.registrations; ears = leads.ears };
  queue = leads.queue;
}

pub looks_keep : LooksKeep
looks_keep old new n who d f (looked.Done r) h =
    let k = is_look old.cell new.cell n who d f h.0 h.1.turn h.1.leads in
    let over : IsOver old.cell new.cell n = look_done old.cell new.cell (step.Look n who d f) n who d r h.0 k h.2 in
    record { rest = over.rest; call = over.call; waits = over.waits }
looks_keep old new n who d f (looked.Away x) h =
    let k = is_look old.cell new.cell n who d f h.0 h.1.turn h.1.leads in
    let out : IsOut old.cell new.cell n = look_away old.cell new.cell (step.Look n who d f) n who d x h.0 k h.2.0 h.2.1 in
    record { rest = out.rest; call = h.2.1; waits = out.waits }
looks_keep old new n who d f (looked.Excluded held boot looks) h =
    let k = is_look old.cell new.cell n who d f h.0 h.1.turn h.1.leads in
    record {
      rest = look_rest old.cell new.cell (step.Look n who d f) n who d h.0 k h.2.0;
      call = look_call old.cell new.cell (step.Look n who d f) n who d h.0 k h.2.0;
      waits = look_waits old.cell n who d h.0 new.cell.queue looks h.2.0 h.2.1.looks_are k.queue;
    }
looks_keep old new n who d f (looked.WaitersFull waiting) h =
    let k = is_look old.cell new.cell n who d f h.0 h.1.turn h.1.leads in
    let over : IsOver old.cell new.cell n = look_refused old.cell new.cell (step.Look n who d f) n who d code.TooManyWaiting h.0 k h.2.0 in
    record { rest = over.rest; call = over.call; waits = over.waits }
looks_keep old new n who d f looked.NoMemory h =
    let k = is_look old.cell new.cell n who d f h.0 h.1.turn h.1.leads in
    record {
      rest = look_rest old.cell new.cell (step.Look n who d f) n who d h.0 k h.2;
      call = look_call old.cell new.cell (step.Look n who d f) n who d h.0 k h.2;
      waits = look_may old.cell n who d h.0 new.cell.queue h.2 k.queue;
    }
