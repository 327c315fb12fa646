-- What a call does in one turn that begins an operation or takes one up, as one change of its cell.
use Rattle.std.proofs.Common.{◌≡◌, inl, inr, ◌≤◌, ℕ, List, [], ◌∷◌, is_some, true, Option, refl, sym, ap, subst}
use Rattle.domain_spec.specs.Types.{Call, Who}
use Rattle.domain_spec.specs.declared.core_step.CoreStep.{CoreStep}
use Rattle.domain_spec.specs.declared.core_step.CoreStep.TheVariants as step
use Rattle.domain_spec.specs.declared.mark.Mark.{Mark}
use Rattle.domain_spec.specs.declared.mark.Mark.TheVariants as mark
use Rattle.domain_spec.specs.Call.{begins, job_of, takes_up}
use Rattle.domain_spec.specs.CanTake.{CanTake}
use Rattle.domain_spec.specs.Cell.{Share, share_of}
use Rattle.domain_obj.specs.InTurn.{DomainTurn, IsRenewed}
use Rattle.domain_obj.proofs.Composing.{renewed_share}
use Rattle.domain_core.specs.Celled.{CellShare, Celled, KeepsOtherShares, cell_in}
use Rattle.domain_core.proofs.Changing.{turns_change}
use Rattle.domain_core.specs.Shares.{IsFree}
use Rattle.domain_obj.specs.Entered.{IsFirst}
use Rattle.domain_obj.specs.Entering.{LooksFor, LooksForIn, MayEnter}
use Rattle.domain_obj.proofs.Moving.{Adds, give_up_then, waiters_give_up}
use Rattle.domain_obj.proofs.Turned.{none_own}
use Rattle.domain_core.specs.OfTurns.{IsFound}
use Rattle.domain_core.specs.OfTurns.{HasTurned, Takes}
use Rattle.job_rules.specs.declared.record.JobRecord.{JobRecord}
use Rattle.domain_core.specs.OfOperations.{Looks}
use Rattle.domain_core.specs.OfTurns.{LooksToBegin, LooksToTakeUp}
use Rattle.domain_core.specs.OfTurns.{OperationLook}
use Rattle.domain_core.specs.OfTurns.operation_look_variants as look
use Rattle.domain_core.specs.OfShares.{IsLookedFor}
use Rattle.domain_core.specs.OfShares.{waiting_by}
use Rattle.domain_core.proofs.OfShares.{beginnings_keep, takings_up_keep}
use Rattle.domain_core.proofs.OfShares.{operation_queues_tell}
use Rattle.domain_core.specs.OfShares.{HasStarted, HasTakenUp, OperationLeaves, live_in}
use Rattle.domain_core.proofs.OfShares.{beginnings_leave, takings_up_leave}
use Rattle.domain_core.proofs.OfShares.{marks_are_own}

-- a call that may look before a chapter ends may look after it

pub may_enter_renewed : (n : ℕ) (who : Who) (a b : Celled) → IsRenewed n who a b → MayEnter n who a → MayEnter n who b
may_enter_renewed n who a b renewed may = subst (λ (s : Share). IsFree s who) (ap (λ (s : CellShare). s.kept) (sym (renewed_share n who a b renewed))) may

pub may_enter_then : (who : Who) (turn now : DomainTurn) → IsRenewed turn.pass.number who turn.value now.value → now ≡ record turn { value = now.value } → MayEnter turn.pass.number who turn.value → MayEnter now.pass.number who now.value
may_enter_then who turn now renewed same may =
    subst (λ (k : ℕ). MayEnter k who now.value) (sym (ap (λ (t : DomainTurn). t.pass.number) same)) (may_enter_renewed turn.pass.number who turn.value now.value renewed may)

-- where a call was excluded it left no mark, and found this; nor did it without memory
abbrev pub FoundBy : Who → Call → Celled → Celled → OperationLook → List (Mark ℕ) → Type 0
FoundBy who d old new (look.Excluded held boot looks) left = (left ≡ []) × IsFound old.core.turning new.core.turning who d held.active held.op boot looks
FoundBy who d old new look.NoMemory left = left ≡ []
FoundBy who d old new other left = Unit {0}

-- what a look leaves for an operation, be it to begin it or to take one up
pub record LeavesFor (n : ℕ) (who : Who) (d : Call) (old new : Celled) (result : OperationLook) : Type 0 where
  pub left : List (Mark ℕ)
  pub first : Mark ℕ
  pub is_first : IsFirst n who d (live_in (cell_in old)) first
  pub own_are : OperationLeaves n who d (cell_in old) first (Unit {0}) result left
  pub found : FoundBy who d old new result left
  pub adds : Adds n old new left
  pub keeps : IsLookedFor n who (share_of (cell_in old) n) (share_of (cell_in new) n) result
  pub waits : (share_of (cell_in new) n).waits ≡ waiting_by result who

-- so it is with the step of either look

abbrev Found : ℕ → Who → Call → Celled → Celled → Mark ℕ → OperationLook → List (Mark ℕ) → Type 0
Found n who d old new first result left = OperationLeaves n who d (cell_in old) first (Unit {0}) result left × FoundBy who d old new result left

found_by : (t : CoreStep ℕ) (marks : List (Mark ℕ)) (first : Mark ℕ) (IsThere : Type 0) (n : ℕ) (who : Who) (d : Call) (old new : Celled) (result : OperationLook) → Looks t marks n who d old.core.turning new.core.turning result
    → Takes old.core.turning new.core.turning t (OperationLeaves n who d (cell_in old) first IsThere result) → Takes old.core.turning new.core.turning t (Found n who d old new first result)
found_by t marks first IsThere n who d old new look.Begun h l = (l.0, l.1, ((l.2.0, tt), tt))
found_by t marks first IsThere n who d old new (look.Done r) h l = (l.0, l.1, (l.2, tt))
found_by t marks first IsThere n who d old new (look.Excluded held boot looks) h l = (h.0, h.1, (none_own n h.0 h.2.0, h.2))
found_by t marks first IsThere n who d old new (look.WaitersFull waiting) h l = (l.0, l.1, (l.2, tt))
found_by t marks first IsThere n who d old new look.NoMemory h l = (h.0, h.1, (none_own n h.0 h.2, h.2))

-- an operation begins

begin_adds : (n : ℕ) (who : Who) (d : Call) (old new : Celled) (left : List (Mark ℕ)) → HasTurned old.core.turning new.core.turning (step.BeginOp n who d) left → KeepsOtherShares n old new → Adds n old new left
begin_adds n who d old new left turned others = record {
  chapter = turned.chapter;
  base = turned.leads.base;
  marks = turned.leads.marks;
  of_pass = marks_are_own (cell_in old) (step.BeginOp n who d) n left refl turned.turn;
  change = turns_change old new (step.BeginOp n who d) n left refl turned others;
}

begin_leaves : (n : ℕ) (who : Who) (d : Call) (old new : Celled) (result : OperationLook) → is_some (begins d) ≡ true → LooksToBegin n who d old.core.turning new.core.turning result → KeepsOtherShares n old new
    → (share_of (cell_in new) n).waits ≡ waiting_by result who → LeavesFor n who d old new result
begin_leaves n who d old new result begins h others waits =
    let boot = live_in (cell_in old) in
    let first = mark.Start n who d boot in
    let leaves = beginnings_leave old.core.turning new.core.turning n who d result h in
    let found = found_by (step.BeginOp n who d) (mark.Admit n who (job_of d) d boot ∷ first ∷ []) first (HasStarted n who d (cell_in old) (cell_in new)) n who d old new result h leaves in
    record {
      left = found.0;
      first = first;
      is_first = inl (begins, refl);
      own_are = found.2.0;
      found = found.2.1;
      adds = begin_adds n who d old new found.0 found.1 others;
      keeps = beginnings_keep old.core.turning new.core.turning n who d result h;
      waits = waits;
    }

-- one is taken up

take_up_adds : (n : ℕ) (who : Who) (d : Call) (old new : Celled) (left : List (Mark ℕ)) → HasTurned old.core.turning new.core.turning (step.TakeUp n who d) left → KeepsOtherShares n old new → Adds n old new left
take_up_adds n who d old new left turned others = record {
  chapter = turned.chapter;
  base = turned.leads.base;
  marks = turned.leads.marks;
  of_pass = marks_are_own (cell_in old) (step.TakeUp n who d) n left refl turned.turn;
  change = turns_change old new (step.TakeUp n who d) n left refl turned others;
}

take_up_leaves : (n : ℕ) (who : Who) (d : Call) (old new : Celled) (result : OperationLook) → is_some (takes_up d) ≡ true → LooksToTakeUp n who d old.core.turning new.core.turning result → KeepsOtherShares n old new
    → (share_of (cell_in new) n).waits ≡ waiting_by result who → LeavesFor n who d old new result
take_up_leaves n who d old new result takes h others waits =
    let boot = live_in (cell_in old) in
    let first = mark.TakeUp n who d in
    let leaves = takings_up_leave old.core.turning new.core.turning n who d result h in
    let found = found_by (step.TakeUp n who d) (mark.Admit n who (job_of d) d boot ∷ first ∷ []) first (HasTakenUp n who d (cell_in old) (cell_in new)) n who d old new result h leaves in
    record {
      left = found.0;
      first = first;
      is_first = inr (takes, refl);
      own_are = found.2.0;
      found = found.2.1;
      adds = take_up_adds n who d old new found.0 found.1 others;
      keeps = takings_up_keep old.core.turning new.core.turning n who d result h;
      waits = waits;
    }

-- either

look_leaves : (n : ℕ) (who : Who) (d : Call) (old new : Celled) (result : OperationLook) → LooksFor n who d old.core.turning new.core.turning result → KeepsOtherShares n old new → (share_of (cell_in new) n).waits ≡ waiting_by result who
    → LeavesFor n who d old new result
look_leaves n who d old new result (inl (begins, h)) others waits = begin_leaves n who d old new result begins h others waits
look_leaves n who d old new result (inr (takes, h)) others waits = take_up_leaves n who d old new result takes h others waits

pub leaves_for : (n : ℕ) (who : Who) (d : Call) (old new : Celled) (result : OperationLook) → LooksForIn n who d old new result → LeavesFor n who d old new result
leaves_for n who d old new result h = look_leaves n who d old new result h.looks h.others (operation_queues_tell (cell_in old) (cell_in new) n who result h.queue)

-- where it was excluded often enough it can give up
pub may_give_up_then : (who : Who) (d : Call) (turn now : DomainTurn) (held : JobRecord) (boot : Option ℕ) (looks : ℕ) → LooksForIn turn.pass.number who d turn.value now.value (look.Excluded held boot looks) → 30 ≤ looks
    → now ≡ record turn { value = now.value } → CanTake (cell_in now.value) (step.GiveUp now.pass.number who d)
may_give_up_then who d turn now held boot looks h enough same =
    let n = turn.pass.number in
    let leaves : LeavesFor n who d turn.value now.value (look.Excluded held boot looks) = leaves_for n who d turn.value now.value (look.Excluded held boot looks) h in
    give_up_then who d turn now (waiters_give_up n who d now.value looks leaves.waits leaves.found.1.looks_are enough) same
