-- What one turn leaves of the pass of a call that begins an operation or takes one up.
use Rattle.std.proofs.Common.{◌≡◌, inl, inr, ℕ, List, [], ◌∷◌, Option, None, Some, refl, sym, ap, ◌∙◌, subst}
use Rattle.virt_types.specs.Below.types_base.declared.caller.Front.{Front}
use Rattle.history_spec.specs.Pass.{own}
use Rattle.domain_spec.specs.Types.{Call, Reply, Who}
use Rattle.domain_spec.specs.Types.code
use Rattle.domain_spec.specs.declared.mark.Mark.{Mark}
use Rattle.domain_spec.specs.declared.mark.Mark.TheVariants as mark
use Rattle.domain_spec.specs.declared.open.OpenOperation.{OpenOperation}
use Rattle.domain_spec.specs.declared.standing.Standing.{Standing}
use Rattle.domain_spec.specs.Call.{job_of}
use Rattle.domain_spec.specs.Cell.{Share, share_of}
use Rattle.domain_spec.specs.Fold.{at_base}
use Rattle.domain_spec.specs.Laws.{IsCounted}
use Rattle.domain_spec.specs.Open.{job_held, operation_held}
use Rattle.domain_obj.specs.InTurn.{DomainPass, DomainTurn, GivesUp, IsRenewed}
use Rattle.domain_obj.specs.Placing.{IsLastPlace}
use Rattle.domain_obj.specs.Running.{IsLegalHistory}
use Rattle.domain_obj.proofs.Composing.{not_renewed_changes}
use Rattle.domain_obj.proofs.Going.{closed_share}
use Rattle.domain_core.specs.Celled.{CellShare, Celled, cell_in, standing_in}
use Rattle.domain_core.specs.Meaning.{history_of, meaning}
use Rattle.domain_obj.specs.Entered.{HasEntered, IsBegun, IsDoneNow, IsFirst, IsReadyToEnter, IsWaiting, operating}
use Rattle.domain_obj.specs.Entering.{Enters, EntersAnew, LooksForIn}
use Rattle.domain_obj.specs.Turned.{IsLeftNow}
use Rattle.domain_obj.specs.declared.operating.entering.Entry.{Entry}
use Rattle.domain_obj.specs.declared.operating.entering.Entry.TheVariants as entry
use Rattle.domain_obj.proofs.RunsEntering.{LeavesFor, leaves_for}
use Rattle.domain_obj.proofs.Moving.{Adds, still_history, still_standing}
use Rattle.domain_obj.proofs.Turned.{IsLeft, PassGoes, cell_becomes, change_leaves, given_up_after, given_up_waits, goes_of, goes_with, is_left, look_change, none_open, not_renewed_now, pass_becomes, pass_waits, placed_with, refused_now, same_but_waits}
use Rattle.job_rules.specs.declared.record.JobRecord.{JobRecord}
use Rattle.domain_core.specs.OfTurns.{IsDue}
use Rattle.domain_core.specs.OfTurns.{OperationLook}
use Rattle.domain_core.specs.OfTurns.operation_look_variants as look
use Rattle.domain_core.specs.OfShares.{waiting_by}
use Rattle.turn_cell.specs.Passes.{Enters as EntersTurn, left_by}
use Rattle.turn_cell.specs.Turning.{Changes}
use Rattle.domain_core.specs.OfShares.{live_in}
use Rattle.domain_core.specs.OfShares.{jobs_in}
use Rattle.domain_core.specs.OfShares.{whose}

-- it has its operation

due_some : (o : Option OpenOperation) (n : ℕ) (who : Who) → IsDue o n who → (p : OpenOperation) × (o ≡ Some p) × IsDue (Some p) n who
due_some None n who due = absurd due
due_some (Some p) n who due = (p, refl, due)

operates_so : (s t : Share) (o : Option OpenOperation) → t.waits ≡ None → t.call ≡ s.call → t.operation ≡ o → t.registrations ≡ s.registrations → t.ears ≡ s.ears → t ≡ record s { waits = None; operation = o }
operates_so s t o a b c d e = λ i. record { waits = a i; call = b i; operation = c i; registrations = d i; ears = e i }

begun_now : (n : ℕ) (who : Who) (d : Call) (before after : DomainPass) (a old new : Celled) (h : LeavesFor n who d old new look.Begun) → PassGoes n before after a new (own whose n h.left) → IsRenewed n who a old → before.share.kept.call ≡ None
    → IsBegun who d before after
begun_now n who d before after a old new h goes renewed none =
    let s = share_of (cell_in old) n in
    let t = share_of (cell_in new) n in
    let boot = live_in (cell_in old) in
    let chapter = new.core.turning.chapter in
    let (o, there, due) = due_some t.operation n who h.keeps.operation in
    let none_was : s.call ≡ None = none_open n who before after a old new (own whose n h.left) goes renewed none in
    let kept : t ≡ record s { waits = None; operation = Some o } = operates_so s t (Some o) h.keeps.waits (h.keeps.call ∙ sym none_was) there h.keeps.registrations h.keeps.ears in
    record {
      fresh = goes.fresh;
      chapter = chapter;
      boot = boot;
      first = h.first;
      is_first = subst (λ (k : ℕ). IsFirst k who d boot h.first) goes.number h.is_first;
      goes = goes_with n before after a new h.left (λ k. mark.Admit k who (job_of d) d boot ∷ h.first ∷ []) goes h.own_are.0;
      operation = o;
      due = subst (λ (k : ℕ). IsDue (Some o) k who) goes.number due;
      closed = closed_share after n new goes.share_is (ap (λ (x : CellShare). x.kept.call) goes.share_is ∙ h.keeps.call);
      share =
          pass_becomes n who before after a old new (own whose n h.left) (λ x. operating (Some o) x) goes renewed
          (cell_becomes old new n (record s { waits = None; operation = Some o }) none_was none_was kept);
    }

-- it has none, and waits or waits no more
waits_so : (n : ℕ) (who : Who) (d : Call) (old new : Celled) (result : OperationLook) (h : LeavesFor n who d old new result) → (share_of (cell_in new) n).operation ≡ (share_of (cell_in old) n).operation → (share_of (cell_in old) n).call ≡ None
    → share_of (cell_in new) n ≡ record (share_of (cell_in old) n) { waits = waiting_by result who }
waits_so n who d old new result h operation none =
    same_but_waits (share_of (cell_in old) n) (share_of (cell_in new) n) (waiting_by result who) (record { operation = operation; registrations = h.keeps.registrations; ears = h.keeps.ears }) none h.keeps.call h.waits

done_now : (n : ℕ) (who : Who) (d : Call) (before after : DomainPass) (a old new : Celled) (r : Reply) (place : Front) (h : LeavesFor n who d old new (look.Done r)) → PassGoes n before after a new (own whose n h.left) → IsRenewed n who a old
    → before.share.kept.call ≡ None → IsLastPlace place new → IsDoneNow who d before after r place
done_now n who d before after a old new r place h goes renewed none at =
    let done = h.own_are in
    let boot = live_in (cell_in old) in
    let chapter = new.core.turning.chapter in
    record {
      fresh = goes.fresh;
      chapter = chapter;
      boot = boot;
      asks = done.asks;
      answers = done.answers;
      events = done.events;
      goes = goes_with n before after a new h.left (λ k. mark.Admit k who (job_of d) d boot ∷ mark.Done k who d boot done.asks done.answers r done.events ∷ []) goes done.own_are;
      none_told = done.none_told;
      share =
          pass_waits n who before after a old new (own whose n h.left) None goes renewed none
          (waits_so n who d old new (look.Done r) h h.keeps.operation (none_open n who before after a old new (own whose n h.left) goes renewed none));
      placed = placed_with n before after a old new h.left (mark.Admit n who (job_of d) d boot ∷ []) (λ k. mark.Done k who d boot done.asks done.answers r done.events) place goes h.adds done.own_are at;
    }

waits_now : (n : ℕ) (who : Who) (d : Call) (before after : DomainPass) (a old new : Celled) (held : JobRecord) (boot : Option ℕ) (looks : ℕ) (h : LeavesFor n who d old new (look.Excluded held boot looks)) → PassGoes n before after a new (own whose n h.left)
    → IsRenewed n who a old → before.share.kept.call ≡ None → IsWaiting who before after
waits_now n who d before after a old new held boot looks h goes renewed none = record {
  fresh = goes.fresh;
  goes = goes_with n before after a new h.left (λ k. []) goes h.own_are;
  share =
      pass_waits n who before after a old new (own whose n h.left) (Some who) goes renewed none
      (waits_so n who d old new (look.Excluded held boot looks) h h.keeps.operation (none_open n who before after a old new (own whose n h.left) goes renewed none));
}

none_now : (n : ℕ) (who : Who) (d : Call) (before after : DomainPass) (a old new : Celled) (h : LeavesFor n who d old new look.NoMemory) → PassGoes n before after a new (own whose n h.left) → IsRenewed n who a old → before.share.kept.call ≡ None
    → IsLeftNow before after
none_now n who d before after a old new h goes renewed none = record {
  fresh = goes.fresh;
  goes = goes_with n before after a new h.left (λ k. []) goes h.own_are;
  share =
      pass_waits n who before after a old new (own whose n h.left) None goes renewed none
      (waits_so n who d old new look.NoMemory h h.keeps.operation (none_open n who before after a old new (own whose n h.left) goes renewed none));
}

-- which change a turn leaves

excluded_still : (n : ℕ) (who : Who) (d : Call) (old mid : Celled) (held : JobRecord) (boot : Option ℕ) (looks : ℕ) → LeavesFor n who d old mid (look.Excluded held boot looks) → history_of mid ≡ history_of old
excluded_still n who d old mid held boot looks h = still_history n old mid h.left h.adds h.found.0

given_up_leaves : (n : ℕ) (who : Who) (d : Call) (old mid new : Celled) (held : JobRecord) (boot : Option ℕ) (looks : ℕ) → LooksForIn n who d old mid (look.Excluded held boot looks) → GivesUp n who d mid new
    → (left : List (Mark ℕ)) × Adds n old new left × (own whose n left ≡ mark.Refused n who d code.OperationTimeout (jobs_in (cell_in mid)) ∷ [])
given_up_leaves n who d old mid new held boot looks h g =
    given_up_after n who d old mid new (excluded_still n who d old mid held boot looks (leaves_for n who d old mid (look.Excluded held boot looks) h)) h.others g

look_changes : (n : ℕ) (who : Who) (d : Call) (a old new : Celled) (result : OperationLook) → IsRenewed n who a old → LooksForIn n who d old new result → (more : List (Mark ℕ)) × Changes meaning n more a new
look_changes n who d a old new result renewed h = let leaves = leaves_for n who d old new result h in look_change n who a old new leaves.left renewed leaves.adds

enters_change : (n : ℕ) (who : Who) (d : Call) (turns : ℕ) (a old new : Celled) (r : Entry) → IsRenewed n who a old → Enters n who d turns old new r → (more : List (Mark ℕ)) × Changes meaning n more a new
enters_change n who d turns a old new entry.Begun renewed h = look_changes n who d a old new look.Begun renewed h
enters_change n who d turns a old new (entry.Done r) renewed h = look_changes n who d a old new (look.Done r) renewed h
enters_change n who d turns a old new entry.Waits renewed (held, boot, looks, h) = look_changes n who d a old new (look.Excluded held boot looks) renewed h
enters_change n who d turns a old new (entry.GaveUp held) renewed (mid, boot, looks, h, g, is_late) =
    let leaves = given_up_leaves n who d old mid new held boot looks h g in look_change n who a old new leaves.0 renewed leaves.1
enters_change n who d turns a old new entry.WaitersFull renewed (waiting, h) = look_changes n who d a old new (look.WaitersFull waiting) renewed h
enters_change n who d turns a old new entry.NoMemory renewed h = look_changes n who d a old new look.NoMemory renewed h

anew_changes : (n : ℕ) (who : Who) (d : Call) (turns : ℕ) (a new : Celled) (r : Entry) → EntersAnew n who d turns a new r → (more : List (Mark ℕ)) × Changes meaning n more a new
anew_changes n who d turns a new entry.NoMemory (inl h) = ([], not_renewed_changes n who a new h)
anew_changes n who d turns a new entry.NoMemory (inr (old, renewed, h)) = enters_change n who d turns a old new entry.NoMemory renewed h
anew_changes n who d turns a new entry.Begun (old, renewed, h) = enters_change n who d turns a old new entry.Begun renewed h
anew_changes n who d turns a new (entry.Done r) (old, renewed, h) = enters_change n who d turns a old new (entry.Done r) renewed h
anew_changes n who d turns a new entry.Waits (old, renewed, h) = enters_change n who d turns a old new entry.Waits renewed h
anew_changes n who d turns a new (entry.GaveUp held) (old, renewed, h) = enters_change n who d turns a old new (entry.GaveUp held) renewed h
anew_changes n who d turns a new entry.WaitersFull (old, renewed, h) = enters_change n who d turns a old new entry.WaitersFull renewed h

-- what became of the call

entered : (who : Who) (d : Call) (turns : ℕ) (before after : DomainPass) (turn now : DomainTurn) (place : Front) (old : Celled) (r : Entry) → IsLeft before after turn now → IsRenewed turn.pass.number who turn.value old
    → Enters turn.pass.number who d turns old now.value r → before.share.kept.call ≡ None → IsLastPlace place now.value → HasEntered who d turns before after place r
entered who d turns before after turn now place old entry.Begun l renewed h none at =
    let n = turn.pass.number in
    let leaves : LeavesFor n who d old now.value look.Begun = leaves_for n who d old now.value look.Begun h in
    begun_now n who d before after turn.value old now.value leaves (goes_of who before after turn now old leaves.left l renewed leaves.adds) renewed none
entered who d turns before after turn now place old (entry.Done r) l renewed h none at =
    let n = turn.pass.number in
    let leaves : LeavesFor n who d old now.value (look.Done r) = leaves_for n who d old now.value (look.Done r) h in
    done_now n who d before after turn.value old now.value r place leaves (goes_of who before after turn now old leaves.left l renewed leaves.adds) renewed none at
entered who d turns before after turn now place old entry.Waits l renewed (held, boot, looks, h) none at =
    let n = turn.pass.number in
    let leaves : LeavesFor n who d old now.value (look.Excluded held boot looks) = leaves_for n who d old now.value (look.Excluded held boot looks) h in
    waits_now n who d before after turn.value old now.value held boot looks leaves (goes_of who before after turn now old leaves.left l renewed leaves.adds) renewed none
entered who d turns before after turn now place old (entry.GaveUp held) l renewed (mid, boot, looks, h, g, is_late) none at =
    let n = turn.pass.number in
    let found : LeavesFor n who d old mid (look.Excluded held boot looks) = leaves_for n who d old mid (look.Excluded held boot looks) h in
    let leaves = given_up_leaves n who d old mid now.value held boot looks h g in
    let goes = goes_of who before after turn now old leaves.0 l renewed leaves.1 in
    let none_was : (share_of (cell_in old) n).call ≡ None = none_open n who before after turn.value old now.value (own whose n leaves.0) goes renewed none in
    let waited : share_of (cell_in mid) n ≡ record (share_of (cell_in old) n) { waits = Some who } = waits_so n who d old mid (look.Excluded held boot looks) found found.keeps.operation none_was in
    let same : standing_in mid ≡ standing_in old = still_standing old mid (excluded_still n who d old mid held boot looks found) in (
      jobs_in (cell_in mid),
      refused_now n who d code.OperationTimeout (jobs_in (cell_in mid)) before after turn.value old now.value leaves.0 place goes renewed leaves.1 none (given_up_waits n who d old mid now.value waited g) leaves.2 at,
      ap (λ (s : Standing). job_held s.job) same ∙ sym found.found.1.active_is,
      ap (λ (s : Standing). operation_held s.operation) same ∙ sym found.found.1.op_is,
      is_late,
    )
entered who d turns before after turn now place old entry.WaitersFull l renewed (waiting, h) none at =
    let n = turn.pass.number in
    let leaves : LeavesFor n who d old now.value (look.WaitersFull waiting) = leaves_for n who d old now.value (look.WaitersFull waiting) h in
    let goes = goes_of who before after turn now old leaves.left l renewed leaves.adds in
    let none_was : (share_of (cell_in old) n).call ≡ None = none_open n who before after turn.value old now.value (own whose n leaves.left) goes renewed none in (
      jobs_in (cell_in old),
      refused_now n who d code.TooManyWaiting (jobs_in (cell_in old)) before after turn.value old now.value leaves.left place goes renewed leaves.adds none (waits_so n who d old now.value (look.WaitersFull waiting) leaves leaves.keeps.operation none_was) leaves.own_are at,
    )
entered who d turns before after turn now place old entry.NoMemory l renewed h none at =
    let n = turn.pass.number in
    let leaves : LeavesFor n who d old now.value look.NoMemory = leaves_for n who d old now.value look.NoMemory h in
    none_now n who d before after turn.value old now.value leaves (goes_of who before after turn now old leaves.left l renewed leaves.adds) renewed none

entered_anew : (who : Who) (d : Call) (turns : ℕ) (before after : DomainPass) (turn now : DomainTurn) (place : Front) (r : Entry) → IsLeft before after turn now → EntersAnew turn.pass.number who d turns turn.value now.value r
    → before.share.kept.call ≡ None → IsLastPlace place now.value → HasEntered who d turns before after place r
entered_anew who d turns before after turn now place entry.NoMemory l (inl h) none at = not_renewed_now who before after turn now l h
entered_anew who d turns before after turn now place entry.NoMemory l (inr (old, renewed, h)) none at = entered who d turns before after turn now place old entry.NoMemory l renewed h none at
entered_anew who d turns before after turn now place entry.Begun l (old, renewed, h) none at = entered who d turns before after turn now place old entry.Begun l renewed h none at
entered_anew who d turns before after turn now place (entry.Done r) l (old, renewed, h) none at = entered who d turns before after turn now place old (entry.Done r) l renewed h none at
entered_anew who d turns before after turn now place entry.Waits l (old, renewed, h) none at = entered who d turns before after turn now place old entry.Waits l renewed h none at
entered_anew who d turns before after turn now place (entry.GaveUp held) l (old, renewed, h) none at = entered who d turns before after turn now place old (entry.GaveUp held) l renewed h none at
entered_anew who d turns before after turn now place entry.WaitersFull l (old, renewed, h) none at = entered who d turns before after turn now place old entry.WaitersFull l renewed h none at

-- from the calls of a turn

pub entered_leaves : (who : Who) (d : Call) (turns : ℕ) (before : DomainPass) (turn mid now : DomainTurn) (r : Entry) → EntersTurn meaning before turn → EntersAnew turn.pass.number who d turns turn.value mid.value r
    → mid ≡ record turn { value = mid.value } → now ≡ mid → (more : List (Mark ℕ)) × Changes meaning now.pass.number more now.entry now.value
entered_leaves who d turns before turn mid now r enters anew same told =
    let change = anew_changes turn.pass.number who d turns turn.value mid.value r anew in (change.0, change_leaves before turn mid now change.0 enters change.1 same told)

pub entered_once : (who : Who) (d : Call) (turns : ℕ) (before after : DomainPass) (turn mid now : DomainTurn) (place : Front) (r : Entry) → EntersTurn meaning before turn → IsReadyToEnter who before
    → EntersAnew turn.pass.number who d turns turn.value mid.value r → mid ≡ record turn { value = mid.value } → now ≡ mid → IsLastPlace place mid.value → IsLegalHistory (history_of mid.value) → IsCounted (at_base (cell_in mid.value).base)
    → after ≡ left_by meaning now → HasEntered who d turns before after place r
entered_once who d turns before after turn mid now place r enters ready anew same told at legal counted left =
    let value : mid.value ≡ now.value = ap (λ (t : DomainTurn). t.value) (sym told) in
    entered_anew who d turns before after turn now place r (is_left before after turn mid now enters same told legal counted left)
    (subst (λ (v : Celled). EntersAnew turn.pass.number who d turns turn.value v r) value anew) (ready enters.fresh).no_call (subst (λ (v : Celled). IsLastPlace place v) value at)
