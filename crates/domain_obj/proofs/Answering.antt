-- The turn of an answer.
use Rattle.std.proofs.Common.{◌≡◌, ℕ, ◌==◌, ◌++◌, List, [], ◌∷◌, Bool, true, false, Option, None, Some, if◌then◌else◌, refl, sym, ap, ◌∙◌, subst}
use Rattle.history_spec.specs.Chapter.{tagged}
use Rattle.history_spec.specs.Pass.{AreOf, own}
use Rattle.domain_spec.specs.Types.{Answer, Ask}
use Rattle.domain_spec.specs.declared.core_step.CoreStep.TheVariants as step
use Rattle.domain_spec.specs.declared.mark.Mark.{Mark}
use Rattle.domain_spec.specs.Cell.{Cell, OpenCall, Share, as_let_in, asks_so_far, call_of, share_of, standing_of}
use Rattle.domain_spec.specs.declared.open.OpenJob.{OpenJob}
use Rattle.domain_core.specs.Celled.{CellShare, Celled, KeepsOtherShares, cell_in, cell_share, standing_in}
use Rattle.domain_core.specs.Meaning.{history_of, meaning}
use Rattle.domain_core.proofs.Changing.{turns_change}
use Rattle.domain_core.specs.OfTurns.{Back as CoreBack}
use Rattle.domain_core.specs.OfTurns.back_variants as core_back
use Rattle.domain_core.specs.OfTurns.{GoesBack}
use Rattle.domain_core.specs.OfTurns.{AsksLast as LastAsk, HasTurned, Takes, Turning}
use Rattle.domain_obj.specs.Asking.{AsksLast, IsAsked}
use Rattle.virt_types.specs.Below.types_base.declared.caller.Front.{Front}
use Rattle.domain_obj.specs.InTurn.{DomainPass, DomainTurn, GoesBackIn}
use Rattle.domain_obj.specs.Placing.{IsLastPlace}
use Rattle.domain_obj.specs.Running.{Goes, IsLegalHistory}
use Rattle.domain_obj.specs.Turns.{BackWaits, HasAnswered, IsClosedSo}
use Rattle.domain_obj.proofs.Closed.{closed_so}
use Rattle.domain_obj.proofs.Entering.{awaits_now, kept_found, kept_turn, may_leave}
use Rattle.domain_obj.proofs.Taking.{one_turn}
use Rattle.domain_core.specs.Tickets.{IsLinkAsked, IsMadeAsAsked, back_of}
use Rattle.monitor_link.specs.Views.{LinkView}
use Rattle.domain_core.specs.OfShares.{AsksThis}
use Rattle.domain_core.specs.declared.ticket.Back.{Back}
use Rattle.turn_cell.specs.Passes.{Enters, left_by}
use Rattle.turn_cell.specs.Turning.{Changes, HasTurned as PassTurned}
use Rattle.turn_cell.proofs.Turning.{has_turned}
use Rattle.domain_core.specs.OfShares.{IsAnsweredTo}
use Rattle.domain_core.proofs.OfShares.{answers_keep}
use Rattle.domain_core.specs.OfShares.{BackLeaves}
use Rattle.domain_core.specs.OfShares.{IsSteady}
use Rattle.domain_core.proofs.OfShares.{answers_leave}
use Rattle.domain_core.specs.OfShares.{whose}
use Rattle.domain_core.proofs.OfShares.{marks_are_own}

back_changes : (n : ℕ) (x : Answer) (old new : Celled) (left : List (Mark ℕ)) → HasTurned old.core.turning new.core.turning (step.Back n x) left → KeepsOtherShares n old new → Changes meaning n (own whose n left) old new
back_changes n x old new left turned others = turns_change old new (step.Back n x) n left refl turned others

-- an answer

open_call : (o : Option OpenCall) (y : Ask) → LastAsk o y → (c : OpenCall) × (o ≡ Some c) × (before : List Ask) × (c.asks ≡ before ++ y ∷ [])
open_call None y h = absurd h
open_call (Some c) y h = (c, refl, h.0, h.1)

-- a link that was made as the open call of the pass asked

asks_in : (c : Cell) (o : Option OpenJob) (n : ℕ) (y : Ask) → AsksLast (call_of (standing_of c) o c.answers n) y → AsksThis c o y
asks_in c None n y h = absurd h
asks_in c (Some j) n y h = by (j.number == n) h where
  by : (t : Bool) → AsksLast (if t then Some (record { job = as_let_in j; asks = asks_so_far (standing_of c) j.job j c.answers; answers = c.answers }) else None) y → AsksThis c (Some j) y
  by true h = h
  by false h = absurd h

pub asks_there : (before : DomainPass) (first turn : DomainTurn) (asked : Ask) (made : Option LinkView) → IsAsked before asked → Enters meaning before first → turn ≡ first → IsLinkAsked asked made → IsMadeAsAsked (cell_in turn.value) made
asks_there before first turn asked made last entered begun is =
    let enters : Enters meaning before turn = subst (λ (t : DomainTurn). Enters meaning before t) (sym begun) entered in
    let c : Cell = cell_in turn.value in
    record {
      last = asked;
      asks = asks_in c (standing_of c).job turn.pass.number asked (subst (λ (s : Share). AsksLast s.call asked) (kept_found before turn enters) last);
      is_its = is;
    }

back_waits : (n : ℕ) (x : Answer) (old new : Turning) (r : CoreBack) (o : Option OpenCall) → GoesBack n x old new r → o ≡ (share_of new.cell n).call → BackWaits r o
back_waits n x old new (core_back.Away y) o h e = awaits_now new.cell n o y h.1.leads.away e (subst (λ (c : Option OpenCall). LastAsk c y) (sym e) h.2.1)
back_waits n x old new (core_back.Done r) o h e = tt
back_waits n x old new (core_back.Phased st) o h e = tt

back_leaves : (before : DomainPass) (turn : DomainTurn) (mid : Celled) (asked : Ask) (x : Answer) (r : CoreBack) (c : OpenCall) (asks : List Ask) → Enters meaning before turn → IsSteady (standing_in turn.value) → before.share.kept.call ≡ Some c → c.asks ≡ asks ++ asked ∷ []
    → GoesBack turn.pass.number x turn.value.core.turning mid.core.turning r
    → Takes turn.value.core.turning mid.core.turning (step.Back turn.pass.number x) (BackLeaves turn.pass.number c asked x (share_of (cell_in turn.value) turn.pass.number) (share_of (cell_in mid) turn.pass.number) r)
back_leaves before turn mid asked x r c asks enters steady was is goes =
    answers_leave turn.value.core.turning mid.core.turning turn.pass.number x r c asks asked goes steady (ap (λ (s : Share). s.call) (sym (kept_found before turn enters)) ∙ was) is

pub back_may_leave : {G M E Z : Type 0} (before : DomainPass) (first turn mid now : DomainTurn) (asked : Ask) (x : Answer) (r : Back G M E Z) → IsAsked before asked → Enters meaning before first → turn ≡ first → IsSteady (standing_in first.value)
    → GoesBackIn turn.pass.number x turn.value mid.value r → mid ≡ record turn { value = mid.value } → now ≡ mid → (more : List (Mark ℕ)) × Changes meaning now.pass.number more now.entry now.value
back_may_leave before first turn mid now asked x r last entered begun steady goes same told =
    let enters : Enters meaning before turn = subst (λ (t : DomainTurn). Enters meaning before t) (sym begun) entered in
    let steady_now : IsSteady (standing_in turn.value) = subst (λ (t : DomainTurn). IsSteady (standing_in t.value)) (sym begun) steady in
    let (c, was, asks, is) = open_call before.share.kept.call asked last in
    let value : now.value ≡ mid.value = ap (λ (t : DomainTurn). t.value) told in
    let n = turn.pass.number in
    let leaves = back_leaves before turn mid.value asked x (back_of r) c asks enters steady_now was is goes.back in (
      own whose n leaves.0,
      may_leave before turn now (own whose n leaves.0) enters (kept_turn turn mid now same told)
          (subst (λ (v : Celled). Changes meaning n (own whose n leaves.0) turn.value v) (sym value) (back_changes n x turn.value mid.value leaves.0 leaves.1 goes.others)),
    )

pub answered_once : {G M E Z : Type 0} (before after : DomainPass) (first turn mid now : DomainTurn) (asked : Ask) (x : Answer) (b : Back G M E Z) (place : Front) → IsLastPlace place mid.value → IsAsked before asked → Enters meaning before first → turn ≡ first
    → IsSteady (standing_in first.value) → GoesBackIn turn.pass.number x turn.value mid.value b → mid ≡ record turn { value = mid.value } → now ≡ mid → IsLegalHistory (history_of mid.value) → after ≡ left_by meaning now → HasAnswered asked x before after b place
answered_once before after first turn mid now asked x b place at last entered begun steady goes same told legal left =
    let enters : Enters meaning before turn = subst (λ (t : DomainTurn). Enters meaning before t) (sym begun) entered in
    let steady_now : IsSteady (standing_in turn.value) = subst (λ (t : DomainTurn). IsSteady (standing_in t.value)) (sym begun) steady in
    let (c, was, asks, is) = open_call before.share.kept.call asked last in
    let value : now.value ≡ mid.value = ap (λ (t : DomainTurn). t.value) told in
    let n = turn.pass.number in
    let number : n ≡ before.number = ap (λ (p : DomainPass). p.number) enters.pass in
    let kept = kept_turn turn mid now same told in
    let r : CoreBack = back_of b in
    let leaves = back_leaves before turn mid.value asked x r c asks enters steady_now was is goes.back in
    let change : Changes meaning n (own whose n leaves.0) turn.value now.value =
    subst (λ (v : Celled). Changes meaning n (own whose n leaves.0) turn.value v) (sym value) (back_changes n x turn.value mid.value leaves.0 leaves.1 goes.others) in
    let turned : PassTurned meaning before after turn.entry now.value = has_turned meaning before after turn now enters kept left in
    let share : after.share ≡ cell_share mid.value before.number = turned.share ∙ ap (λ (v : Celled). cell_share v before.number) value in
    let of_pass : AreOf whose n leaves.0 = marks_are_own (cell_in turn.value) (step.Back n x) n leaves.0 refl leaves.1.turn in
    let kept_now : share_of (cell_in mid.value) n ≡ after.share.kept = ap (λ (k : ℕ). share_of (cell_in mid.value) k) number ∙ sym (ap (λ (s : CellShare). s.kept) share) in
    record {
      old = turn.value;
      new = mid.value;
      left = leaves.0;
      call = c;
      was_open = was;
      goes =
          subst (λ (k : ℕ). Goes 1 (tagged mid.value.core.turning.chapter (own whose k leaves.0)) before after) number
          (subst (λ (v : Celled). Goes 1 (tagged v.core.turning.chapter (own whose n leaves.0)) before after) value
          (one_turn (own whose n leaves.0) before after turn now enters kept change (subst (λ (v : Celled). IsLegalHistory (history_of v)) (sym value) legal) left));
      leaves =
          subst (λ (k : ℕ). BackLeaves k c asked x before.share.kept after.share.kept r leaves.0) number
          (subst (λ (s : Share). BackLeaves n c asked x s after.share.kept r leaves.0) (sym (kept_found before turn enters))
          (subst (λ (s : Share). BackLeaves n c asked x (share_of (cell_in turn.value) n) s r leaves.0) kept_now leaves.2));
      closed =
          subst (λ (k : ℕ). IsClosedSo k c leaves.0 b) number
          (closed_so turn.value.core.turning mid.value.core.turning n x c asked (share_of (cell_in turn.value) n) (share_of (cell_in mid.value) n) leaves.0 b goes.back
          (ap (λ (s : Share). s.call) (sym (kept_found before turn enters)) ∙ was) of_pass leaves.1 leaves.2 goes.leads);
      share_was = ap (λ (v : Celled). cell_share v before.number) enters.value ∙ enters.share;
      share_is = share;
      same_chapter = leaves.1.chapter;
      ticket = goes.ticket;
      waits =
          back_waits n x turn.value.core.turning mid.value.core.turning r after.share.kept.call goes.back
          (ap (λ (s : Share). s.call) (sym kept_now));
      keeps =
          subst (λ (s : Share). IsAnsweredTo s after.share.kept r) (sym (kept_found before turn enters))
          (subst (λ (s : Share). IsAnsweredTo (share_of (cell_in turn.value) n) s r) kept_now (answers_keep turn.value.core.turning mid.value.core.turning n x r goes.back));
      saw = turned.seen ∙ ap history_of value;
      marks_are = leaves.1.leads.marks;
      of_pass = subst (λ (k : ℕ). AreOf whose k leaves.0) number of_pass;
      place_is = at;
    }
