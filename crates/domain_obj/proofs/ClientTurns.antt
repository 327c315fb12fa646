-- The turn in which a client registers, takes what pends for it, or leaves.
use Rattle.std.proofs.Common.{◌≡◌, inl, ℕ, ◌+◌, ◌||◌, List, [], ◌∷◌, ◌++◌, append-nil, drop, find, is_some, length, refl, sym, ap, ◌∙◌, subst, Bool, true, false, if◌then◌else◌, Option, None, Some, Result, Ok, Err}
use Rattle.std.proofs.Math.Seq.{drop-append_seam}
use Rattle.history_spec.specs.Begins.{Begins}
use Rattle.history_spec.specs.Chapter.{GoesOn, added, tagged}
use Rattle.history_spec.specs.Pass.{AreOf, own}
use Rattle.virt_types.specs.Below.types_base.declared.memory.NoMemory.{NoMemory}
use Rattle.domain_spec.specs.Types.{Transition}
use Rattle.domain_spec.specs.declared.core_step.CoreStep.TheVariants as step
use Rattle.domain_spec.specs.declared.mark.Mark.{Mark}
use Rattle.domain_spec.specs.declared.mark.Mark.TheVariants as mark
use Rattle.domain_spec.specs.declared.standing.Registration.{Registration}
use Rattle.domain_spec.specs.CanTake.{CanTake}
use Rattle.domain_spec.specs.Cell.{Share, share_of}
use Rattle.domain_spec.specs.Chapter.{next_base, rising_number}
use Rattle.domain_spec.specs.Registrations.{is_numbered}
use Rattle.domain_core.specs.Below.core_flight.Ledger.{with_marks}
use Rattle.domain_core.specs.Below.core_owed.Owing.{IsOrigin, IsOwed, IsOwing}
use Rattle.domain_core.specs.Below.core_owed.Taking.{taken_by}
use Rattle.domain_core.specs.Celled.{CellShare, Celled, KeepsOtherShares, cell_in, cell_share, standing_in}
use Rattle.domain_core.specs.Meaning.{history_of, meaning}
use Rattle.domain_core.specs.OfShares.{whose}
use Rattle.domain_core.proofs.Below.core_owed.Finding.{count_of, found_is_its, owed_found}
use Rattle.domain_core.proofs.Below.core_owed.Pending.{pending_is_rest}
use Rattle.domain_core.proofs.Registering.{registered_take}
use Rattle.domain_core.proofs.Linking.{same_true}
use Rattle.domain_obj.specs.Clients.{HandsOver, HasDropped, HasRegistered, HasTaken, HasTakenEvents, IsUntaken, Settles, StaysIn, TakesIn, end_marks, takings_after, with_takings}
use Rattle.domain_obj.specs.InTurn.{DomainPass, DomainTurn}
use Rattle.domain_obj.specs.Running.{DomainHistory, Goes, IsLegalHistory}
use Rattle.domain_obj.specs.declared.clients.Took.{Took}
use Rattle.domain_obj.proofs.Entering.{kept_found, kept_turn, may_leave}
use Rattle.domain_obj.proofs.Taking.{one_turn}
use Rattle.turn_cell.specs.Passes.{Enters, left_by}
use Rattle.turn_cell.specs.Turning.{Changes, HasTurned}
use Rattle.turn_cell.proofs.Turning.{has_turned}

-- a turn that adds these marks of its own, and nothing else to the history

added_more : (h : DomainHistory) (more : List (Mark ℕ)) → added h (with_marks h more) ≡ more
added_more h more =
    ap (λ (t : Bool). if t then drop (length h.marks) (h.marks ++ more) else h.marks ++ more) (same_true h.chapter h.chapter refl) ∙ drop-append_seam h.marks more

pub more_changes : (n : ℕ) (more : List (Mark ℕ)) (old new : Celled) → AreOf whose n more → own whose n more ≡ more → history_of new ≡ with_marks (history_of old) more → KeepsOtherShares n old new → Changes meaning n more old new
more_changes n more old new of_pass own_all history others =
    let is : added (history_of old) (history_of new) ≡ more = ap (λ (h : DomainHistory). added (history_of old) h) history ∙ added_more (history_of old) more in
    record {
      goes_on =
          subst (λ (h : DomainHistory). GoesOn (next_base (standing_in old) (cell_in old).registrations) (history_of old) h) (sym history)
          (inl (record { chapter = refl; base = refl; marks = (more, refl) }));
      marks = subst (λ (ms : List (Mark ℕ)). AreOf whose n ms) (sym is) of_pass;
      others = others;
      own_marks = ap (λ (ms : List (Mark ℕ)). own whose n ms) is ∙ own_all;
    }

ends_of : (end lost : Bool) (n client : ℕ) → AreOf whose n (end_marks end lost n client)
ends_of true false n client = (refl, tt)
ends_of true true n client = tt
ends_of false lost n client = tt

ends_own : (end lost : Bool) (n client : ℕ) → own whose n (end_marks end lost n client) ≡ end_marks end lost n client
ends_own true false n client = ap (λ (b : Bool). if b then mark.Unwatch n client ∷ [] else []) (same_true n n refl)
ends_own true true n client = refl
ends_own false lost n client = refl

-- such a turn of a pass

pub record IsOneTurn (more : List (Mark ℕ)) (found left : Celled) (before after : DomainPass) : Type 0 where
  pub goes : Goes 1 (tagged (history_of left).chapter more) before after
  pub fresh : before.spent ≡ false
  pub since : Begins rising_number before.seen (history_of found)
  pub share_was : cell_share found before.number ≡ before.share
  pub share_is : after.share ≡ cell_share left before.number
  pub saw : after.seen ≡ history_of left

pub in_one_turn : (more : List (Mark ℕ)) (before after : DomainPass) (first turn mid now : DomainTurn) → Enters meaning before first → turn ≡ first → Changes meaning turn.pass.number more turn.value mid.value
    → mid ≡ record turn { value = mid.value } → now ≡ mid → IsLegalHistory (history_of mid.value) → after ≡ left_by meaning now → IsOneTurn more turn.value mid.value before after
in_one_turn more before after first turn mid now entered begun change same told legal left =
    let enters : Enters meaning before turn = subst (λ (x : DomainTurn). Enters meaning before x) (sym begun) entered in
    let value : now.value ≡ mid.value = ap (λ (t : DomainTurn). t.value) told in
    let kept = kept_turn turn mid now same told in
    let change_now : Changes meaning turn.pass.number more turn.value now.value = subst (λ (v : Celled). Changes meaning turn.pass.number more turn.value v) (sym value) change in
    let turned : HasTurned meaning before after turn.entry now.value = has_turned meaning before after turn now enters kept left in
    record {
      goes =
          subst (λ (v : Celled). Goes 1 (tagged (history_of v).chapter more) before after) value
          (one_turn more before after turn now enters kept change_now (subst (λ (v : Celled). IsLegalHistory (history_of v)) (sym value) legal) left);
      fresh = enters.fresh;
      since = subst (λ (v : Celled). Begins rising_number before.seen (history_of v)) (sym enters.value) enters.seen;
      share_was = ap (λ (v : Celled). cell_share v before.number) enters.value ∙ enters.share;
      share_is = turned.share ∙ ap (λ (v : Celled). cell_share v before.number) value;
      saw = turned.seen ∙ ap history_of value;
    }

pub in_one_leave : (more : List (Mark ℕ)) (before : DomainPass) (first turn mid now : DomainTurn) → Enters meaning before first → turn ≡ first → Changes meaning turn.pass.number more turn.value mid.value → mid ≡ record turn { value = mid.value } → now ≡ mid
    → Changes meaning now.pass.number more now.entry now.value
in_one_leave more before first turn mid now entered begun change same told =
    let enters : Enters meaning before turn = subst (λ (x : DomainTurn). Enters meaning before x) (sym begun) entered in
    let value : now.value ≡ mid.value = ap (λ (t : DomainTurn). t.value) told in
    may_leave before turn now more enters (kept_turn turn mid now same told) (subst (λ (v : Celled). Changes meaning turn.pass.number more turn.value v) (sym value) change)

pub number_of : (before : DomainPass) (first turn : DomainTurn) → Enters meaning before first → turn ≡ first → turn.pass.number ≡ before.number
number_of before first turn entered begun = ap (λ (t : DomainTurn). t.pass.number) begun ∙ ap (λ (p : DomainPass). p.number) entered.pass

-- a pass that has a registration can take

some_of : {A : Type 0} (o : Option A) → is_some o ≡ true → (x : A) × (o ≡ Some x)
some_of None e = cc
some_of (Some x) e = (x, refl)

pub can_take : (client : ℕ) (before : DomainPass) (first turn : DomainTurn) → HasRegistered client before → Enters meaning before first → turn ≡ first → CanTake (cell_in turn.value) (step.Take turn.pass.number client)
can_take client before first turn has entered begun =
    let enters : Enters meaning before turn = subst (λ (x : DomainTurn). Enters meaning before x) (sym begun) entered in
    let there = some_of (taken_by before.share.kept.registrations client) (has enters.fresh) in
    registered_take (cell_in turn.value) turn.pass.number client there.0
    (ap (λ (s : Share). taken_by s.registrations client) (sym (kept_found before turn enters)) ∙ there.1)

-- what was taken is what was owed and not taken before

module _ (client : ℕ) (end : Bool) (before after : DomainPass) (found left : Celled) where
  its_origin : (r : Registration) → IsOwing (cell_in found) → find (is_numbered client) (cell_in found).registrations ≡ Some r → IsOwed (cell_in found).base (cell_in found).marks r
  its_origin r owing is = owed_found (cell_in found).base (cell_in found).marks (cell_in found).registrations client r owing.each is

  pub taken_once : (events : List Transition) (lost : Bool) (r : Registration) → IsOwing (cell_in found) → TakesIn before.number client end found left r → events ≡ r.pending → lost ≡ r.is_lost
      → IsOneTurn (end_marks end lost before.number client) found left before after → HasTakenEvents client end before after events lost
  taken_once events lost r owing takes events_are lost_is one =
      let n = before.number in
      let b = (cell_in found).base in
      let ms = (cell_in found).marks in
      let rest = pending_is_rest b ms r (its_origin r owing takes.found) in
      let o = rest.0 in
      let is : IsOrigin b ms n client o =
      subst (λ (k : ℕ). IsOrigin b ms k client o) takes.numbered (subst (λ (k : ℕ). IsOrigin b ms r.number k o) (found_is_its (cell_in found).registrations client r takes.found) rest.1) in
      let history : history_of left ≡ with_marks (history_of found) (end_marks end lost n client) = takes.history ∙ ap (λ (x : Bool). with_marks (history_of found) (end_marks end x n client)) (sym lost_is) in
      record {
        fresh = one.fresh;
        found = history_of found;
        since = one.since;
        goes = subst (λ (h : DomainHistory). Goes 1 (tagged h.chapter (end_marks end lost n client)) before after) history one.goes;
        saw = one.saw ∙ history;
        had = r.taken;
        registered = ap (λ (s : CellShare). taken_by s.kept.registrations client) (sym one.share_was) ∙ count_of n client (cell_in found).registrations r takes.found takes.numbered;
        origin = o;
        is_origin = is;
        counted = rest.2.counted;
        events_are = events_are ∙ rest.2.pending;
        lost_is = lost_is ∙ rest.2.lost;
        share =
            one.share_is ∙ takes.share
            ∙ ap (λ (x : Bool). with_takings (cell_share found n) (takings_after (x || end) (share_of (cell_in found) n).registrations client (r.taken + length r.pending))) (sym lost_is)
            ∙ ap (λ (l : List Transition). with_takings (cell_share found n) (takings_after (lost || end) (share_of (cell_in found) n).registrations client (r.taken + length l))) (sym events_are)
            ∙ ap (λ (s : CellShare). with_takings s (takings_after (lost || end) s.kept.registrations client (r.taken + length events))) one.share_was;
      }

  pub untaken_once : StaysIn before.number found left → IsOneTurn [] found left before after → IsUntaken before after
  untaken_once stays one = record { fresh = one.fresh; goes = one.goes; share = one.share_is ∙ stays.share ∙ one.share_was }

-- the turn of a taking

abbrev pub marks_taken : Bool → ℕ → ℕ → Result Took NoMemory → List (Mark ℕ)
marks_taken end n client (Ok took) = end_marks end took.is_lost n client
marks_taken end n client (Err e) = []

pub hands_change : (n client : ℕ) (end : Bool) (old new : Celled) (r : Result Took NoMemory) → HandsOver n client end old new r → Changes meaning n (marks_taken end n client r) old new
hands_change n client end old new (Ok took) h =
    more_changes n (end_marks end took.is_lost n client) old new (ends_of end took.is_lost n client) (ends_own end took.is_lost n client)
    (h.1.history ∙ ap (λ (x : Bool). with_marks (history_of old) (end_marks end x n client)) (sym h.3)) h.1.others
hands_change n client end old new (Err e) h =
    more_changes n [] old new tt refl (h.history ∙ sym (ap (λ (ms : List (Mark ℕ)). record (history_of old) { marks = ms }) (append-nil (history_of old).marks))) h.others

pub handed_once : (client : ℕ) (end : Bool) (before after : DomainPass) (found left : Celled) (r : Result Took NoMemory) → IsOwing (cell_in found) → HandsOver before.number client end found left r
    → IsOneTurn (marks_taken end before.number client r) found left before after → HasTaken client end before after r
handed_once client end before after found left (Ok took) owing h one = taken_once client end before after found left took.events took.is_lost h.0 owing h.1 h.2 h.3 one
handed_once client end before after found left (Err e) owing h one = untaken_once client end before after found left h one

pub took_leave : (client : ℕ) (end : Bool) (before : DomainPass) (first turn mid now : DomainTurn) (r : Result Took NoMemory) → Enters meaning before first → turn ≡ first → HandsOver turn.pass.number client end turn.value mid.value r
    → mid ≡ record turn { value = mid.value } → now ≡ mid → Changes meaning now.pass.number (marks_taken end turn.pass.number client r) now.entry now.value
took_leave client end before first turn mid now r entered begun h same told =
    in_one_leave (marks_taken end turn.pass.number client r) before first turn mid now entered begun (hands_change turn.pass.number client end turn.value mid.value r h) same told

pub took_turn : (client : ℕ) (end : Bool) (before after : DomainPass) (first turn mid now : DomainTurn) (r : Result Took NoMemory) → Enters meaning before first → turn ≡ first → HandsOver turn.pass.number client end turn.value mid.value r
    → mid ≡ record turn { value = mid.value } → now ≡ mid → IsLegalHistory (history_of mid.value) → after ≡ left_by meaning now → IsOneTurn (marks_taken end turn.pass.number client r) turn.value mid.value before after
took_turn client end before after first turn mid now r entered begun h same told legal left =
    in_one_turn (marks_taken end turn.pass.number client r) before after first turn mid now entered begun (hands_change turn.pass.number client end turn.value mid.value r h) same told legal left

pub took_once : (client : ℕ) (end : Bool) (before after : DomainPass) (first turn mid now : DomainTurn) (r : Result Took NoMemory) → Enters meaning before first → turn ≡ first → IsOwing (cell_in first.value) → HandsOver turn.pass.number client end turn.value mid.value r
    → mid ≡ record turn { value = mid.value } → now ≡ mid → IsLegalHistory (history_of mid.value) → after ≡ left_by meaning now → HasTaken client end before after r
took_once client end before after first turn mid now r entered begun owing h same told legal left =
    let number = number_of before first turn entered begun in
    handed_once client end before after turn.value mid.value r (subst (λ (t : DomainTurn). IsOwing (cell_in t.value)) (sym begun) owing)
    (subst (λ (k : ℕ). HandsOver k client end turn.value mid.value r) number h)
    (subst (λ (k : ℕ). IsOneTurn (marks_taken end k client r) turn.value mid.value before after) number (took_turn client end before after first turn mid now r entered begun h same told legal left))

-- the turn in which a registration is dropped

pub settles_change : (n client : ℕ) (old new : Celled) (lost : Bool) → Settles n client true old new lost → Changes meaning n (end_marks true lost n client) old new
settles_change n client old new lost h =
    more_changes n (end_marks true lost n client) old new (ends_of true lost n client) (ends_own true lost n client)
    (h.takes.history ∙ ap (λ (x : Bool). with_marks (history_of old) (end_marks true x n client)) (sym h.lost_is)) h.takes.others

pub drop_leave : (client : ℕ) (before : DomainPass) (first turn mid now : DomainTurn) (lost : Bool) → Enters meaning before first → turn ≡ first → Settles turn.pass.number client true turn.value mid.value lost
    → mid ≡ record turn { value = mid.value } → now ≡ mid → Changes meaning now.pass.number (end_marks true lost turn.pass.number client) now.entry now.value
drop_leave client before first turn mid now lost entered begun h same told =
    in_one_leave (end_marks true lost turn.pass.number client) before first turn mid now entered begun (settles_change turn.pass.number client turn.value mid.value lost h) same told

pub drop_turn : (client : ℕ) (before after : DomainPass) (first turn mid now : DomainTurn) (lost : Bool) → Enters meaning before first → turn ≡ first → Settles turn.pass.number client true turn.value mid.value lost
    → mid ≡ record turn { value = mid.value } → now ≡ mid → IsLegalHistory (history_of mid.value) → after ≡ left_by meaning now → IsOneTurn (end_marks true lost turn.pass.number client) turn.value mid.value before after
drop_turn client before after first turn mid now lost entered begun h same told legal left =
    in_one_turn (end_marks true lost turn.pass.number client) before after first turn mid now entered begun (settles_change turn.pass.number client turn.value mid.value lost h) same told legal left

pub dropped_once : (client : ℕ) (before after : DomainPass) (first turn mid now : DomainTurn) (lost : Bool) → Enters meaning before first → turn ≡ first → IsOwing (cell_in first.value) → Settles turn.pass.number client true turn.value mid.value lost
    → mid ≡ record turn { value = mid.value } → now ≡ mid → IsLegalHistory (history_of mid.value) → after ≡ left_by meaning now → HasDropped client before after
dropped_once client before after first turn mid now lost entered begun owing h same told legal left =
    let number = number_of before first turn entered begun in
    let is : Settles before.number client true turn.value mid.value lost = subst (λ (k : ℕ). Settles k client true turn.value mid.value lost) number h in
    record {
      events = is.registration.pending;
      lost = lost;
      taken =
          taken_once client true before after turn.value mid.value is.registration.pending lost is.registration (subst (λ (t : DomainTurn). IsOwing (cell_in t.value)) (sym begun) owing) is.takes refl is.lost_is
          (subst (λ (k : ℕ). IsOneTurn (end_marks true lost k client) turn.value mid.value before after) number (drop_turn client before after first turn mid now lost entered begun h same told legal left));
    }
