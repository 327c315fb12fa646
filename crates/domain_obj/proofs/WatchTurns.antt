-- The turn in which a client registers.
use Rattle.std.proofs.Common.{◌≡◌, ℕ, List, [], ◌∷◌, ◌++◌, append-nil, refl, sym, ap, ◌∙◌, subst, Bool, true, if◌then◌else◌, Option, Result, Ok, Err}
use Rattle.std.specs.List.{list_any}
use Rattle.history_spec.specs.Chapter.{tagged}
use Rattle.history_spec.specs.Pass.{AreOf, own}
use Rattle.domain_spec.specs.declared.core_step.CoreStep.TheVariants as step
use Rattle.domain_spec.specs.declared.mark.Mark.{Mark}
use Rattle.domain_spec.specs.declared.mark.Mark.TheVariants as mark
use Rattle.domain_spec.specs.declared.standing.Registration.{Registration}
use Rattle.domain_spec.specs.Cell.{OpenCall, Share, share_of}
use Rattle.domain_spec.specs.Registrations.{is_numbered}
use Rattle.domain_spec.specs.Turns.{IsNextClient, MayLeave}
use Rattle.domain_core.specs.Below.core_flight.Ledger.{with_marks}
use Rattle.domain_core.specs.Below.core_owed.Owing.{IsOrigin, IsOwing}
use Rattle.domain_core.specs.Below.core_steps.Clients.{watch_marks}
use Rattle.domain_core.specs.Below.core_steps.declared.watching.WatchFault.TheVariants as fault
use Rattle.domain_core.specs.Below.event_queue.Listening.{registrations}
use Rattle.domain_core.specs.Celled.{CellShare, Celled, cell_in, cell_share, chapter_of, monitor_of}
use Rattle.domain_core.specs.Meaning.{history_of, meaning}
use Rattle.domain_core.specs.OfShares.{whose}
use Rattle.domain_core.specs.OfTurns.{WatchFault}
use Rattle.domain_core.proofs.Below.core_owed.Finding.{found_is_its, owed_found, some_there}
use Rattle.domain_core.proofs.Linking.{same_true}
use Rattle.domain_core.proofs.OfShares.{watches_keep}
use Rattle.domain_obj.specs.Clients.{HasWatched, IsRegisteredIn, IsWhyNot, WatchesIn, with_takings}
use Rattle.domain_obj.specs.InTurn.{DomainPass, DomainTurn}
use Rattle.domain_obj.specs.Running.{DomainHistory, Goes, IsLegalHistory}
use Rattle.domain_obj.proofs.ClientTurns.{IsOneTurn, in_one_leave, in_one_turn, more_changes, number_of}
use Rattle.domain_obj.proofs.ClientCells.{takings_share}
use Rattle.domain_obj.proofs.Listened.{has_kept}
use Rattle.domain_obj.proofs.SilentTurns.{share_parts}
use Rattle.turn_cell.specs.Passes.{Enters, left_by}
use Rattle.turn_cell.specs.Turning.{Changes}

watch_of : {E : Type 0} (n : ℕ) (r : Result ℕ E) → AreOf whose n (watch_marks n r)
watch_of n (Ok client) = (refl, tt)
watch_of n (Err e) = tt

watch_own : {E : Type 0} (n : ℕ) (r : Result ℕ E) → own whose n (watch_marks n r) ≡ watch_marks n r
watch_own n (Ok client) = ap (λ (b : Bool). if b then mark.Watch n client ∷ [] else []) (same_true n n refl)
watch_own n (Err e) = refl

watch_history : (n : ℕ) (old new : Celled) (r : Result ℕ WatchFault) → WatchesIn n old new r → history_of new ≡ with_marks (history_of old) (watch_marks n r)
watch_history n old new r h =
    let takes = h.watches.turn in
    let marks : (cell_in new).marks ≡ (cell_in old).marks ++ watch_marks n r = takes.1.leads.marks ∙ ap (λ (ms : List (Mark ℕ)). (cell_in old).marks ++ ms) takes.2 in
    let base : (cell_in new).base ≡ (cell_in old).base = takes.1.leads.base in
    let chapter : new.core.turning.chapter ≡ old.core.turning.chapter = takes.1.chapter in
    λ i. record { chapter = chapter i; base = base i; marks = marks i }

watch_change : (n : ℕ) (old new : Celled) (r : Result ℕ WatchFault) → WatchesIn n old new r → Changes meaning n (watch_marks n r) old new
watch_change n old new r h = more_changes n (watch_marks n r) old new (watch_of n r) (watch_own n r) (watch_history n old new r h) h.others

-- who is registered

registered_in : (c : Celled) (k : ℕ) → IsOwing (cell_in c) → list_any (is_numbered k) (cell_in c).registrations ≡ true → IsRegisteredIn (history_of c) k
registered_in c k owing any =
    let rs : List Registration = (cell_in c).registrations in
    let there = some_there rs k any in
    let owed = owed_found (cell_in c).base (cell_in c).marks rs k there.0 owing.each there.1 in
    (there.0.number, owed.origin, subst (λ (j : ℕ). IsOrigin (cell_in c).base (cell_in c).marks there.0.number j owed.origin) (found_is_its rs k there.0 there.1) owed.is_origin)

next_of : (n client : ℕ) (old new : Celled) → WatchesIn n old new (Ok client) → IsNextClient (cell_in old) client
next_of n client old new h =
    let takes = h.watches.turn in
    (subst (λ (ms : List (Mark ℕ)). MayLeave (cell_in old) (step.Watch n) ms) takes.2 takes.1.turn.left).0.2

why_not : (old new : Celled) (n : ℕ) (why : WatchFault) → IsOwing (cell_in old) → (cell_in old).registrations ≡ registrations old.core.turning.listeners → WatchesIn n old new (Err why) → IsWhyNot (history_of old) why
why_not old new n fault.Vacant owing listed h = h.watches.why
why_not old new n (fault.Full count) owing listed h =
    (h.watches.why.0, h.watches.why.2, (λ k below. registered_in old k owing (ap (λ (rs : List Registration). list_any (is_numbered k) rs) listed ∙ sym (has_kept old.core.turning.listeners k) ∙ h.watches.why.1 k below)))
why_not old new n fault.NoMemory owing listed h = tt

-- what is kept for the pass

same_share : (n : ℕ) (old new : Celled) → share_of (cell_in new) n ≡ share_of (cell_in old) n → new.out ≡ old.out → new.core.turning.chapter ≡ old.core.turning.chapter → cell_share new n ≡ cell_share old n
same_share n old new kept out same =
    share_parts (cell_share old n) (cell_share new n) kept
    (ap (λ (o : Option OpenCall). monitor_of o new.out) (ap (λ (s : Share). s.call) kept) ∙ ap (λ (y : Option ℕ). monitor_of (share_of (cell_in old) n).call y) out)
    (ap (λ (o : Option OpenCall). chapter_of o new.core.turning.chapter) (ap (λ (s : Share). s.call) kept) ∙ ap (λ (k : ℕ). chapter_of (share_of (cell_in old) n).call k) same)

watched_by : (before after : DomainPass) (found left : Celled) (r : Result ℕ WatchFault) → IsOwing (cell_in found) → (cell_in found).registrations ≡ registrations found.core.turning.listeners → WatchesIn before.number found left r
    → IsOneTurn (watch_marks before.number r) found left before after → HasWatched before after r
watched_by before after found left (Ok client) owing listed h one =
    let n = before.number in
    let takes = h.watches.turn in
    let history = watch_history n found left (Ok client) h in
    let next = next_of n client found left h in
    record {
      fresh = one.fresh;
      found = history_of found;
      since = one.since;
      goes = subst (λ (g : DomainHistory). Goes 1 (tagged g.chapter (mark.Watch n client ∷ [])) before after) history one.goes;
      saw = one.saw ∙ history;
      domain = next.domain;
      below = next.below;
      least = λ k less. registered_in found k owing (next.least k less);
      share =
          one.share_is
          ∙ takings_share n found left ((share_of (cell_in found) n).registrations ++ record { client = client; taken = 0 } ∷ []) (watches_keep found.core.turning left.core.turning n (Ok client) takes) h.out takes.1.chapter
          ∙ ap (λ (s : CellShare). with_takings s (s.kept.registrations ++ record { client = client; taken = 0 } ∷ [])) one.share_was;
    }
watched_by before after found left (Err why) owing listed h one =
    let n = before.number in
    let takes = h.watches.turn in
    let history = watch_history n found left (Err why) h ∙ ap (λ (ms : List (Mark ℕ)). record (history_of found) { marks = ms }) (append-nil (history_of found).marks) in (
      record {
        fresh = one.fresh;
        goes = one.goes;
        share = one.share_is ∙ same_share n found left (watches_keep found.core.turning left.core.turning n (Err why) takes) h.out takes.1.chapter ∙ one.share_was;
      },
      subst (λ (g : DomainHistory). IsWhyNot g why) (sym (one.saw ∙ history)) (why_not found left n why owing listed h),
    )

-- the turn

pub watch_leave : (before : DomainPass) (first turn mid now : DomainTurn) (r : Result ℕ WatchFault) → Enters meaning before first → turn ≡ first → WatchesIn turn.pass.number turn.value mid.value r → mid ≡ record turn { value = mid.value } → now ≡ mid
    → Changes meaning now.pass.number (watch_marks turn.pass.number r) now.entry now.value
watch_leave before first turn mid now r entered begun h same told =
    in_one_leave (watch_marks turn.pass.number r) before first turn mid now entered begun (watch_change turn.pass.number turn.value mid.value r h) same told

pub watch_turn : (before after : DomainPass) (first turn mid now : DomainTurn) (r : Result ℕ WatchFault) → Enters meaning before first → turn ≡ first → WatchesIn turn.pass.number turn.value mid.value r → mid ≡ record turn { value = mid.value } → now ≡ mid
    → IsLegalHistory (history_of mid.value) → after ≡ left_by meaning now → IsOneTurn (watch_marks turn.pass.number r) turn.value mid.value before after
watch_turn before after first turn mid now r entered begun h same told legal left =
    in_one_turn (watch_marks turn.pass.number r) before after first turn mid now entered begun (watch_change turn.pass.number turn.value mid.value r h) same told legal left

pub watched_once : (before after : DomainPass) (first turn mid now : DomainTurn) (r : Result ℕ WatchFault) → Enters meaning before first → turn ≡ first → IsOwing (cell_in first.value)
    → (cell_in first.value).registrations ≡ registrations first.value.core.turning.listeners → WatchesIn turn.pass.number turn.value mid.value r → mid ≡ record turn { value = mid.value } → now ≡ mid
    → IsLegalHistory (history_of mid.value) → after ≡ left_by meaning now → HasWatched before after r
watched_once before after first turn mid now r entered begun owing listed h same told legal left =
    let number = number_of before first turn entered begun in
    watched_by before after turn.value mid.value r (subst (λ (t : DomainTurn). IsOwing (cell_in t.value)) (sym begun) owing)
    (subst (λ (t : DomainTurn). (cell_in t.value).registrations ≡ registrations t.value.core.turning.listeners) (sym begun) listed)
    (subst (λ (k : ℕ). WatchesIn k turn.value mid.value r) number h)
    (subst (λ (k : ℕ). IsOneTurn (watch_marks k r) turn.value mid.value before after) number (watch_turn before after first turn mid now r entered begun h same told legal left))
