-- What a client takes, and what is kept then.
use Rattle.std.proofs.Common.{◌≡◌, inl, inr, ◌≤◌, ℕ, ◌+◌, ◌==◌, ◌&&◌, ◌||◌, nat_le, List, [], ◌∷◌, ◌++◌, append-nil, find, length, map, refl, sym, ap, ◌∙◌, subst, arith, Bool, true, false, if◌then◌else◌, Option, Some, Ok, eq-eqb}
use Rattle.std.specs.List.{list_any}
use Rattle.std.proofs.lemmas.Bool.Decides.{nat_tests}
use Rattle.domain_spec.specs.Types.{Transition}
use Rattle.domain_spec.specs.declared.core_step.CoreStep.TheVariants as step
use Rattle.domain_spec.specs.declared.mark.Mark.{Mark}
use Rattle.domain_spec.specs.declared.mark.Mark.TheVariants as mark
use Rattle.domain_spec.specs.declared.standing.Registration.{Registration}
use Rattle.domain_spec.specs.CanTake.{CanTake}
use Rattle.domain_spec.specs.Cell.{Cell, OpenCall, Share, Taken, share_of}
use Rattle.domain_spec.specs.Registrations.{is_numbered, tells_loss}
use Rattle.domain_core.specs.Below.core_flight.Ledger.{with_marks}
use Rattle.domain_core.specs.Below.core_owed.Owing.{AreApart, IsOwing}
use Rattle.domain_core.specs.Below.core_steps.ClientLaws.{IsDropping, IsTaking}
use Rattle.domain_core.specs.Below.event_queue.Listening.{HandsOut, Listening, dropped_by, has_client, listening_of, registrations}
use Rattle.domain_core.specs.Below.event_queue.declared.taken.Taken.TheVariants as taken
use Rattle.domain_core.specs.Celled.{CellShare, Celled, KeepsOtherShares, cell_in, cell_share, chapter_of, monitor_of}
use Rattle.domain_core.specs.Meaning.{history_of}
use Rattle.domain_core.specs.OfShares.{AreApart as AreKeptApart, taken_then, with_its, without_its}
use Rattle.domain_core.specs.OfTurns.{Takes, Turning}
use Rattle.domain_core.proofs.Below.core_owed.Finding.{emptied as emptied_one, found_at, found_taken, is_there}
use Rattle.domain_core.proofs.Registering.{dropped_quietly, taken_quietly}
use Rattle.domain_core.proofs.OfShares.{takes_keep, unwatches_keep}
use Rattle.domain_obj.specs.Clients.{HandsOver, Settles, StaysIn, end_marks, takings_after, with_takings}
use Rattle.domain_obj.specs.Running.{DomainHistory}
use Rattle.domain_obj.proofs.Listened.{IsListener, dropped_found, dropped_gone, events_handed, found_place, has_kept, listener_of, loss_handed}
use Rattle.domain_obj.proofs.SilentTurns.{history_at, share_parts}
use Rattle.domain_obj.proofs.Takings.{dropped_takings, gone_of, of_pass, then_without, with_again}

-- the registration of a client that can take

pub record IsOwn (n client : ℕ) (c : Cell) : Type 0 where
  pub one : Registration
  pub found : find (is_numbered client) c.registrations ≡ Some one
  pub numbered : one.number ≡ n
  pub its : one.client ≡ client

pub own_of : (n client : ℕ) (c : Cell) → AreApart c.registrations → CanTake c (step.Take n client) → IsOwn n client c
own_of n client c apart can = record { one = can.0; found = found_at c.registrations client can.1.2 can.0 apart can.1.3 can.1.1; numbered = can.1.0; its = can.1.1 }

kept_apart : (rs : List Registration) → AreApart rs → AreKeptApart rs
kept_apart [] h = tt
kept_apart (r ∷ rs) h = (h.0, kept_apart rs h.1)

-- what is kept for the number

pub takings_share : (n : ℕ) (old new : Celled) (ts : List Taken) → share_of (cell_in new) n ≡ record (share_of (cell_in old) n) { registrations = ts } → new.out ≡ old.out → new.core.turning.chapter ≡ old.core.turning.chapter
    → cell_share new n ≡ with_takings (cell_share old n) ts
takings_share n old new ts kept out same =
    share_parts (with_takings (cell_share old n) ts) (cell_share new n) kept
    (ap (λ (o : Option OpenCall). monitor_of o new.out) (ap (λ (s : Share). s.call) kept) ∙ ap (λ (y : Option ℕ). monitor_of (share_of (cell_in old) n).call y) out)
    (ap (λ (o : Option OpenCall). chapter_of o new.core.turning.chapter) (ap (λ (s : Share). s.call) kept) ∙ ap (λ (k : ℕ). chapter_of (share_of (cell_in old) n).call k) same)

abbrev all_of : ℕ → Cell → List Taken
all_of n c = (share_of c n).registrations

-- one taking, or two, change nothing else

record Moves (n : ℕ) (old new : Turning) : Type 0 where
  chapter : new.chapter ≡ old.chapter
  ts : List Taken
  kept : share_of new.cell n ≡ record (share_of old.cell n) { registrations = ts }

taking_moves : (n client : ℕ) (old new : Turning) → AreApart old.cell.registrations → IsTaking n client old new → Moves n old new
taking_moves n client old new apart h =
    let keeps = takes_keep old new n client (kept_apart old.cell.registrations apart) h in
    record { chapter = h.1.chapter; ts = with_its (share_of old.cell n).registrations client (taken_then keeps.0); kept = keeps.2 }

moves_on : (n : ℕ) (a b c : Turning) → Moves n a b → Moves n b c → Moves n a c
moves_on n a b c f g = record {
  chapter = g.chapter ∙ f.chapter;
  ts = g.ts;
  kept = g.kept ∙ ap (λ (s : Share). record s { registrations = g.ts }) f.kept;
}

dropping_moves : (n client : ℕ) (old new : Turning) → IsOwing old.cell → IsDropping n client old new → Moves n old new
dropping_moves n client old new owing (inl h) = taking_moves n client old new owing.apart h
dropping_moves n client old new owing (inr h) =
    let mid_owing = (taken_quietly old h.0 n client h.1).owed owing in
    moves_on n old h.0 new (taking_moves n client old h.0 owing.apart h.1) (taking_moves n client h.0 new mid_owing.apart h.2)

history_is : (old new : Celled) → new.core.turning.chapter ≡ old.core.turning.chapter → (cell_in new).base ≡ (cell_in old).base → (cell_in new).marks ≡ (cell_in old).marks → history_of new ≡ history_of old
history_is old new a b c = λ i. record { chapter = a i; base = b i; marks = c i }

-- after what pended was dropped, and a loss that was due

pub record Dropped (n client : ℕ) (old mid : Celled) (r : Registration) : Type 0 where
  pub found : find (is_numbered client) (cell_in old).registrations ≡ Some r
  pub numbered : r.number ≡ n
  pub its : r.client ≡ client
  pub history : history_of mid ≡ history_of old
  pub share : cell_share mid n ≡ with_takings (cell_share old n) (takings_after r.is_lost (all_of n (cell_in old)) client (r.taken + length r.pending))
  pub others : KeepsOtherShares n old mid
  pub gone : r.is_lost ≡ true → has_client mid.core.turning.listeners client ≡ false
  pub there : r.is_lost ≡ false → find (is_numbered client) (cell_in mid).registrations ≡ Some (emptied_one r)

pub dropped : (n client : ℕ) (old mid : Celled) → CanTake (cell_in old) (step.Take n client) → IsOwing (cell_in old) → (cell_in old).registrations ≡ registrations old.core.turning.listeners → (cell_in mid).registrations ≡ registrations mid.core.turning.listeners
    → IsDropping n client old.core.turning mid.core.turning → mid.core.turning.listeners ≡ dropped_by old.core.turning.listeners client → mid.out ≡ old.out → KeepsOtherShares n old mid
    → (r : Registration) × Dropped n client old mid r
dropped n client old mid can owing listed listed_now drops let_go out others =
    let own = own_of n client (cell_in old) owing.apart can in
    let r = own.one in
    let ls : List Listening = old.core.turning.listeners in
    let it : IsListener ls client r = listener_of ls client r (ap (λ (rs : List Registration). find (is_numbered client) rs) (sym listed) ∙ own.found) in
    let apart : AreApart (registrations ls) = subst (λ (rs : List Registration). AreApart rs) listed owing.apart in
    let moves = dropping_moves n client old.core.turning mid.core.turning owing drops in
    let quiet = dropped_quietly old.core.turning mid.core.turning n client drops in
    let now : (cell_in mid).registrations ≡ registrations (dropped_by ls client) = listed_now ∙ ap registrations let_go in
    let is : moves.ts ≡ takings_after r.is_lost (all_of n (cell_in old)) client (r.taken + length r.pending) =
    ap (λ (s : Share). s.registrations) (sym moves.kept)
    ∙ ap (λ (rs : List Registration). of_pass n rs) now
    ∙ dropped_takings n client ls r apart it own.numbered
    ∙ ap (λ (rs : List Registration). takings_after r.is_lost (of_pass n rs) client (r.taken + length r.pending)) (sym listed) in (
      r,
      record {
        found = own.found;
        numbered = own.numbered;
        its = own.its;
        history = history_is old mid moves.chapter quiet.base quiet.marks;
        share =
            takings_share n old mid moves.ts moves.kept out moves.chapter
            ∙ ap (λ (ts : List Taken). with_takings (cell_share old n) ts) is;
        others = others;
        gone = λ lost. ap (λ (ms : List Listening). has_client ms client) let_go ∙ dropped_gone ls client r apart it lost;
        there = λ stays. ap (λ (rs : List Registration). find (is_numbered client) rs) now ∙ dropped_found ls client r it stays;
      },
    )

not_both : (b : Bool) → b ≡ true → b ≡ false → ⊥
not_both true e f = cc
not_both false e f = cc

by_test : (b : Bool) (P : Bool → Type 0) → (b ≡ true → P true) → (b ≡ false → P false) → P b
by_test true P t f = t refl
by_test false P t f = f refl

lost_by : (lost : Bool) → (lost ≡ false → ⊥) → lost ≡ true
lost_by true h = refl
lost_by false h = absurd (h refl)

kept_by : (lost : Bool) → (lost ≡ true → ⊥) → lost ≡ false
kept_by true h = absurd (h refl)
kept_by false h = refl

has_now : (n client : ℕ) (old mid : Celled) (r : Registration) → Dropped n client old mid r → (cell_in mid).registrations ≡ registrations mid.core.turning.listeners → r.is_lost ≡ false → has_client mid.core.turning.listeners client ≡ true
has_now n client old mid r h listed stays =
    has_kept mid.core.turning.listeners client ∙ ap (λ (rs : List Registration). list_any (is_numbered client) rs) (sym listed) ∙ is_there (cell_in mid).registrations client (emptied_one r) (h.there stays)

-- no mark

no_more : (h : DomainHistory) → with_marks h [] ≡ h
no_more h = ap (λ (ms : List (Mark ℕ)). record h { marks = ms }) (append-nil h.marks)

none_of_lost : (end lost : Bool) (n client : ℕ) → lost ≡ true → end_marks end lost n client ≡ []
none_of_lost true true n client e = refl
none_of_lost false true n client e = refl
none_of_lost end false n client e = cc

-- its loss was due

pub settles_gone : (n client : ℕ) (end : Bool) (old mid : Celled) (r : Registration) → Dropped n client old mid r → (cell_in mid).registrations ≡ registrations mid.core.turning.listeners → has_client mid.core.turning.listeners client ≡ false
    → Settles n client end old mid true
settles_gone n client end old mid r h listed none =
    let lost : r.is_lost ≡ true = lost_by r.is_lost (λ stays. not_both (has_client mid.core.turning.listeners client) (has_now n client old mid r h listed stays) none) in
    record {
      registration = r;
      takes = record {
        found = h.found;
        numbered = h.numbered;
        history = h.history ∙ sym (no_more (history_of old)) ∙ ap (λ (ms : List (Mark ℕ)). with_marks (history_of old) ms) (sym (none_of_lost end r.is_lost n client lost));
        share =
            h.share
            ∙ ap (λ (b : Bool). with_takings (cell_share old n) (takings_after b (all_of n (cell_in old)) client (r.taken + length r.pending))) (lost ∙ ap (λ (b : Bool). b || end) (sym lost));
        others = h.others;
      };
      lost_is = sym lost;
    }

-- it stays

stays_so : (n client : ℕ) (old mid : Celled) (r : Registration) → Dropped n client old mid r → has_client mid.core.turning.listeners client ≡ true → r.is_lost ≡ false
stays_so n client old mid r h has = kept_by r.is_lost (λ lost. not_both (has_client mid.core.turning.listeners client) has (h.gone lost))

pub settles_kept : (n client : ℕ) (old mid : Celled) (r : Registration) → Dropped n client old mid r → has_client mid.core.turning.listeners client ≡ true → Settles n client false old mid false
settles_kept n client old mid r h has =
    let stays = stays_so n client old mid r h has in
    record {
      registration = r;
      takes = record {
        found = h.found;
        numbered = h.numbered;
        history = h.history ∙ sym (no_more (history_of old));
        share =
            h.share
            ∙ ap (λ (b : Bool). with_takings (cell_share old n) (takings_after b (all_of n (cell_in old)) client (r.taken + length r.pending))) (stays ∙ ap (λ (b : Bool). b || false) (sym stays));
        others = h.others;
      };
      lost_is = sym stays;
    }

-- it ends

pub can_end : (n client : ℕ) (old mid : Celled) (r : Registration) → Dropped n client old mid r → has_client mid.core.turning.listeners client ≡ true → CanTake (cell_in mid) (step.Unwatch n client)
can_end n client old mid r h has =
    let stays = stays_so n client old mid r h has in
    let place = found_place (cell_in mid).registrations client (emptied_one r) (h.there stays) in
    (emptied_one r, (h.numbered, h.its, place.0, place.1), (refl, stays))

ended_history : (n client : ℕ) (mid new : Celled) → Takes mid.core.turning new.core.turning (step.Unwatch n client) (λ left. left ≡ mark.Unwatch n client ∷ []) → history_of new ≡ with_marks (history_of mid) (mark.Unwatch n client ∷ [])
ended_history n client mid new h =
    let marks : (cell_in new).marks ≡ (cell_in mid).marks ++ mark.Unwatch n client ∷ [] = h.1.leads.marks ∙ ap (λ (ms : List (Mark ℕ)). (cell_in mid).marks ++ ms) h.2 in
    let base : (cell_in new).base ≡ (cell_in mid).base = h.1.leads.base in
    let chapter : new.core.turning.chapter ≡ mid.core.turning.chapter = h.1.chapter in
    λ i. record { chapter = chapter i; base = base i; marks = marks i }

its_taken : (client : ℕ) (k taken : ℕ) → k ≡ client → (k == client) ≡ true
its_taken client k taken e = eq-eqb k client e

pub settles_ended : (n client : ℕ) (old mid new : Celled) (r : Registration) → Dropped n client old mid r → has_client mid.core.turning.listeners client ≡ true
    → Takes mid.core.turning new.core.turning (step.Unwatch n client) (λ left. left ≡ mark.Unwatch n client ∷ []) → new.out ≡ mid.out → KeepsOtherShares n mid new → Settles n client true old new false
settles_ended n client old mid new r h has ends out others =
    let stays = stays_so n client old mid r h has in
    let s : CellShare = cell_share old n in
    let x : Taken = record { client = client; taken = r.taken + length r.pending } in
    let kept = unwatches_keep mid.core.turning new.core.turning n client ends in
    let was : (share_of (cell_in mid) n).registrations ≡ with_its (all_of n (cell_in old)) client (x ∷ []) =
    ap (λ (t : CellShare). t.kept.registrations) h.share ∙ ap (λ (b : Bool). takings_after b (all_of n (cell_in old)) client (r.taken + length r.pending)) stays in
    record {
      registration = r;
      takes = record {
        found = h.found;
        numbered = h.numbered;
        history =
            ended_history n client mid new ends
            ∙ ap (λ (g : DomainHistory). with_marks g (mark.Unwatch n client ∷ [])) h.history
            ∙ ap (λ (b : Bool). with_marks (history_of old) (end_marks true b n client)) (sym stays);
        share =
            takings_share n mid new (without_its (all_of n (cell_in mid)) client) kept out ends.1.chapter
            ∙ ap (λ (t : CellShare). with_takings t (without_its (all_of n (cell_in mid)) client)) h.share
            ∙ ap (λ (ts : List Taken). with_takings s (without_its ts client)) was
            ∙ ap (λ (ts : List Taken). with_takings s ts) (then_without (all_of n (cell_in old)) client x (its_taken client client x.taken refl))
            ∙ ap (λ (b : Bool). with_takings s (takings_after b (all_of n (cell_in old)) client (r.taken + length r.pending))) (sym (ap (λ (b : Bool). b || true) stays));
        others = λ m other. others m other ∙ h.others m other;
      };
      lost_is = sym stays;
    }

-- what pended was handed out before

none_if : (b : Bool) (r : Registration) → tells_loss r ≡ b → b ≡ false → taken_then r ≡ record { client = r.client; taken = r.taken + length r.pending } ∷ []
none_if true r is e = cc
none_if false r is e =
    ap (λ (b : Bool). map (λ (x : Registration). (let t : Taken = record { client = x.client; taken = x.taken } in t)) (if b then [] else emptied_one r ∷ [])) is

all_if : (b : Bool) (r : Registration) → tells_loss r ≡ b → b ≡ true → taken_then r ≡ []
all_if true r is e = ap (λ (b : Bool). map (λ (x : Registration). (let t : Taken = record { client = x.client; taken = x.taken } in t)) (if b then [] else emptied_one r ∷ [])) is
all_if false r is e = cc

taken_share : (n client : ℕ) (old mid : Celled) (r : Registration) → find (is_numbered client) (cell_in old).registrations ≡ Some r → AreApart (cell_in old).registrations → IsTaking n client old.core.turning mid.core.turning → mid.out ≡ old.out
    → cell_share mid n ≡ with_takings (cell_share old n) (with_its (all_of n (cell_in old)) client (taken_then r))
taken_share n client old mid r found apart takes out =
    let keeps = takes_keep old.core.turning mid.core.turning n client (kept_apart (cell_in old).registrations apart) takes in
    let also : find (is_numbered client) (cell_in old).registrations ≡ Some keeps.0 = found_at (cell_in old).registrations client keeps.1.2 keeps.0 apart keeps.1.3 keeps.1.1 in
    let same : keeps.0 ≡ r = cc in
    takings_share n old mid (with_its (all_of n (cell_in old)) client (taken_then keeps.0)) keeps.2 out takes.1.chapter
    ∙ ap (λ (x : Registration). with_takings (cell_share old n) (with_its (all_of n (cell_in old)) client (taken_then x))) same

taken_history : (n client : ℕ) (old mid : Celled) → IsTaking n client old.core.turning mid.core.turning → history_of mid ≡ history_of old
taken_history n client old mid takes =
    let quiet = taken_quietly old.core.turning mid.core.turning n client takes in
    history_is old mid takes.1.chapter quiet.base quiet.marks

takings_twice : (b : Bool) (ts : List Taken) (client taken : ℕ) (x : Taken) → (x.client == client) ≡ true → takings_after b (with_its ts client (x ∷ [])) client taken ≡ takings_after b ts client taken
takings_twice true ts client taken x its = then_without ts client x its
takings_twice false ts client taken x its = with_again ts client x (record { client = client; taken = taken } ∷ []) its

abbrev gone_or : ℕ → Bool → Cell → ℕ → Registration → List Taken
gone_or n end c client r = takings_after (r.is_lost || end) (all_of n c) client (r.taken + length r.pending)

no_more_pend : (r : Registration) → (r.taken + length r.pending) + 0 ≡ r.taken + length r.pending
no_more_pend r = omega arith

pub hands_events : (n client : ℕ) (end : Bool) (old mid new : Celled) (events : List Transition) (lost : Bool) → IsOwing (cell_in old) → (cell_in old).registrations ≡ registrations old.core.turning.listeners → CanTake (cell_in old) (step.Take n client)
    → HandsOut (listening_of old.core.turning.listeners client) (taken.Events events) → IsTaking n client old.core.turning mid.core.turning → mid.out ≡ old.out → KeepsOtherShares n old mid → Settles n client end mid new lost
    → HandsOver n client end old new (Ok (record { events = events; is_lost = lost }))
hands_events n client end old mid new events lost owing listed can given takes out others s =
    let own = own_of n client (cell_in old) owing.apart can in
    let r = own.one in
    let it : IsListener old.core.turning.listeners client r =
    listener_of old.core.turning.listeners client r (ap (λ (rs : List Registration). find (is_numbered client) rs) (sym listed) ∙ own.found) in
    let handed = events_handed old.core.turning.listeners client r events it given in
    let now : find (is_numbered client) (cell_in mid).registrations ≡ Some (emptied_one r) =
    ap (λ (rs : List Registration). find (is_numbered client) rs) takes.1.leads.registrations ∙ found_taken (cell_in old).registrations client r own.found handed.0 in
    let same : s.registration ≡ emptied_one r = some_same s.registration (emptied_one r) (sym s.takes.found ∙ now) in
    let x : Taken = record { client = r.client; taken = r.taken + length r.pending } in
    let mid_share : cell_share mid n ≡ with_takings (cell_share old n) (with_its (all_of n (cell_in old)) client (x ∷ [])) =
    taken_share n client old mid r own.found owing.apart takes out
    ∙ ap (λ (ts : List Taken). with_takings (cell_share old n) (with_its (all_of n (cell_in old)) client ts)) (none_if (tells_loss r) r refl handed.0) in
    let its : (x.client == client) ≡ true = eq-eqb r.client client own.its in (
      r,
      record {
        found = own.found;
        numbered = own.numbered;
        history =
            s.takes.history
            ∙ ap (λ (y : Registration). with_marks (history_of mid) (end_marks end y.is_lost n client)) same
            ∙ ap (λ (h : DomainHistory). with_marks h (end_marks end r.is_lost n client)) (taken_history n client old mid takes);
        share =
            s.takes.share
            ∙ ap (λ (y : Registration). with_takings (cell_share mid n) (gone_or n end (cell_in mid) client y)) same
            ∙ ap (λ (k : ℕ). with_takings (cell_share mid n) (takings_after (r.is_lost || end) (all_of n (cell_in mid)) client k)) (no_more_pend r)
            ∙ ap (λ (t : CellShare). with_takings t (takings_after (r.is_lost || end) t.kept.registrations client (r.taken + length r.pending))) mid_share
            ∙ ap (λ (ts : List Taken). with_takings (cell_share old n) ts) (takings_twice (r.is_lost || end) (all_of n (cell_in old)) client (r.taken + length r.pending) x its);
        others = λ m other. s.takes.others m other ∙ others m other;
      },
      handed.1,
      s.lost_is ∙ ap (λ (y : Registration). y.is_lost) same,
    ) where
      some_same : (a b : Registration) → Some a ≡ Some b → a ≡ b
      some_same a b e = cc

both_true : (a b : Bool) → (a && b) ≡ true → (a ≡ true) × (b ≡ true)
both_true true b e = (refl, e)
both_true false b e = cc

none_left : {A : Type 0} (xs : List A) → nat_le (length xs) 0 ≡ true → xs ≡ []
none_left [] e = refl
none_left (x ∷ xs) e = let h : length (x ∷ xs) ≤ 0 = grind (arith, nat_tests, e) in absurd (omega (arith, h))

pub hands_loss : (n client count : ℕ) (end : Bool) (old new : Celled) → IsOwing (cell_in old) → (cell_in old).registrations ≡ registrations old.core.turning.listeners → CanTake (cell_in old) (step.Take n client)
    → HandsOut (listening_of old.core.turning.listeners client) (taken.Lost count) → IsTaking n client old.core.turning new.core.turning → new.out ≡ old.out → KeepsOtherShares n old new
    → HandsOver n client end old new (Ok (record { events = []; is_lost = true }))
hands_loss n client count end old new owing listed can given takes out others =
    let own = own_of n client (cell_in old) owing.apart can in
    let r = own.one in
    let it : IsListener old.core.turning.listeners client r =
    listener_of old.core.turning.listeners client r (ap (λ (rs : List Registration). find (is_numbered client) rs) (sym listed) ∙ own.found) in
    let told : tells_loss r ≡ true = loss_handed old.core.turning.listeners client count r it given in
    let both = both_true r.is_lost (nat_le (length r.pending) 0) told in (
      r,
      record {
        found = own.found;
        numbered = own.numbered;
        history =
            taken_history n client old new takes ∙ sym (no_more (history_of old)) ∙ ap (λ (ms : List (Mark ℕ)). with_marks (history_of old) ms) (sym (none_of_lost end r.is_lost n client both.0));
        share =
            taken_share n client old new r own.found owing.apart takes out
            ∙ ap (λ (ts : List Taken). with_takings (cell_share old n) (with_its (all_of n (cell_in old)) client ts)) (all_if (tells_loss r) r refl told)
            ∙ ap (λ (ts : List Taken). with_takings (cell_share old n) ts) (gone_of n client (cell_in old).registrations owing.apart)
            ∙ ap (λ (b : Bool). with_takings (cell_share old n) (takings_after b (all_of n (cell_in old)) client (r.taken + length r.pending))) (ap (λ (b : Bool). b || end) (sym both.0));
        others = others;
      },
      sym (none_left r.pending both.1),
      sym both.0,
    )

pub stays_in : (n : ℕ) (old new : Celled) → new.core.turning ≡ old.core.turning → new.out ≡ old.out → KeepsOtherShares n old new → StaysIn n old new
stays_in n old new same out others = record {
  history = ap history_at same;
  share =
      share_parts (cell_share old n) (cell_share new n) (ap (λ (t : Turning). share_of t.cell n) same)
      (ap (λ (t : Turning). monitor_of (share_of t.cell n).call new.out) same ∙ ap (λ (y : Option ℕ). monitor_of (share_of (cell_in old) n).call y) out)
      (ap (λ (t : Turning). chapter_of (share_of t.cell n).call t.chapter) same);
  others = others;
}

-- it can be taken from still

pub can_still : (n client : ℕ) (old mid : Celled) (events : List Transition) → IsOwing (cell_in old) → (cell_in old).registrations ≡ registrations old.core.turning.listeners → CanTake (cell_in old) (step.Take n client)
    → HandsOut (listening_of old.core.turning.listeners client) (taken.Events events) → IsTaking n client old.core.turning mid.core.turning → CanTake (cell_in mid) (step.Take n client)
can_still n client old mid events owing listed can given takes =
    let own = own_of n client (cell_in old) owing.apart can in
    let r = own.one in
    let it : IsListener old.core.turning.listeners client r =
    listener_of old.core.turning.listeners client r (ap (λ (rs : List Registration). find (is_numbered client) rs) (sym listed) ∙ own.found) in
    let handed = events_handed old.core.turning.listeners client r events it given in
    let now : find (is_numbered client) (cell_in mid).registrations ≡ Some (emptied_one r) =
    ap (λ (rs : List Registration). find (is_numbered client) rs) takes.1.leads.registrations ∙ found_taken (cell_in old).registrations client r own.found handed.0 in
    let place = found_place (cell_in mid).registrations client (emptied_one r) now in
    (emptied_one r, (own.numbered, own.its, place.0, place.1))

-- under a stamp that is the same

pub settle_dropped : (n k client : ℕ) (old mid : Celled) → k ≡ n → CanTake (cell_in old) (step.Take n client) → IsOwing (cell_in old) → (cell_in old).registrations ≡ registrations old.core.turning.listeners
    → (cell_in mid).registrations ≡ registrations mid.core.turning.listeners → IsDropping k client old.core.turning mid.core.turning → mid.core.turning.listeners ≡ dropped_by old.core.turning.listeners client → mid.out ≡ old.out → KeepsOtherShares k old mid
    → (r : Registration) × Dropped n client old mid r
settle_dropped n k client old mid same can owing listed listed_now drops let_go out others =
    dropped n client old mid can owing listed listed_now (subst (λ (j : ℕ). IsDropping j client old.core.turning mid.core.turning) same drops) let_go out (subst (λ (j : ℕ). KeepsOtherShares j old mid) same others)
