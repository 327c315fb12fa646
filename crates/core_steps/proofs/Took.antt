-- Why what a client takes, or lets go of, is one step of the cell, or two.
use Rattle.std.proofs.Common.{◌≡◌, ◌⊎◌, ℕ, List, [], ◌∷◌, length, nat_le, is_some, Bool, true, false, ◌&&◌, Option, None, Some, if◌then◌else◌, inl, inr, refl, sym, ap, ◌∙◌, subst, append-nil}
use Rattle.domain_spec.specs.declared.core_step.CoreStep.TheVariants as step
use Rattle.domain_spec.specs.declared.open.OpenJob.{OpenJob}
use Rattle.domain_spec.specs.declared.standing.Registration.{Registration}
use Rattle.domain_spec.specs.declared.standing.Standing.{Standing}
use Rattle.domain_spec.specs.CanTake.{CanTake}
use Rattle.domain_spec.specs.Cell.{Cell, HeldEvent, LentEars, Queue}
use Rattle.domain_spec.specs.Registrations.{registrations_taken, tells_loss}
use Rattle.domain_spec.specs.Turns.{AllHaveRoom}
use Rattle.core_log.specs.Below.core_flight.Ledger.{standing_in}
use Rattle.event_queue.specs.Listening.{AreApart, Listening, dropped_by, emptied, emptied_by, is_lost, left_by, listening_of, loss_told, registrations, taken_by}
use Rattle.core_log.specs.Record.{Recorded, force_of}
use Rattle.core_log.proofs.Registered.{dropped_kept, room_taken, taken_kept}
use Rattle.core_steps.specs.Turning.{FitsJob, HasTurned, IsSettled, Takes, turning}
use Rattle.core_steps.specs.Turning.{cell_of}
use Rattle.core_steps.proofs.Idling.{none_due_by}
use Rattle.core_steps.proofs.Waiting.{waits}
use Rattle.core_steps.specs.ClientLaws.{DropsAreTurns, IsDropping, IsTaking, TakesAreTurns}
use Rattle.core_steps.specs.Clients.{IsRegisteredBy}
use Rattle.core_steps.proofs.Finding.{emptied_found, own_can}
use Rattle.core_steps.proofs.RestingTurns.{idle_take, take_held}

-- what is kept for the registrations is what a taking leaves

pub took : (old : Recorded) (left : List Listening) (q : Queue) (held : List HeldEvent) (ears : Option LentEars) (n client : ℕ) → IsSettled old → AllHaveRoom (registrations old.listeners) → FitsJob (force_of old).job held
    → CanTake (cell_of old q held ears) (step.Take n client) → registrations left ≡ registrations_taken (registrations old.listeners) client
    → HasTurned (turning old q held ears) (turning (record old { listeners = left }) q held ears) (step.Take n client) []
unfolding standing_in
took old left q held ears n client settled room fits can kept =
    let c : Cell = cell_of old q held ears in
    record {
      turn = record { can = can; left = settled.lost; cuts = room; held = none_due_by (force_of old) (force_of old).job held fits };
      leads = record {
        base = refl;
        marks = sym (append-nil old.history.marks);
        registrations = kept;
        answers = idle_take (force_of old) c n client (force_of old).job old.course refl settled.waits;
        away = waits (record old { listeners = left }) q held ears settled.waits;
        held = take_held c (force_of old) n client (force_of old).job fits;
        queue = refl;
        ears = refl;
      };
      chapter = refl;
    }

pub takes_are : TakesAreTurns
takes_are old q held ears n client settled room fits own =
    ([], took old (taken_by old.listeners client) q held ears n client settled room fits (own_can old q held ears n client own) (taken_kept old.listeners client), refl)

-- what is let go of

loss_of : (a b : Bool) → (a && b) ≡ true → a ≡ true
loss_of true b e = refl
loss_of false b e = cc

gone_if : (lost told : Bool) (l : Listening) (xs ys : List Listening) → lost ≡ true → told ≡ true → (if lost then xs else ys) ≡ (if is_some (if told then Some l.lost else None) then xs else ys)
gone_if true true l xs ys e f = refl
gone_if false told l xs ys e f = cc
gone_if true false l xs ys e f = cc

same_gone : (ls : List Listening) (client : ℕ) (l : Listening) → listening_of ls client ≡ Some l → tells_loss l.kept ≡ true → dropped_by ls client ≡ taken_by ls client
same_gone ls client l is told =
    ap (λ (o : Option Listening). if is_lost o then left_by ls client else emptied_by ls client) is
    ∙ gone_if l.kept.is_lost (tells_loss l.kept) l (left_by ls client) (emptied_by ls client) (loss_of l.kept.is_lost (nat_le (length l.kept.pending) 0) told) told
    ∙ ap (λ (o : Option Listening). if is_some (loss_told o) then left_by ls client else emptied_by ls client) (sym is)

stays_if : (told : Bool) (l : Listening) (xs ys : List Listening) → told ≡ false → (if is_some (if told then Some l.lost else None) then xs else ys) ≡ ys
stays_if true l xs ys e = cc
stays_if false l xs ys e = refl

emptied_of : (ls : List Listening) (client : ℕ) (l : Listening) → listening_of ls client ≡ Some l → tells_loss l.kept ≡ false → taken_by ls client ≡ emptied_by ls client
emptied_of ls client l is told =
    ap (λ (o : Option Listening). if is_some (loss_told o) then left_by ls client else emptied_by ls client) is
    ∙ stays_if (tells_loss l.kept) l (left_by ls client) (emptied_by ls client) told

own_still : (ls : List Listening) (client n : ℕ) (l : Listening) → listening_of ls client ≡ Some l → tells_loss l.kept ≡ false → l.kept.number ≡ n → IsRegisteredBy (listening_of (taken_by ls client) client) n
own_still ls client n l is told number =
    subst (λ (o : Option Listening). IsRegisteredBy o n) (sym (ap (λ (xs : List Listening). listening_of xs client) (emptied_of ls client l is told) ∙ emptied_found ls client l is)) number

dropped_if : (told : Bool) (old : Recorded) (q : Queue) (held : List HeldEvent) (ears : Option LentEars) (n client : ℕ) (l : Listening) → listening_of old.listeners client ≡ Some l → tells_loss l.kept ≡ told → l.kept.number ≡ n
    → IsSettled old → AllHaveRoom (registrations old.listeners) → FitsJob (force_of old).job held → AreApart old.listeners → IsRegisteredBy (listening_of old.listeners client) n
    → IsDropping n client (turning old q held ears) (turning (record old { listeners = dropped_by old.listeners client }) q held ears)
dropped_if true old q held ears n client l is told number settled room fits apart own =
    inl (
      [],
      took old (dropped_by old.listeners client) q held ears n client settled room fits (own_can old q held ears n client own)
          (ap registrations (same_gone old.listeners client l is told) ∙ taken_kept old.listeners client),
      refl,
    )
dropped_if false old q held ears n client l is told number settled room fits apart own =
    let ls : List Listening = old.listeners in
    let mid : Recorded = record old { listeners = taken_by ls client } in
    let again : IsRegisteredBy (listening_of mid.listeners client) n = own_still ls client n l is told number in
    let has : AllHaveRoom (registrations mid.listeners) = subst (λ (rs : List Registration). AllHaveRoom rs) (sym (taken_kept ls client)) (room_taken (registrations ls) client room) in
    inr (
      turning mid q held ears,
      takes_are old q held ears n client settled room fits own,
      (
        [],
        took mid (dropped_by ls client) q held ears n client (record { lost = settled.lost; waits = settled.waits }) has fits (own_can mid q held ears n client again)
            (dropped_kept ls client apart ∙ ap (λ (rs : List Registration). registrations_taken rs client) (sym (taken_kept ls client))),
        refl,
      ),
    )

dropped_by_it : (o : Option Listening) (old : Recorded) (q : Queue) (held : List HeldEvent) (ears : Option LentEars) (n client : ℕ) → listening_of old.listeners client ≡ o → IsRegisteredBy o n
    → IsSettled old → AllHaveRoom (registrations old.listeners) → FitsJob (force_of old).job held → AreApart old.listeners → IsRegisteredBy (listening_of old.listeners client) n
    → IsDropping n client (turning old q held ears) (turning (record old { listeners = dropped_by old.listeners client }) q held ears)
dropped_by_it None old q held ears n client is number settled room fits apart own = absurd number
dropped_by_it (Some l) old q held ears n client is number settled room fits apart own =
    dropped_if (tells_loss l.kept) old q held ears n client l is refl number settled room fits apart own

pub drops_are : DropsAreTurns
drops_are old q held ears n client settled room fits apart own = dropped_by_it (listening_of old.listeners client) old q held ears n client refl own settled room fits apart own
