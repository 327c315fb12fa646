-- Held events are among the marks of the turn that ends their job.
use Rattle.std.proofs.Common.{◌≡◌, ℕ, zero, suc, ◌+◌, ◌==◌, List, [], ◌∷◌, ◌++◌, filter, map, position, slice_get, Bool, true, false, Option, None, Some, if◌then◌else◌, refl, sym, ap, ◌∙◌, subst, append-nil}
use Rattle.domain_spec.specs.Types.{Domain, GuestEvent, Live, RunState, State, Transition}
use Rattle.domain_spec.specs.Types.cause
use Rattle.domain_spec.specs.Types.guest
use Rattle.domain_spec.specs.Types.run
use Rattle.domain_spec.specs.Types.state
use Rattle.domain_spec.specs.declared.core_step.CoreStep.{CoreStep}
use Rattle.domain_spec.specs.declared.mark.Mark.{Mark}
use Rattle.domain_spec.specs.declared.mark.Mark.TheVariants as mark
use Rattle.domain_spec.specs.declared.standing.Registration.{Registration}
use Rattle.domain_spec.specs.declared.standing.Standing.{Standing}
use Rattle.domain_spec.specs.Cell.{Cell, HeldEvent}
use Rattle.domain_spec.specs.Devices.{without_placed}
use Rattle.domain_spec.specs.Exit.{can_resume, event_held, event_live, event_state, event_transitions}
use Rattle.domain_spec.specs.Fold.{after, standing}
use Rattle.domain_spec.specs.Kept.{events_in}
use Rattle.domain_spec.specs.Reading.{is_boot_in, is_live, is_running, with_run}
use Rattle.domain_spec.specs.Registrations.{registrations_after, registrations_at, with_pending}
use Rattle.domain_spec.specs.Steps.{Occurs}
use Rattle.domain_spec.specs.Turns.{AllHaveRoom, AreCut}
use Rattle.event_queue.specs.Listening.{registrations}
use Rattle.event_queue.specs.Telling.{cuts_due, is_over, most_of}
use Rattle.core_log.specs.Below.core_flight.Told.{told_last}
use Rattle.core_log.specs.Record.{HasMarked, Recorded, Tells, force_of, with_cuts}
use Rattle.core_log.proofs.Joining.{force_after}
use Rattle.core_steps.specs.Applying.{Applies, AppliesOne}
use Rattle.core_steps.proofs.Going.{Goes, goes_more, goes_one}
use Rattle.core_steps.proofs.LookedAt.{no_loss}
use Rattle.core_steps.proofs.Marks.{events_append, no_event_cut}

-- an event starts and ends no boot

run_keeps : (wanted : Bool) (d : Domain) (l : Live) (r : RunState) (boot : ℕ) → d.live ≡ Some l → is_live (if wanted then state.Held (with_run d l r) else state.Held d) boot ≡ is_live (state.Held d) boot
run_keeps true d l r boot e = sym (ap (λ (x : Option Live). is_boot_in x boot) e)
run_keeps false d l r boot e = refl

same_boot : (l : Live) (place : Option ℕ) → (without_placed l place).boot ≡ l.boot
same_boot l None = refl
same_boot l (Some place) = refl

event_keeps : (d : Domain) (l : Live) (e : GuestEvent) (boot : ℕ) → d.live ≡ Some l → is_live (event_live d l e) boot ≡ is_live (state.Held d) boot
event_keeps d l guest.Stop boot is = run_keeps (is_running l.run) d l (run.Paused cause.User) boot is
event_keeps d l guest.Resume boot is = run_keeps (can_resume l.run) d l run.Running boot is
event_keeps d l guest.Panic boot is = run_keeps true d l run.Crashed boot is
event_keeps d l (guest.DeviceDeleted slot) boot is =
    ap (λ (n : ℕ). n == boot) (same_boot l (position (λ used. used == slot) l.slots)) ∙ sym (ap (λ (x : Option Live). is_boot_in x boot) is)
event_keeps d l other boot is = refl

held_keeps : (d : Domain) (live : Option Live) (e : GuestEvent) (boot : ℕ) → d.live ≡ live → is_live (event_held d live e) boot ≡ is_live (state.Held d) boot
held_keeps d None e boot is = refl
held_keeps d (Some l) e boot is = event_keeps d l e boot is

pub live_at_event : (s : State) (e : GuestEvent) (boot : ℕ) → is_live (event_state s e) boot ≡ is_live s boot
live_at_event (state.Vacant boots) e boot = refl
live_at_event (state.Held d) e boot = held_keeps d d.live e boot refl

-- cuts change neither the state nor what is open

pub record StaysOpen (s t : Standing) : Type 0 where
  pub state : t.state ≡ s.state
  pub job : t.job ≡ s.job
  pub operation : t.operation ≡ s.operation
  pub lost : t.lost ≡ s.lost

cut_one : (b : Bool) (s : Standing) (client total taken : ℕ) (ms : List (Mark ℕ)) → ((x : Standing) → StaysOpen x (standing x ms)) → StaysOpen s (standing s (if b then mark.Cut client total taken ∷ ms else ms))
cut_one true s client total taken ms rest =
    let h = rest (after s (mark.Cut client total taken)) in record { state = h.state; job = h.job; operation = h.operation; lost = h.lost }
cut_one false s client total taken ms rest = rest s

pub cuts_stay : (s : Standing) (rs : List Registration) → StaysOpen s (standing s (cuts_due rs))
cuts_stay s [] = record { state = refl; job = refl; operation = refl; lost = refl }
cuts_stay s (r ∷ rs) = cut_one (is_over r) s r.client (r.taken + most_of r) r.taken (cuts_due rs) (λ x. cuts_stay x rs)

pub cut_room : (rs : List Registration) (ms : List (Mark ℕ)) → AreCut rs ms → AllHaveRoom (registrations_at rs ms)
cut_room rs [] h = h
cut_room rs (mark.Cut client total taken ∷ ms) h = cut_room (registrations_after rs (mark.Cut client total taken)) ms h.1
cut_room rs (m ∷ ms) h = cut_room (registrations_after rs m) ms h.1

pub room_after : (old new : Recorded) (ms : List (Mark ℕ)) → HasMarked old new ms → AllHaveRoom (registrations new.listeners)
room_after old new ms h = subst (λ (rs : List Registration). AllHaveRoom rs) (sym h.kept) (cut_room (registrations old.listeners) ms h.cuts)

-- what is in force after an event and its cuts

event_force : (old new : Recorded) (boot : ℕ) (e : GuestEvent) (events : List Transition) → Tells old new (mark.Event boot e events ∷ []) → StaysOpen (after (force_of old) (mark.Event boot e events)) (force_of new)
event_force old new boot e events h =
    subst (λ (s : Standing). StaysOpen (after (force_of old) (mark.Event boot e events)) s) (sym (force_after old new (with_cuts old.listeners (mark.Event boot e events ∷ [])) h.marked))
    (cuts_stay (after (force_of old) (mark.Event boot e events)) (map (with_pending (told_last (mark.Event boot e events ∷ []))) (registrations old.listeners)))

-- no call is open after an event where none was before
pub event_free : (old new : Recorded) (boot : ℕ) (e : GuestEvent) → Tells old new (mark.Event boot e (event_transitions (force_of old).state e) ∷ []) → (force_of old).job ≡ None → (force_of new).job ≡ None
event_free old new boot e h free = (event_force old new boot e (event_transitions (force_of old).state e) h).job ∙ free

-- the events that applied

pub record AreApplied (c : Cell) (t : CoreStep ℕ) (hs : List HeldEvent) (old new : Recorded) : Type 0 where
  pub left : List (Mark ℕ)
  pub goes : Goes c t old new left
  pub events : events_in left ≡ filter (λ h. is_live (force_of old).state h.boot) hs
  pub live : (boot : ℕ) → is_live (force_of new).state boot ≡ is_live (force_of old).state boot
  pub open_stays : ((force_of new).job ≡ None) × ((force_of new).lost ≡ None) × (new.course ≡ old.course)

nothing : (c : Cell) (t : CoreStep ℕ) (r : Recorded) → AllHaveRoom (registrations r.listeners) → (force_of r).job ≡ None → (force_of r).lost ≡ None → AreApplied c t [] r r
nothing c t r room free lost = record {
  left = [];
  goes = record {
    marked = record { history = ap (λ (ms : List (Mark ℕ)). record r.history { marks = ms }) (sym (append-nil r.history.marks)); kept = refl; legal = tt; cuts = room };
    goes = λ more go. go;
  };
  events = refl;
  live = λ boot. refl;
  open_stays = (free, lost, refl);
}

filter_if : (b : Bool) (h : HeldEvent) (xs ys : List HeldEvent) → xs ≡ ys → (if b then h ∷ xs else xs) ≡ (if b then h ∷ ys else ys)
filter_if b h xs ys e = ap (λ (zs : List HeldEvent). if b then h ∷ zs else zs) e

pub filter_same : (p q : HeldEvent → Bool) (hs : List HeldEvent) → ((h : HeldEvent) → p h ≡ q h) → filter p hs ≡ filter q hs
filter_same p q [] same = refl
filter_same p q (h ∷ hs) same = ap (λ (b : Bool). if b then h ∷ filter p hs else filter p hs) (same h) ∙ filter_if (q h) h (filter p hs) (filter q hs) (filter_same p q hs same)

kept_in : (b : Bool) (h : HeldEvent) (xs : List HeldEvent) → b ≡ true → h ∷ xs ≡ (if b then h ∷ xs else xs)
kept_in true h xs e = refl
kept_in false h xs e = cc

left_out : (b : Bool) (h : HeldEvent) (xs : List HeldEvent) → b ≡ false → xs ≡ (if b then h ∷ xs else xs)
left_out true h xs e = cc
left_out false h xs e = refl

step_one : (c : Cell) (t : CoreStep ℕ) (b : Bool) (h : HeldEvent) (hs : List HeldEvent) (old mid new : Recorded) → is_live (force_of old).state h.boot ≡ b → AppliesOne b h old mid
    → Occurs c t h.boot h.event → AllHaveRoom (registrations old.listeners) → (force_of old).job ≡ None → (force_of old).lost ≡ None
    → (AllHaveRoom (registrations mid.listeners) → (force_of mid).job ≡ None → (force_of mid).lost ≡ None → AreApplied c t hs mid new) → AreApplied c t (h ∷ hs) old new
step_one c t true h hs old mid new live one occurs room free lost rest =
    let events : List Transition = event_transitions (force_of old).state h.event in
    let m : Mark ℕ = mark.Event h.boot h.event events in
    let there = event_force old mid h.boot h.event events one.0 in
    let first : Goes c t old mid (with_cuts old.listeners (m ∷ [])) = goes_one c t old mid m one.0 (occurs, live, free, refl) (no_loss (force_of old) m lost) in
    let later : AreApplied c t hs mid new = rest (room_after old mid (with_cuts old.listeners (m ∷ [])) one.0.marked) (there.job ∙ free) (there.lost ∙ lost) in
    let same : (boot : ℕ) → is_live (force_of mid).state boot ≡ is_live (force_of old).state boot =
    λ boot. ap (λ (s : State). is_live s boot) there.state ∙ live_at_event (force_of old).state h.event boot in
    record {
      left = with_cuts old.listeners (m ∷ []) ++ later.left;
      goes = goes_more c t old mid new (with_cuts old.listeners (m ∷ [])) later.left first later.goes;
      events =
          events_append (with_cuts old.listeners (m ∷ [])) later.left
          ∙ ap (λ (xs : List HeldEvent). (h ∷ xs) ++ events_in later.left) (no_event_cut (map (with_pending (told_last (m ∷ []))) (registrations old.listeners)))
          ∙ ap (λ (xs : List HeldEvent). h ∷ xs)
          (later.events ∙ filter_same (λ x. is_live (force_of mid).state x.boot) (λ x. is_live (force_of old).state x.boot) hs (λ x. same x.boot))
          ∙ kept_in (is_live (force_of old).state h.boot) h (filter (λ x. is_live (force_of old).state x.boot) hs) live;
      live = λ boot. later.live boot ∙ same boot;
      open_stays = (later.open_stays.0, later.open_stays.1, later.open_stays.2 ∙ one.1);
    }
step_one c t false h hs old mid new live one occurs room free lost rest =
    let later : AreApplied c t hs old new =
    subst (λ (x : Recorded). AllHaveRoom (registrations x.listeners) → (force_of x).job ≡ None → (force_of x).lost ≡ None → AreApplied c t hs x new) one rest room free lost in
    record {
      left = later.left;
      goes = later.goes;
      events = later.events ∙ left_out (is_live (force_of old).state h.boot) h (filter (λ x. is_live (force_of old).state x.boot) hs) live;
      live = later.live;
      open_stays = later.open_stays;
    }

pub all_applied : (c : Cell) (t : CoreStep ℕ) (hs : List HeldEvent) (old new : Recorded) → ((k : ℕ) (h : HeldEvent) → slice_get hs k ≡ Some h → Occurs c t h.boot h.event)
    → AllHaveRoom (registrations old.listeners) → (force_of old).job ≡ None → (force_of old).lost ≡ None → Applies hs old new → AreApplied c t hs old new
all_applied c t [] old new occurs room free lost e = subst (λ (x : Recorded). AreApplied c t [] old x) (sym e) (nothing c t old room free lost)
all_applied c t (h ∷ hs) old new occurs room free lost applies =
    step_one c t (is_live (force_of old).state h.boot) h hs old applies.0 new refl applies.1 (occurs zero h refl) room free lost
    (λ r f l. all_applied c t hs applies.0 new (λ k x e. occurs (suc k) x e) r f l applies.2)
