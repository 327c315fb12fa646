-- What a registration keeps of transitions is what its ring keeps.
use Rattle.std.proofs.Common.{◌≡◌, ℕ, ◌+◌, List, ◌++◌, Bool, true, false, not, ◌&&◌, Option, None, Some, is_some, if◌then◌else◌, refl, sym, ap, ◌∙◌, length, length-append, nat_lt}
use Rattle.domain_spec.specs.Types.{Transition}
use Rattle.domain_spec.specs.Registrations.{with_pending}
use Rattle.event_queue.specs.Ring.{Ring, after_all, extended_by, filled_by, most_pending}
use Rattle.event_queue.specs.Listening.{Listening, hears}
use Rattle.event_queue.specs.Rings.{listening}
use Rattle.event_queue.specs.Telling.{is_over}

-- a registration that goes on
abbrev goes_on : ℕ → ℕ → ℕ → List Transition → Listening
goes_on number client taken pending =
    record { kept = record { number = number; client = client; taken = taken; pending = pending; is_lost = false }; lost = 0 }

filled : (number client : ℕ) (r : Ring) (ts : List Transition) (over : Bool) → r.ended ≡ None → nat_lt (most_pending r) (length (r.pending ++ ts)) ≡ over
    → listening number client (filled_by r (r.pending ++ ts) over) ≡ hears ts (goes_on number client r.taken r.pending)
filled number client r ts true none e = rw (e) refl
filled number client r ts false none e = rw (e, none) refl

hears_by : (number client : ℕ) (r : Ring) (ts : List Transition) (ended : Option ℕ) → r.ended ≡ ended
    → listening number client (extended_by r ts ended) ≡ hears ts (listening number client r)
hears_by number client r ts None e =
    ap (λ (n : ℕ). listening number client (filled_by r (r.pending ++ ts) (nat_lt (most_pending r) n))) (sym (length-append r.pending ts))
    ∙ filled number client r ts (nat_lt (most_pending r) (length (r.pending ++ ts))) e refl
    ∙ ap (λ (o : Option ℕ). hears ts (listening number client (record r { ended = o }))) (sym e)
hears_by number client r ts (Some count) e =
    ap (λ (o : Option ℕ). listening number client (record r { ended = o })) e
    ∙ ap (λ (o : Option ℕ). hears ts (listening number client (record r { ended = o }))) (sym e)

pub hears_all : (number client : ℕ) (r : Ring) (ts : List Transition) → listening number client (after_all r ts) ≡ hears ts (listening number client r)
hears_all number client r ts = hears_by number client r ts r.ended refl

newly_filled : (number client : ℕ) (r : Ring) (ts : List Transition) (over : Bool) → r.ended ≡ None → nat_lt (most_pending r) (length (r.pending ++ ts)) ≡ over
    → (is_some (filled_by r (r.pending ++ ts) over).ended && not (is_some r.ended)) ≡ is_over (with_pending ts (goes_on number client r.taken r.pending).kept)
newly_filled number client r ts true none e = rw (e, none) refl
newly_filled number client r ts false none e = rw (e, none) refl

newly_by : (number client : ℕ) (r : Ring) (ts : List Transition) (ended : Option ℕ) → r.ended ≡ ended
    → (is_some (extended_by r ts ended).ended && not (is_some r.ended)) ≡ is_over (with_pending ts (listening number client r).kept)
newly_by number client r ts None e =
    ap (λ (n : ℕ). is_some (filled_by r (r.pending ++ ts) (nat_lt (most_pending r) n)).ended && not (is_some r.ended)) (sym (length-append r.pending ts))
    ∙ newly_filled number client r ts (nat_lt (most_pending r) (length (r.pending ++ ts))) e refl
    ∙ ap (λ (o : Option ℕ). is_over (with_pending ts (listening number client (record r { ended = o })).kept)) (sym e)
newly_by number client r ts (Some count) e = rw (e) refl

-- it is lost now, and was not before, where more pend than may
pub newly_lost : (number client : ℕ) (r : Ring) (ts : List Transition)
    → (is_some (after_all r ts).ended && not (is_some r.ended)) ≡ is_over (with_pending ts (listening number client r).kept)
newly_lost number client r ts = newly_by number client r ts r.ended refl
