-- What pends is what is owed but for what was taken.
use Rattle.std.proofs.Common.{◌≡◌, ℕ, ◌+◌, ◌-◌, List, drop, length, sym, ap, ◌∙◌, arith, Option, Some}
use Rattle.std.proofs.Math.Seq.{drop-append_seam}
use Rattle.domain_spec.specs.Types.{Transition}
use Rattle.domain_spec.specs.declared.mark.Mark.{Mark}
use Rattle.domain_spec.specs.declared.mark.Mark.TheVariants as mark
use Rattle.domain_spec.specs.declared.owed.Owed.{Owed}
use Rattle.domain_spec.specs.declared.standing.Registration.{Registration}
use Rattle.domain_spec.specs.Owed.{owed_after, owed_at_base}
use Rattle.core_owed.specs.Owing.{Origin, given_with, new_registration, owed_of}
use Rattle.core_owed.specs.OwingLaws.{PendingIsRest, Pends, WatchIsOwedSince}

pends : (o : Origin) (front : List Transition) (r : Registration) → owed_of o ≡ given_with front r → r.taken ≡ o.at.taken + length front → Pends o r
pends o front r owed taken =
    let much : r.taken - o.at.taken ≡ length front = omega (arith, taken) in
    record {
      counted = omega (arith, taken);
      pending =
          sym (ap (λ n. drop n (owed_of o).events) much ∙ ap (λ (x : Owed). drop (length front) x.events) owed ∙ drop-append_seam front r.pending);
      lost = sym (ap (λ (x : Owed). x.is_lost) owed);
    }

pub pending_is_rest : PendingIsRest
pending_is_rest b marks r h = (h.origin, h.is_origin, pends h.origin h.front r h.owed h.taken)

pub watch_is_owed_since : WatchIsOwedSince
watch_is_owed_since marks number client o h =
    ap (λ (m : Option (Mark ℕ)). owed_after m (drop (h.place + 1) marks)) h.watch
    ∙ ap (λ (ms : List (Mark ℕ)). Some (owed_at_base (new_registration number client) ms)) (sym h.since)
    ∙ ap (λ (r : Registration). Some (owed_at_base r o.since)) (sym h.new)
