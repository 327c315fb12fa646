-- What a domain's cell keeps for those who are registered: what was taken, and what pends.
use Rattle.std.specs.Prelude.{ℕ, ◌+◌, ◌-◌, ◌^◌, ◌≤◌, ◌==◌, List, [], ◌∷◌, ◌++◌, map, filter, take, length, nat_le, Bool, true, false, not, ◌&&◌, if◌then◌else◌}
use Rattle.domain_spec.specs.Types.{Transition}
use Rattle.domain_spec.specs.declared.mark.Mark.{Mark}
use Rattle.domain_spec.specs.declared.mark.Mark.TheVariants as mark
use Rattle.domain_spec.specs.declared.standing.Registration.{Registration}
use Rattle.domain_spec.specs.Fold.{transitions_of}

-- this is the registration of this number
abbrev pub is_numbered : ℕ → Registration → Bool
is_numbered client r = r.client == client

-- these transitions pend too, unless the registration was cut
abbrev pub with_pending : List Transition → Registration → Registration
with_pending events r = if r.is_lost then r else record r { pending = r.pending ++ events }

-- the registration as it is cut after `total` transitions: their rest pends, and then its loss is due
abbrev pub cut_after : ℕ → ℕ → Registration → Registration
cut_after client total r =
    if is_numbered client r && not r.is_lost then record r { pending = take (total - r.taken) r.pending; is_lost = true } else r

-- the registrations after a mark
abbrev pub registrations_after : List Registration → Mark ℕ → List Registration
registrations_after rs (mark.Watch number client) =
    rs ++ (record { number = number; client = client; taken = 0; pending = []; is_lost = false }) ∷ []
registrations_after rs (mark.Unwatch number client) = filter (λ r. not (is_numbered client r)) rs
registrations_after rs (mark.Cut client total taken) = map (cut_after client total) rs
registrations_after rs m = map (with_pending (transitions_of m)) rs

-- the registrations after these marks
abbrev pub registrations_at : List Registration → List (Mark ℕ) → List Registration
registrations_at rs [] = rs
registrations_at rs (m ∷ marks) = registrations_at (registrations_after rs m) marks

-- nothing pends, so that a loss that is due is told now
abbrev pub tells_loss : Registration → Bool
tells_loss r = r.is_lost && nat_le (length r.pending) 0

-- all that pended was taken; a registration whose loss was told is gone
abbrev pub taken_from : Registration → List Registration
taken_from r = if tells_loss r then [] else (record r { taken = r.taken + length r.pending; pending = [] }) ∷ []

-- the registrations after this client took what pended for it
abbrev pub registrations_taken : List Registration → ℕ → List Registration
registrations_taken [] client = []
registrations_taken (r ∷ rs) client = if is_numbered client r then taken_from r ++ rs else r ∷ registrations_taken rs client

-- no more pends than a registration keeps, and no more came than are counted
pub record HasRoom (r : Registration) : Type 0 where
  pub pending : length r.pending ≤ 256
  pub came : r.taken + length r.pending ≤ 2 ^ 62
