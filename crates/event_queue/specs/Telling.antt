-- What registrations keep where transitions come, and which of them are cut.
use Rattle.std.specs.Prelude.{ℕ, ◌+◌, ◌-◌, ◌^◌, List, [], ◌∷◌, length, map, min, nat_lt, take, Bool, true, not, ◌&&◌, if◌then◌else◌}
use Rattle.domain_spec.specs.Types.{Transition}
use Rattle.domain_spec.specs.declared.mark.Mark.{Mark}
use Rattle.domain_spec.specs.declared.mark.Mark.TheVariants as mark
use Rattle.domain_spec.specs.declared.standing.Registration.{Registration}
use Rattle.domain_spec.specs.Registrations.{with_pending}

-- how many transitions may pend for it: 256, and 2^62 with those that were taken
abbrev pub most_of : Registration → ℕ
most_of r = min (r.taken + 256) (2 ^ 62) - r.taken

-- more pend than may
abbrev pub is_over : Registration → Bool
is_over r = not r.is_lost && nat_lt (most_of r) (length r.pending)

-- a registration for which more pend than may is cut there
abbrev pub cut_if_over : Registration → Registration
cut_if_over r = if is_over r then record r { pending = take (most_of r) r.pending; is_lost = true } else r

-- the registration after these transitions
abbrev pub told : List Transition → Registration → Registration
told events r = cut_if_over (with_pending events r)

-- the Cut marks that are due, in the order of the registrations
abbrev pub cuts_due : List Registration → List (Mark ℕ)
cuts_due [] = []
cuts_due (r ∷ rs) = if is_over r then mark.Cut r.client (r.taken + most_of r) r.taken ∷ cuts_due rs else cuts_due rs
