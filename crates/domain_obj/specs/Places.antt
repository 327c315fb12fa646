-- Where a call left its last mark, and what its pass has seen.
use Rattle.std.specs.Prelude.{◌≡◌, false, Option, None, Some}
use Rattle.virt_types.specs.Below.types_base.declared.caller.Front.{Front}
use Rattle.domain_obj.specs.InTurn.{DomainPass}
use Rattle.domain_obj.specs.Running.{IsSeen}
use Rattle.domain_obj.specs.declared.ends.Hushed.{Hushed}
use Rattle.domain_obj.specs.declared.ends.Hushed.TheVariants as hushed
use Rattle.domain_obj.specs.declared.place.Seen.{Seen}
use Rattle.domain_obj.specs.declared.places.At.{At}

-- the place of the last mark; where there is none, how far the pass has seen
abbrev pub place_or : Option Front → Front → Front
place_or None seen = seen
place_or (Some place) seen = place

-- what the pass has seen that heard so; none where no ticket was left
abbrev pub seen_by : Hushed → Option Seen
seen_by (hushed.Quiet seen) = Some seen
seen_by (hushed.NoMemory seen) = Some seen
seen_by (hushed.Unheard seen) = Some seen
seen_by (hushed.Often seen) = Some seen
seen_by hushed.Spent = None

-- it gives the place of the last mark, where one was left, and else what the pass has seen; and that where a ticket was left
pub record IsAt (last : Option Front) (after : DomainPass) (at : At) : Type 0 where
  pub place : at.place ≡ place_or last at.seen
  pub seen : after.spent ≡ false → IsSeen (record { front = at.seen; occupied = at.occupied }) after
