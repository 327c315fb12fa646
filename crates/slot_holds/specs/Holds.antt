-- The call of the list of domains with which a slot is asked for.
use Rattle.book_spec.specs.declared.list.ListCall.{ListCall}
use Rattle.book_spec.specs.declared.list.ListCall.TheVariants as call
use Rattle.slot_holds.specs.declared.Hold.{Hold}
use Rattle.slot_holds.specs.declared.Hold.TheVariants as hold

-- the domain's slot is held once more
abbrev pub call_of : Hold → ListCall
call_of (hold.Name name) = call.HoldName name
call_of (hold.Uuid uuid) = call.HoldUuid uuid
call_of (hold.Claim name uuid) = call.Claim name uuid
