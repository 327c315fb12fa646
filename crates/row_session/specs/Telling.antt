-- What one call is told. No public clause cites this.
use Rattle.std.specs.Prelude.{◌≡◌, Bool}
use Rattle.procedure_spec.specs.declared.procedure.Procedure.{Procedure}
use Rattle.row_session.specs.Replying.{CanReply}
use Rattle.row_session.specs.declared.running.Told.{Told}
use Rattle.service_spec.specs.Activities.{Activity, Hand, next_who}
use Rattle.service_spec.specs.Calls.{IsAnswered}
use Rattle.service_spec.specs.Reading.{read_of}
use Rattle.session_spec.specs.Replies.{asks_to_close}
use Rattle.virt_types.specs.Below.types_base.declared.caller.Who.{Who}
use Rattle.virt_types.specs.declared.request.Request.{Request}
use Rattle.virt_types.specs.declared.value.Reply.{Reply}
use Rattle.wire_spec.specs.declared.message.Packet.{Packet}

module _ {W : Type 0} (serves : Procedure → Bool) (Called : Who → Request → Reply → Hand W → Hand W → Type 0) where
  -- this was told to the call
  pub record IsToldTo (call : Packet) (before after : Activity W) (told : Told) : Type 0 where
    pub answered : IsAnswered Called before.next call.header (read_of serves call.header call.payload) told.said before.at_hand after.at_hand
    pub next : after.next ≡ next_who before.next
    pub closes : told.closes ≡ asks_to_close (read_of serves call.header call.payload)
    pub sayable : CanReply call.header told.said
