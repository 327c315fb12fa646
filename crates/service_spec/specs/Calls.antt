-- What one activity knows of the calls that it ran.
use Rattle.std.specs.Prelude.{◌≡◌, Bool, List, [], ◌∷◌, MatchBool, Result, Ok, Err}
use Rattle.procedure_spec.specs.declared.fault.ArgFault.{ArgFault}
use Rattle.procedure_spec.specs.declared.procedure.Procedure.{Procedure}
use Rattle.service_spec.specs.Activities.{Activity, Hand, next_who}
use Rattle.service_spec.specs.Reading.{read_of}
use Rattle.service_spec.specs.Saying.{Answer}
use Rattle.session_spec.specs.Refused.{unread}
use Rattle.session_spec.specs.Replies.{asks_to_close}
use Rattle.virt_types.specs.Below.types_base.declared.caller.Who.{Who}
use Rattle.virt_types.specs.declared.request.Request.{Request}
use Rattle.virt_types.specs.declared.value.Reply.{Reply}
use Rattle.virt_types.specs.declared.value.Reply.TheVariants as reply
use Rattle.virt_types.specs.declared.value.Value.TheVariants as value
use Rattle.wire_spec.specs.declared.message.Header.{Header}
use Rattle.wire_spec.specs.declared.message.TheConstants.{CALL}

-- this was said, and nobody was called
abbrev pub SaysAlone : {W : Type 0} → Reply → Reply → Hand W → Hand W → Type 0
SaysAlone said is before after = (said ≡ is) × (after ≡ before)

module _ {W : Type 0} (Called : Who → Request → Reply → Hand W → Hand W → Type 0) where
  -- a close is answered Ok by the session itself, and any other request by the service
  abbrev pub IsTold : Who → Request → Reply → Hand W → Hand W → Type 0
  IsTold who asked said before after = MatchBool (asks_to_close (Ok asked)) (SaysAlone said (reply.Ok value.Nothing) before after) (Called who asked said before after)

  -- what a call is told, as it is read: where it asks nothing, its bytes show why
  abbrev pub IsAnswered : Who → Header → Result Request ArgFault → Reply → Hand W → Hand W → Type 0
  IsAnswered who call (Ok asked) said before after = IsTold who asked said before after
  IsAnswered who call (Err bad) said before after = SaysAlone said (reply.No (unread call bad)) before after

module _ {W : Type 0} (serves : Procedure → Bool) (Called : Who → Request → Reply → Hand W → Hand W → Type 0) where
  -- a call was run
  pub record Runs (before : Activity W) (a : Answer) (after : Activity W) : Type 0 where
    pub is_call : a.call.header.kind ≡ CALL
    pub answered : IsAnswered Called before.next a.call.header (read_of serves a.call.header a.call.payload) a.reply before.at_hand after.at_hand
    pub next : after.next ≡ next_who before.next

  -- calls were run, one after the other
  abbrev pub RunsAll : Activity W → List Answer → Activity W → Type 0
  RunsAll before [] after = after ≡ before
  RunsAll before (a ∷ others) after = (then : Activity W) × Runs before a then × RunsAll then others after
