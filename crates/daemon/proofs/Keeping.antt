-- Whoever calls a driver keeps the parts of its row's passes, also through a whole session.
use Rattle.std.proofs.Common.{◌≡◌, ◌⊎◌, ◌∙◌, ℕ, Bool, true, false, List, [], ◌∷◌, Option, Result, Ok, Err, inl, inr, map, refl, sym, subst}
use Rattle.std.specs.Prelude.{MatchBool}
use Rattle.driver_service.specs.Calling.{HasCalledDriver}
use Rattle.files_disk.specs.Telling.{Told}
use Rattle.driver_service.specs.Below.held_tasks.OfRows.{DriverRow, KeepsParts}
use Rattle.procedure_spec.specs.declared.fault.ArgFault.{ArgFault}
use Rattle.procedure_spec.specs.declared.procedure.Procedure.{Procedure}
use Rattle.service_spec.specs.Activities.{Activity, Hand}
use Rattle.service_spec.specs.Calls.{IsAnswered, IsTold, Runs, RunsAll, SaysAlone}
use Rattle.service_spec.specs.Course.{Course, HasServed}
use Rattle.service_spec.specs.Ends.{Ends, IsUnanswered}
use Rattle.service_spec.specs.Saying.{Answer}
use Rattle.session_spec.specs.Replies.{asks_to_close}
use Rattle.session_spec.specs.declared.end.End.{End}
use Rattle.session_spec.specs.declared.end.End.TheVariants as end
use Rattle.virt_types.specs.declared.ask.GuestEvent.{GuestEvent}
use Rattle.virt_types.specs.Below.types_base.declared.caller.Who.{Who}
use Rattle.virt_types.specs.declared.request.Request.{Request}
use Rattle.virt_types.specs.declared.value.Reply.{Reply}
use Rattle.virt_types.specs.declared.value.Reply.TheVariants as reply
use Rattle.virt_types.specs.declared.value.Value.TheVariants as value

module _ {G : Type 0} where
  pub keeps_itself : (row : DriverRow G) → KeepsParts row row
  keeps_itself row = record { list = refl; store = refl; domains = refl }

  pub keeps_through : (a b c : DriverRow G) → KeepsParts a b → KeepsParts b c → KeepsParts a c
  keeps_through a b c one other = record { list = other.list ∙ one.list; store = other.store ∙ one.store; domains = other.domains ∙ one.domains }

  same_hand : (before after : Hand (DriverRow G)) → after ≡ before → KeepsParts before.row after.row
  same_hand before after same = subst (λ (h : Hand (DriverRow G)). KeepsParts before.row h.row) (sym same) (keeps_itself before.row)

  same_activity : (before after : Activity (DriverRow G)) → after ≡ before → KeepsParts before.at_hand.row after.at_hand.row
  same_activity before after same = subst (λ (h : Activity (DriverRow G)). KeepsParts before.at_hand.row h.at_hand.row) (sym same) (keeps_itself before.at_hand.row)

module _ {F G E : Type 0} (told : F → Told) (store_faults : F → ℕ) (maker : G → ℕ) (ends faults : E → ℕ) (unheard : E → Option (List GuestEvent)) (serves : Procedure → Bool) where
  abbrev Called : Who → Request → Reply → Hand (DriverRow G) → Hand (DriverRow G) → Type 0
  Called = HasCalledDriver told store_faults maker ends faults unheard

  by_kind : (closes : Bool) (who : Who) (asked : Request) (said : Reply) (before after : Hand (DriverRow G)) → MatchBool closes (SaysAlone said (reply.Ok value.Nothing) before after) (Called who asked said before after) → KeepsParts before.row after.row
  by_kind true who asked said before after it = same_hand before after it.1
  by_kind false who asked said before after it = it.came.parts

  answered_keeps : (who : Who) (a : Answer) (read : Result Request ArgFault) (said : Reply) (before after : Hand (DriverRow G)) → IsAnswered Called who a.call.header read said before after → KeepsParts before.row after.row
  answered_keeps who a (Ok asked) said before after it = by_kind (asks_to_close (Ok asked)) who asked said before after it
  answered_keeps who a (Err bad) said before after it = same_hand before after it.1

  call_keeps : (before : Activity (DriverRow G)) (a : Answer) (after : Activity (DriverRow G)) → Runs serves Called before a after → KeepsParts before.at_hand.row after.at_hand.row
  call_keeps before a after it = answered_keeps before.next a _ a.reply before.at_hand after.at_hand it.answered

  calls_keep : (before : Activity (DriverRow G)) (all : List Answer) (after : Activity (DriverRow G)) → RunsAll serves Called before all after → KeepsParts before.at_hand.row after.at_hand.row
  calls_keep before [] after it = same_activity before after it
  calls_keep before (a ∷ others) after it =
      keeps_through before.at_hand.row it.0.at_hand.row after.at_hand.row (call_keeps before a it.0 it.1) (calls_keep it.0 others after it.2)

  end_keeps : (s : Activity (DriverRow G)) (left : Option (List ℕ)) (taken rest extra : List ℕ) (ending : End) (after : Activity (DriverRow G)) → Ends serves Called s left taken rest extra ending after → KeepsParts s.at_hand.row after.at_hand.row
  end_keeps s left taken rest extra end.Closed after it = same_activity s after it.same
  end_keeps s left taken rest extra end.Eof after it = same_activity s after it.2.same
  end_keeps s left taken rest extra (end.Truncated n) after it = same_activity s after it.3.same
  end_keeps s left taken rest extra (end.BadPacket bad) after it = same_activity s after it.1.same
  end_keeps s left taken rest extra end.SourceFault after it = same_activity s after it.2.same
  end_keeps s left taken rest extra end.SinkFault after it = calls_keep s _ after it.ran
  end_keeps s left taken rest extra end.NoMemory after it = lost it.ran
    where
      lost : (after ≡ s) ⊎ IsUnanswered serves Called s rest after → KeepsParts s.at_hand.row after.at_hand.row
      lost (inl same) = same_activity s after same
      lost (inr one) = call_keeps s one.answer after one.ran

  -- a session keeps them
  pub session_keeps : (session : ℕ) (before : Hand (DriverRow G)) (left now held wrote : Option (List ℕ)) (ending : End) (after : Hand (DriverRow G)) → HasServed serves Called session before left now held wrote ending after → KeepsParts before.row after.row
  session_keeps session before left now held wrote ending after (count, course) =
      keeps_through before.row course.then.at_hand.row after.row (calls_keep _ _ course.then course.ran) (end_keeps course.then now _ course.rest course.extra ending _ course.ends)
