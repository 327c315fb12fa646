-- What is heard of a modelled guest, and how it is killed.
use Rattle.std.specs.Prelude.{List, [], ◌∷◌, Option, Some, None, unwrap_or}
use Rattle.guest_model.specs.declared.guest.SimGuest.{SimGuest}
use Rattle.guest_model.specs.declared.happening.Happening.{Happening}
use Rattle.guest_model.specs.declared.happening.Happening.TheVariants as happening
use Rattle.monitor_link.specs.Counting.{after_heard}
use Rattle.monitor_link.specs.declared.link.Heard.{Heard}
use Rattle.monitor_link.specs.declared.link.Heard.TheVariants as heard
use Rattle.virt_types.specs.declared.run_state.EndReason.{EndReason}
use Rattle.virt_types.specs.declared.run_state.EndReason.TheVariants as reason

-- what is heard, and the guest after it
pub record Hearing : Type 0 where
  pub heard : Heard
  pub guest : SimGuest

-- the guest has ended; one that had ended before keeps its reason
abbrev pub ended_by : EndReason → SimGuest → SimGuest
ended_by why g = record g { ended = Some (unwrap_or g.ended why) }

-- nothing is queued: its end is heard, once it has ended
abbrev pub idle : Option EndReason → Heard
idle None = heard.Quiet
idle (Some why) = heard.Ended why

-- the first of the queue leaves it; an end ends the guest as it is heard
abbrev pub hearing_of : SimGuest → List Happening → Hearing
hearing_of g [] = record { heard = idle g.ended; guest = g }
hearing_of g (happening.Event event ∷ rest) = record { heard = heard.Event event; guest = record g { queue = rest } }
hearing_of g (happening.End why ∷ rest) = record { heard = heard.Ended (unwrap_or g.ended why); guest = ended_by why (record g { queue = rest }) }

-- what is heard next, counted
abbrev pub with_heard_counted : Hearing → Hearing
with_heard_counted h = record h { guest = record h.guest { counts = after_heard h.guest.counts h.heard } }

-- the next hearing of a guest
abbrev pub hearing : SimGuest → Hearing
hearing g = with_heard_counted (hearing_of g g.queue)

-- a kill ends it at once
abbrev pub killed : SimGuest → SimGuest
killed g = ended_by reason.Killed g
