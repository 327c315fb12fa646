-- Which packets a client looks at: replies, and messages that report events. It passes over all others.
use Rattle.std.specs.Prelude.{◌==◌, ◌&&◌, ◌||◌, Bool}
use Rattle.wire_spec.specs.declared.message.Header.{Header}
use Rattle.wire_spec.specs.declared.message.TheConstants.{MESSAGE, REPLY}
use Rattle.procedure_spec.specs.declared.table.TheConstants.{OWN}
use Rattle.procedure_spec.specs.declared.words.TheConstants.{EVENT, EVENT_LOST, VERSION}

abbrev pub is_reply : Header → Bool
is_reply h = h.kind == REPLY

-- whatever its serial and status
abbrev pub is_event : Header → Bool
is_event h = (h.kind == MESSAGE && h.prog == OWN) && (h.vers == VERSION && (h.procedure == EVENT || h.procedure == EVENT_LOST))
