-- The packets of replies, and which call closes a session (libvirt, src/rpc/virnetprotocol.x).
use Rattle.std.specs.Prelude.{◌==◌, ◌&&◌, Bool, true, false, Result, Ok}
use Rattle.procedure_spec.specs.Calls.{call_of}
use Rattle.procedure_spec.specs.Errors.{refusal_payload}
use Rattle.procedure_spec.specs.Results.{reply_header, result}
use Rattle.procedure_spec.specs.declared.fault.ArgFault.{ArgFault}
use Rattle.virt_types.specs.declared.request.Request.{Request}
use Rattle.virt_types.specs.declared.request.Request.TheVariants as request
use Rattle.virt_types.specs.declared.value.Reply.{Reply}
use Rattle.virt_types.specs.declared.value.Reply.TheVariants as reply
use Rattle.wire_spec.specs.declared.message.Header.{Header}
use Rattle.wire_spec.specs.declared.message.Packet.{Packet}
use Rattle.wire_spec.specs.declared.message.TheConstants.{CALL, ERROR, OK}

-- the packet of a reply: the call's own program, version, procedure and serial
abbrev pub reply_packet : Header → Reply → Packet
reply_packet call (reply.Ok v) = record { header = reply_header call OK; payload = result v }
reply_packet call (reply.No why) = record { header = reply_header call ERROR; payload = refusal_payload why }

-- a call of CONNECT_CLOSE
abbrev pub asks_to_close : Result Request ArgFault → Bool
asks_to_close (Ok request.ConnectClose) = true
asks_to_close _ = false

-- the packet is such a call
abbrev pub closes : Packet → Bool
closes packet = (packet.header.kind == CALL) && asks_to_close (call_of packet.header packet.payload)
