-- Keepalive: whoever sends a PING is sent a PONG (libvirt, src/rpc/virkeepaliveprotocol.x).
use Rattle.std.specs.Prelude.{◌==◌, ◌&&◌, Bool, []}
use Rattle.service_spec.specs.declared.keepalive.TheConstants.{KEEPALIVE, KEEPALIVE_VERSION, PING, PONG}
use Rattle.wire_spec.specs.declared.message.Header.{Header}
use Rattle.wire_spec.specs.declared.message.Packet.{Packet}
use Rattle.wire_spec.specs.declared.message.TheConstants.{MESSAGE, OK}

-- a PING, whatever its serial, its status and its payload
abbrev pub is_ping : Header → Bool
is_ping h = (h.kind == MESSAGE) && ((h.prog == KEEPALIVE) && ((h.vers == KEEPALIVE_VERSION) && (h.procedure == PING)))

-- the header of the answer to a PING, whose serial is 0 like its own
abbrev pub pong_header : Header
pong_header = record { prog = KEEPALIVE; vers = KEEPALIVE_VERSION; procedure = PONG; kind = MESSAGE; serial = 0; status = OK }

-- the answer to a PING, which has no payload
abbrev pub pong : Packet
pong = record { header = pong_header; payload = [] }
