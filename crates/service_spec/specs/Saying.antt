-- What a session says: a reply to each call, a PONG to each PING, and nothing to any other packet.
use Rattle.std.specs.Prelude.{◌==◌, ℕ, List, [], ◌∷◌, if◌then◌else◌}
use Rattle.std.specs.List.{AllByRecursion, flat_map}
use Rattle.service_spec.specs.Keepalive.{is_ping, pong}
use Rattle.session_spec.specs.Replies.{reply_packet}
use Rattle.virt_types.specs.declared.value.Reply.{Reply}
use Rattle.wire_spec.specs.Packets.{IsPacket, spelling}
use Rattle.wire_spec.specs.declared.message.Packet.{Packet}
use Rattle.wire_spec.specs.declared.message.TheConstants.{CALL}

-- a call, and what it was told
pub record Answer : Type 0 where
  pub call : Packet
  pub reply : Reply

-- a message of a session
pub data Said : Type 0 where
  Replied : Answer → Said
  Ponged : Said

-- what is due to a packet
pub data Due : Type 0 where
  AReply : Packet → Due
  APong : Due

-- what is due to a packet: a reply to a call, a PONG to a PING, nothing to any other
abbrev pub due_to : Packet → List Due
due_to p = if p.header.kind == CALL then AReply p ∷ [] else (if is_ping p.header then APong ∷ [] else [])

-- what is due to packets, in their order
abbrev pub all_due : List Packet → List Due
all_due packets = flat_map due_to packets

-- what a message gives of that
abbrev pub gives : Said → List Due
gives (Replied a) = AReply a.call ∷ []
gives Ponged = APong ∷ []

-- what messages give, in their order
abbrev pub all_given : List Said → List Due
all_given log = flat_map gives log

-- a message as a packet: a reply has its own call's program, version, procedure and serial
abbrev pub message : Said → Packet
message (Replied a) = reply_packet a.call.header a.reply
message Ponged = pong

-- messages as bytes, one after the other
abbrev pub log_bytes : List Said → List ℕ
log_bytes log = flat_map (λ s. spelling (message s)) log

-- each message is a whole packet
abbrev pub AreWhole : List Said → Type 0
AreWhole log = AllByRecursion (λ s. IsPacket (message s)) log

-- the answer that a message is, where it is one
abbrev pub answers_in : Said → List Answer
answers_in (Replied a) = a ∷ []
answers_in Ponged = []

-- the answers among messages
abbrev pub answers : List Said → List Answer
answers log = flat_map answers_in log
