-- The whole course of a session: the bytes that it took, the messages that it wrote, the calls that it ran, and what its
-- end means.
use Rattle.std.specs.Prelude.{◌≡◌, ℕ, Bool, List, ◌++◌, Option}
use Rattle.std.specs.Io.KnownBytes.{Appends, Consumes}
use Rattle.std.specs.List.{AllByRecursion}
use Rattle.procedure_spec.specs.declared.procedure.Procedure.{Procedure}
use Rattle.service_spec.specs.Activities.{Activity, Hand, call_of}
use Rattle.service_spec.specs.Calls.{RunsAll}
use Rattle.service_spec.specs.Ends.{Ends, HasLast}
use Rattle.service_spec.specs.Saying.{AreWhole, Said, all_due, all_given, answers, log_bytes}
use Rattle.service_spec.specs.declared.lanes.TheConstants.{READER}
use Rattle.session_spec.specs.Course.{HasEnd}
use Rattle.session_spec.specs.declared.end.End.{End}
use Rattle.virt_types.specs.Below.types_base.declared.caller.Who.{Who}
use Rattle.virt_types.specs.declared.request.Request.{Request}
use Rattle.virt_types.specs.declared.value.Reply.{Reply}
use Rattle.wire_spec.specs.Packets.{IsPacket}
use Rattle.wire_spec.specs.Split.{stream}
use Rattle.wire_spec.specs.declared.message.Packet.{Packet}

module _ {W : Type 0} (serves : Procedure → Bool) (Called : Who → Request → Reply → Hand W → Hand W → Type 0) where
  -- what was taken of a source and put into a sink, where they report it: packets and a rest, and messages, which give each
  -- packet what is due to it, once and in the order of the packets
  pub record Course (before : Activity W) (left now held wrote : Option (List ℕ)) (end : End) (after : Activity W) : Type 0 where
    pub packets : List Packet
    pub rest : List ℕ
    pub log : List Said
    pub extra : List ℕ
    pub then : Activity W
    pub taken : Consumes left now (stream packets rest)
    pub each : AllByRecursion IsPacket packets
    pub written : Appends held wrote (log_bytes log ++ extra)
    pub whole : AreWhole log
    pub given : all_given log ≡ all_due packets
    pub last : HasLast end log
    pub ran : RunsAll serves Called before (answers log) then
    pub has_end : HasEnd end packets
    pub ends : Ends serves Called then now (stream packets rest) rest extra end after

-- the lane whose calls the activity runs that reads
abbrev pub reader : ℕ
reader = READER

module _ {W : Type 0} (serves : Procedure → Bool) (Called : Who → Request → Reply → Hand W → Hand W → Type 0) where
  -- the course of a session whose calls are run by the activity that reads, numbered from 0
  abbrev pub HasServed : ℕ → Hand W → Option (List ℕ) → Option (List ℕ) → Option (List ℕ) → Option (List ℕ) → End → Hand W → Type 0
  HasServed session before left now held wrote end after = (count : ℕ)
      × Course serves Called (record { at_hand = before; next = call_of session reader 0 }) left now held wrote end (record { at_hand = after; next = call_of session reader count })
