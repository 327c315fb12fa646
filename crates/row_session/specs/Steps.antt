-- The steps of a session, from one message to all pieces. No public clause cites these.
use Rattle.std.specs.Prelude.{◌≡◌, ◌⊎◌, ◌<◌, ◌≤◌, ℕ, Bool, true, false, List, [], ◌∷◌, ◌++◌, length, take, Option, None, Some, Result, IsErrOf}
use Rattle.std.specs.List.{AllByRecursion}
use Rattle.std.specs.Io.KnownBytes.{Appends, Consumes}
use Rattle.outside_spec.specs.Faults.{Rose}
use Rattle.procedure_spec.specs.declared.procedure.Procedure.{Procedure}
use Rattle.row_session.specs.declared.say.Flow.{Flow}
use Rattle.row_session.specs.declared.say.Flow.TheVariants as flow
use Rattle.row_session.specs.declared.say.Stop.{Stop}
use Rattle.row_session.specs.declared.say.Stop.TheVariants as stop
use Rattle.service_spec.specs.Activities.{Activity, Hand}
use Rattle.service_spec.specs.Calls.{Runs, RunsAll}
use Rattle.service_spec.specs.Ends.{EndsWithClose, HasLast, IsCutMessage, IsLost, IsStill}
use Rattle.service_spec.specs.Saying.{Answer, AreWhole, Said, all_due, all_given, answers, answers_in, due_to, gives, log_bytes, message}
use Rattle.session_spec.specs.Course.{HasEnd, IsClosed, StaysOpen}
use Rattle.session_spec.specs.Replies.{closes}
use Rattle.session_spec.specs.declared.end.End.{End}
use Rattle.session_spec.specs.declared.end.End.TheVariants.{BadPacket, Eof, NoMemory, SinkFault, Truncated}
use Rattle.session_spec.specs.declared.end.End.TheVariants as end
use Rattle.virt_types.specs.Below.types_base.declared.caller.Who.{Who}
use Rattle.virt_types.specs.declared.request.Request.{Request}
use Rattle.virt_types.specs.declared.value.Reply.{Reply}
use Rattle.wire_spec.specs.Packets.{IsPacket, fault, spelling}
use Rattle.wire_spec.specs.Split.{IsRest, stream}
use Rattle.wire_spec.specs.declared.message.Packet.{Packet}

-- a message was put whole
pub record IsPut (m : Packet) (held wrote : Option (List ℕ)) : Type 0 where
  pub whole : IsPacket m
  pub written : Appends held wrote (spelling m)

-- a front of a message was put, and not the whole
pub record IsPutShort (m : Packet) (held wrote : Option (List ℕ)) : Type 0 where
  pub whole : IsPacket m
  pub count : ℕ
  pub cut : count < length (spelling m)
  pub written : Appends held wrote (take count (spelling m))

-- what was put of a message that was not put whole
abbrev pub IsPutInPart : Packet → Option (List ℕ) → Option (List ℕ) → Stop → Type 0
IsPutInPart m held wrote stop.SinkFault = IsPutShort m held wrote
IsPutInPart m held wrote stop.NoMemory = wrote ≡ held

-- a fault of the sink comes only where its count rose
pub record HasSinkCause {T : Type 0} (before now : ℕ) (result : Result T Stop) : Type 0 where
  pub later : before ≤ now
  pub failed : IsErrOf result stop.SinkFault → Rose before now

-- whether a packet closes the session
abbrev pub has_closed : Flow → Bool
has_closed flow.On = false
has_closed flow.Closed = true

module _ {W : Type 0} (serves : Procedure → Bool) (Called : Who → Request → Reply → Hand W → Hand W → Type 0) where
  -- packets got what is due to them, in their order
  pub record AreAnswered (before : Activity W) (packets : List Packet) (log : List Said) (after : Activity W) : Type 0 where
    pub given : all_given log ≡ all_due packets
    pub whole : AreWhole log
    pub ran : RunsAll serves Called before (answers log) after

  -- what was put of the message that is due to this packet
  abbrev pub StopsAt : Activity W → Packet → List ℕ → Stop → Activity W → Type 0
  StopsAt s p extra stop.SinkFault after = (said : Said) × (n : ℕ) × (due_to p ≡ gives said) × RunsAll serves Called s (answers_in said) after
      × IsPacket (message said) × (extra ≡ take n (spelling (message said))) × (n < length (spelling (message said)))
  StopsAt s p extra stop.NoMemory after = (extra ≡ []) × ((after ≡ s) ⊎ ((said : Reply) × Runs serves Called s (record { call = p; reply = said }) after))

  -- one packet was answered
  pub record SaysOne (p : Packet) (s : Activity W) (held : Option (List ℕ)) (after : Activity W) (wrote : Option (List ℕ)) (next : Flow) : Type 0 where
    pub log : List Said
    pub answered : AreAnswered s (p ∷ []) log after
    pub written : Appends held wrote (log_bytes log)
    pub closes_is : has_closed next ≡ closes p

  -- one packet was answered in part, or not at all
  abbrev pub StopsOne : Packet → Activity W → Option (List ℕ) → Activity W → Option (List ℕ) → Stop → Type 0
  StopsOne p s held after wrote why = (extra : List ℕ) × StopsAt s p extra why after × Appends held wrote extra

  -- a front of the packets was answered, and none of them closes the session
  pub record ServesFront (ready left : List Packet) (s : Activity W) (held : Option (List ℕ)) (after : Activity W) (wrote : Option (List ℕ)) : Type 0 where
    pub served : List Packet
    pub log : List Said
    pub parts : ready ≡ served ++ left
    pub stays_open : StaysOpen served
    pub answered : AreAnswered s served log after
    pub written : Appends held wrote (log_bytes log)

  -- a front of the packets was answered, of which the last closes the session
  pub record Closes (ready : List Packet) (s : Activity W) (held : Option (List ℕ)) (after : Activity W) (wrote : Option (List ℕ)) : Type 0 where
    pub served : List Packet
    pub left : List Packet
    pub log : List Said
    pub parts : ready ≡ served ++ left
    pub is_closed : IsClosed served
    pub last : EndsWithClose log
    pub answered : AreAnswered s served log after
    pub written : Appends held wrote (log_bytes log)

  -- all packets were answered, or those up to a close
  abbrev pub Flows : List Packet → List Packet → Activity W → Option (List ℕ) → Activity W → Option (List ℕ) → Flow → Type 0
  Flows ready left s held after wrote flow.On = ServesFront ready [] s held after wrote × (left ≡ [])
  Flows ready left s held after wrote flow.Closed = Closes ready s held after wrote

  -- a front of the packets was answered, and the next one was not, or in part
  pub record Stopped (ready : List Packet) (s : Activity W) (held : Option (List ℕ)) (after : Activity W) (wrote : Option (List ℕ)) (why : Stop) : Type 0 where
    pub served : List Packet
    pub next : Packet
    pub others : List Packet
    pub log : List Said
    pub then : Activity W
    pub extra : List ℕ
    pub parts : ready ≡ served ++ next ∷ others
    pub stays_open : StaysOpen served
    pub answered : AreAnswered s served log then
    pub written : Appends held wrote (log_bytes log ++ extra)
    pub stops : StopsAt then next extra why after

  -- all whole packets of the bytes were answered, none closes the session, and no fault comes after them
  pub record PieceDone (bytes left : List ℕ) (s : Activity W) (held : Option (List ℕ)) (after : Activity W) (wrote : Option (List ℕ)) : Type 0 where
    pub packets : List Packet
    pub log : List Said
    pub parts : bytes ≡ stream packets left
    pub each : AllByRecursion IsPacket packets
    pub stays_open : StaysOpen packets
    pub answered : AreAnswered s packets log after
    pub written : Appends held wrote (log_bytes log)
    pub part : IsRest left
    pub sound : fault left ≡ None

  -- the ends that a piece can bring
  abbrev pub EndsPiece : Activity W → List ℕ → List ℕ → End → Activity W → Type 0
  EndsPiece s rest extra end.Closed after = IsStill s extra after
  EndsPiece s rest extra (BadPacket bad) after = (fault rest ≡ Some bad) × IsStill s extra after
  EndsPiece s rest extra SinkFault after = IsCutMessage serves Called s rest extra after
  EndsPiece s rest extra NoMemory after = IsLost serves Called s rest extra after
  EndsPiece s rest extra other after = ⊥

  -- the session ended at these bytes
  pub record PieceEnds (bytes : List ℕ) (s : Activity W) (held : Option (List ℕ)) (after : Activity W) (wrote : Option (List ℕ)) (end : End) : Type 0 where
    pub packets : List Packet
    pub rest : List ℕ
    pub log : List Said
    pub then : Activity W
    pub extra : List ℕ
    pub parts : bytes ≡ stream packets rest
    pub each : AllByRecursion IsPacket packets
    pub has_end : HasEnd end packets
    pub last : HasLast end log
    pub answered : AreAnswered s packets log then
    pub written : Appends held wrote (log_bytes log ++ extra)
    pub ends : EndsPiece then rest extra end after

  -- so many bytes were taken, and all whole packets of them answered, of which none closes the session
  pub record Going (s : Activity W) (left now held wrote : Option (List ℕ)) (rest : List ℕ) (count : ℕ) (then : Activity W) : Type 0 where
    pub packets : List Packet
    pub log : List Said
    pub taken : Consumes left now (stream packets rest)
    pub each : AllByRecursion IsPacket packets
    pub stays_open : StaysOpen packets
    pub answered : AreAnswered s packets log then
    pub written : Appends held wrote (log_bytes log)
    pub part : IsRest rest
    pub sound : fault rest ≡ None
    pub count_is : count ≡ length (stream packets rest)

-- how an input ends that leaves these bytes of a packet
abbrev pub end_at : List ℕ → End
end_at [] = Eof
end_at (x ∷ xs) = Truncated (length (x ∷ xs))
