-- What the end of a session means.
use Rattle.std.specs.Prelude.{◌≡◌, ◌⊎◌, ◌<◌, ℕ, Bool, true, List, [], ◌∷◌, ◌++◌, length, take, Option, None, Some}
use Rattle.procedure_spec.specs.declared.procedure.Procedure.{Procedure}
use Rattle.service_spec.specs.Activities.{Activity, Hand}
use Rattle.service_spec.specs.Calls.{Runs, RunsAll}
use Rattle.service_spec.specs.Saying.{Answer, Replied, Said, answers_in, gives, message, due_to}
use Rattle.session_spec.specs.Course.{IsBegun, IsOver}
use Rattle.session_spec.specs.Replies.{closes}
use Rattle.session_spec.specs.declared.end.End.{End}
use Rattle.session_spec.specs.declared.end.End.TheVariants.{BadPacket, Closed, Eof, NoMemory, SinkFault, SourceFault, Truncated}
use Rattle.virt_types.specs.Below.types_base.declared.caller.Who.{Who}
use Rattle.virt_types.specs.declared.request.Request.{Request}
use Rattle.virt_types.specs.declared.value.Reply.{Reply}
use Rattle.wire_spec.specs.Packets.{IsPacket, fault, spelling}
use Rattle.wire_spec.specs.Split.{IsRest}
use Rattle.wire_spec.specs.declared.message.Packet.{Packet}

-- the last message is the reply to a close
pub record EndsWithClose (log : List Said) : Type 0 where
  pub front : List Said
  pub last : Answer
  pub parts : log ≡ front ++ Replied last ∷ []
  pub is_close : closes last.call ≡ true

-- the reply to a close is the last message
abbrev pub HasLast : End → List Said → Type 0
HasLast Closed log = EndsWithClose log
HasLast other log = Unit {0}

-- nothing was written after the whole messages, and no more calls were run
pub record IsStill {W : Type 0} (before : Activity W) (extra : List ℕ) (after : Activity W) : Type 0 where
  pub nothing : extra ≡ []
  pub same : after ≡ before

module _ {W : Type 0} (serves : Procedure → Bool) (Called : Who → Request → Reply → Hand W → Hand W → Type 0) where
  -- a front, and not the whole, of the message that is due to the next packet
  pub record IsCutMessage (before : Activity W) (rest extra : List ℕ) (after : Activity W) : Type 0 where
    pub packet : Packet
    pub behind : List ℕ
    pub said : Said
    pub count : ℕ
    pub is_packet : IsPacket packet
    pub next : rest ≡ spelling packet ++ behind
    pub due : due_to packet ≡ gives said
    pub ran : RunsAll serves Called before (answers_in said) after
    pub whole : IsPacket (message said)
    pub front : extra ≡ take count (spelling (message said))
    pub cut : count < length (spelling (message said))

  -- the call that comes next was run, and has no reply
  pub record IsUnanswered (before : Activity W) (rest : List ℕ) (after : Activity W) : Type 0 where
    pub answer : Answer
    pub behind : List ℕ
    pub is_packet : IsPacket answer.call
    pub next : rest ≡ spelling answer.call ++ behind
    pub ran : Runs serves Called before answer after

  -- nothing was written after the whole messages, though one more call may have been run
  pub record IsLost (before : Activity W) (rest extra : List ℕ) (after : Activity W) : Type 0 where
    pub nothing : extra ≡ []
    pub ran : (after ≡ before) ⊎ IsUnanswered before rest after

  -- what an end says of the bytes that are left, of those taken, of their rest after the answered packets, and of what was
  -- written after the whole messages: after a close its rest, which the session took with it, is not looked at
  abbrev pub Ends : Activity W → Option (List ℕ) → List ℕ → List ℕ → List ℕ → End → Activity W → Type 0
  Ends s left taken rest extra Closed after = IsStill s extra after
  Ends s left taken rest extra Eof after = (rest ≡ []) × IsOver left taken × IsStill s extra after
  Ends s left taken rest extra (Truncated n) after = (n ≡ length rest) × IsBegun rest × IsOver left taken × IsStill s extra after
  Ends s left taken rest extra (BadPacket bad) after = (fault rest ≡ Some bad) × IsStill s extra after
  Ends s left taken rest extra SourceFault after = (fault rest ≡ None) × IsRest rest × IsStill s extra after
  Ends s left taken rest extra SinkFault after = IsCutMessage s rest extra after
  Ends s left taken rest extra NoMemory after = IsLost s rest extra after
