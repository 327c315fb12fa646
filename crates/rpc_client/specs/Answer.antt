-- What a reply answers to the call of a request, or why it is no answer.
use Rattle.std.specs.Prelude.{◌==◌, ◌&&◌, Bool, List, ℕ, Result, Ok, Err, if◌then◌else◌}
use Rattle.virt_types.specs.Below.types_base.declared.refusal.Refusal.{Refusal}
use Rattle.virt_types.specs.declared.request.Request.{Request}
use Rattle.virt_types.specs.declared.value.Reply.{Reply}
use Rattle.virt_types.specs.declared.value.Reply.TheVariants as reply
use Rattle.virt_types.specs.declared.value.Value.{Value}
use Rattle.wire_spec.specs.declared.message.Header.{Header}
use Rattle.wire_spec.specs.declared.message.Packet.{Packet}
use Rattle.wire_spec.specs.declared.message.TheConstants.{ERROR, OK}
use Rattle.procedure_spec.specs.Errors.{IsErrorOf}
use Rattle.procedure_spec.specs.ErrorsReading.{error_of}
use Rattle.procedure_spec.specs.Results.{IsAnswer}
use Rattle.procedure_spec.specs.ResultsReading.{reply_of}
use Rattle.procedure_spec.specs.declared.fault.ArgFault.{ArgFault}
use Rattle.rpc_client.specs.declared.fault.ClientFault.{ClientFault}
use Rattle.rpc_client.specs.declared.fault.ClientFault.TheVariants.{BadPayload, WrongSerial}

-- what was read, as an answer
abbrev pub done : Result Value ArgFault → Result Reply ClientFault
done (Ok value) = Ok (reply.Ok value)
done (Err fault) = Err BadPayload

abbrev pub refused : Result Refusal ArgFault → Result Reply ClientFault
refused (Ok refusal) = Ok (reply.No refusal)
refused (Err fault) = Err BadPayload

-- by the status: a value of the request's procedure, or an error
unfoldable pub payload_answer : Request → Packet → Result Reply ClientFault
payload_answer asked p =
    if p.header.status == OK then done (reply_of asked p.payload)
    else (if p.header.status == ERROR then refused (error_of p.payload) else Err BadPayload)

-- the reply is of the call's procedure
abbrev pub is_of_procedure : Header → Header → Bool
is_of_procedure call h = h.prog == call.prog && (h.vers == call.vers && h.procedure == call.procedure)

-- the reply to the call with this header: it has the call's serial, then its procedure
unfoldable pub answer_of : Request → Header → Packet → Result Reply ClientFault
answer_of asked call p =
    if p.header.serial == call.serial then (if is_of_procedure call p.header then payload_answer asked p else Err BadPayload)
    else Err (WrongSerial call.serial p.header.serial)

-- the payload spells the answer
abbrev pub Spells : Request → List ℕ → Reply → Type 0
Spells asked payload (reply.Ok value) = IsAnswer asked payload value
Spells asked payload (reply.No refusal) = IsErrorOf payload refusal
