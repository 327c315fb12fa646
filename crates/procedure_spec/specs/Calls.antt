-- Calls: which request a packet's header and payload are.
use Rattle.std.specs.Prelude.{◌≡◌, ◌==◌, ℕ, ◌||◌, Bool, true, false, List, Option, None, Some, IfOk, IsSome, Result, Ok, Err, if◌then◌else◌}
use Rattle.virt_types.specs.declared.request.Request.{Request}
use Rattle.wire_spec.specs.declared.message.Header.{Header}
use Rattle.wire_spec.specs.declared.message.Packet.{Packet}
use Rattle.wire_spec.specs.declared.message.TheConstants.{CALL, OK}
use Rattle.procedure_spec.specs.Announcing.{is_announced}
use Rattle.procedure_spec.specs.Arguments.{HasArguments, arguments}
use Rattle.procedure_spec.specs.ArgumentsReading.{request_in}
use Rattle.procedure_spec.specs.Lines.{line}
use Rattle.procedure_spec.specs.Procedures.{row_of}
use Rattle.procedure_spec.specs.Requests.{procedure_of}
use Rattle.procedure_spec.specs.declared.fault.ArgFault.{ArgFault}
use Rattle.procedure_spec.specs.declared.fault.ArgFault.TheVariants as fault
use Rattle.procedure_spec.specs.declared.procedure.Procedure.{Procedure}
use Rattle.procedure_spec.specs.declared.table.Row.{Row}
use Rattle.procedure_spec.specs.declared.table.TheConstants.{OWN, REMOTE}
use Rattle.procedure_spec.specs.declared.words.TheConstants.{VERSION}

abbrev pub is_program : ℕ → Bool
is_program program = program == REMOTE || program == OWN

-- the packet calls what the request asks: its number is that of the request's procedure, and its payload spells the arguments
pub record IsCall (h : Header) (payload : List ℕ) (asked : Request) : Type 0 where
  pub program : is_program h.prog ≡ true
  pub version : h.vers ≡ VERSION
  pub row : Row
  pub is_line : row_of h.prog h.procedure ≡ Some row
  pub procedure : procedure_of asked ≡ row.procedure
  pub has : HasArguments asked
  pub spelled : payload ≡ arguments asked

-- the tables have the number, and it is announced
abbrev pub is_known : Option Row → Bool
is_known None = false
is_known (Some row) = is_announced row.procedure

-- ---- reading

-- the line of the procedure that a packet calls, or the first fault in the order program, version, procedure
abbrev pub known_line : Option Row → Result Row ArgFault
known_line None = Err fault.Procedure
known_line (Some row) = Ok row

unfoldable pub line_of : Header → Result Row ArgFault
line_of h = if is_program h.prog then (if h.vers == VERSION then known_line (row_of h.prog h.procedure) else Err fault.Version) else Err fault.Program

-- reading a call: the request, or the first fault; the payload is looked at last
abbrev pub in_line : Result Row ArgFault → List ℕ → Result Request ArgFault
in_line (Ok row) payload = request_in row payload
in_line (Err bad) payload = Err bad

unfoldable pub call_of : Header → List ℕ → Result Request ArgFault
call_of h payload = in_line (line_of h) payload

-- ---- writing

-- the header of a call of a line's procedure
abbrev pub call_header : Row → ℕ → Header
call_header row serial = record { prog = row.program; vers = VERSION; procedure = row.number; kind = CALL; serial = serial; status = OK }

-- the packet that asks a request
abbrev pub call_packet : Request → ℕ → Packet
call_packet asked serial = record { header = call_header (line (procedure_of asked)) serial; payload = arguments asked }

-- a packet asks the request, and is read as that request
pub record AsksBy (p : Packet) (asked : Request) : Type 0 where
  pub call : IsCall p.header p.payload asked
  pub back : call_of p.header p.payload ≡ Ok asked

-- each procedure's line is the one with its numbers
abbrev pub IsFound : Procedure → Type 0
IsFound p = row_of (line p).program (line p).number ≡ Some (line p)
