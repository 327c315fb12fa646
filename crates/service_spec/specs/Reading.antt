-- Which calls a session reads: those of the procedures that its service serves, and a close, which needs no service.
use Rattle.std.specs.Prelude.{Bool, true, List, ℕ, Result, Ok, Err, if◌then◌else◌}
use Rattle.procedure_spec.specs.Calls.{in_line, line_of}
use Rattle.procedure_spec.specs.declared.fault.ArgFault.{ArgFault}
use Rattle.procedure_spec.specs.declared.fault.ArgFault.TheVariants as fault
use Rattle.procedure_spec.specs.declared.procedure.Procedure.{Procedure}
use Rattle.procedure_spec.specs.declared.procedure.Procedure.TheVariants as procedure
use Rattle.procedure_spec.specs.declared.table.Row.{Row}
use Rattle.virt_types.specs.declared.request.Request.{Request}
use Rattle.wire_spec.specs.declared.message.Header.{Header}

module _ (serves : Procedure → Bool) where
  -- a call of this procedure is read: a close, and what the service serves
  abbrev pub is_read : Procedure → Bool
  is_read procedure.ConnectClose = true
  is_read other = serves other

  -- a call of any other procedure is refused for its number
  abbrev pub read_line : Result Row ArgFault → Result Row ArgFault
  read_line (Ok row) = if is_read row.procedure then Ok row else Err fault.Procedure
  read_line (Err bad) = Err bad

  -- the request that a call is read as, or its first fault in the order program, version, procedure, payload
  unfoldable pub read_of : Header → List ℕ → Result Request ArgFault
  read_of h payload = in_line (read_line (line_of h)) payload
