-- Calls that are refused for their number. No public clause cites this.
use Rattle.std.specs.Prelude.{Bool, false, not, Result, Ok, Err}
use Rattle.procedure_spec.specs.declared.fault.ArgFault.{ArgFault}
use Rattle.procedure_spec.specs.declared.procedure.Procedure.{Procedure}
use Rattle.procedure_spec.specs.declared.table.Row.{Row}
use Rattle.service_spec.specs.Reading.{is_read}

-- the line of the call is there, and its procedure is not read
abbrev pub is_unserved : (Procedure → Bool) → Result Row ArgFault → Bool
is_unserved serves (Ok row) = not (is_read serves row.procedure)
is_unserved serves (Err bad) = false
