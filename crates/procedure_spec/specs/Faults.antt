-- Faults of items as faults of a call.
use Rattle.std.specs.Prelude.{Result, Ok, Err}
use Rattle.wire_spec.specs.declared.fault.XdrFault.{XdrFault}
use Rattle.procedure_spec.specs.declared.fault.ArgFault.{ArgFault}
use Rattle.procedure_spec.specs.declared.fault.ArgFault.TheVariants.{Xdr}

-- what reading items gives, as what reading a call gives
abbrev pub xdr : {A : Type 0} → Result A XdrFault → Result A ArgFault
xdr (Ok x) = Ok x
xdr (Err f) = Err (Xdr f)
