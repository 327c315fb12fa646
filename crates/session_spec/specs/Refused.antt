-- Refusals: what each keeps.
use Rattle.std.specs.Prelude.{ℕ, List, ◌++◌, codes, Bool, if◌then◌else◌}
use Rattle.std.specs.Fmt.{decimal}
use Rattle.procedure_spec.specs.Calls.{is_known}
use Rattle.procedure_spec.specs.Procedures.{row_of}
use Rattle.procedure_spec.specs.declared.fault.ArgFault.{ArgFault}
use Rattle.procedure_spec.specs.declared.fault.ArgFault.TheVariants as fault
use Rattle.virt_types.specs.Refusal.{kept_cut}
use Rattle.virt_types.specs.Below.types_base.declared.refusal.Refusal.{Refusal}
use Rattle.virt_types.specs.Below.types_base.declared.refusal.RefusalCode.{RefusalCode}
use Rattle.virt_types.specs.Below.types_base.declared.refusal.RefusalCode.TheVariants as code
use Rattle.wire_spec.specs.declared.fault.XdrFault.{XdrFault}
use Rattle.wire_spec.specs.declared.fault.XdrFault.TheVariants as xdr
use Rattle.wire_spec.specs.declared.message.Header.{Header}

-- a refusal that keeps this text, cut to the length of kept texts
abbrev pub refusal : RefusalCode → List ℕ → Refusal
refusal why text = record { code = why; kept = kept_cut text }

-- where a payload is wrong
abbrev pub place : XdrFault → ℕ
place (xdr.Short at) = at
place (xdr.Pad at) = at
place (xdr.Flag at) = at
place (xdr.TooLong at length) = at
place (xdr.Extra at) = at
place (xdr.Text at) = at

-- how a place is kept
abbrev pub at_place : ℕ → List ℕ
at_place at = codes "at " ++ decimal at

-- why a procedure is not served: it is known and not built, or it is not known
abbrev pub not_served : Bool → RefusalCode
not_served known = if known then code.NotBuilt else code.UnknownProcedure

-- the refusal of a call that no request could be read from
abbrev pub unread : Header → ArgFault → Refusal
unread h fault.Program = refusal code.MalformedCall (codes "program")
unread h fault.Version = refusal code.MalformedCall (codes "version")
unread h fault.Procedure = refusal (not_served (is_known (row_of h.prog h.procedure))) (decimal h.procedure)
unread h (fault.Xdr bad) = refusal code.MalformedCall (at_place (place bad))
unread h (fault.Name at) = refusal code.MalformedCall (at_place at)
unread h (fault.Foreign at) = refusal code.MalformedCall (at_place at)
