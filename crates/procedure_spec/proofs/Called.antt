-- A packet is read as a call exactly where it is one.
use Rattle.std.proofs.Common.{◌≡◌, ℕ, ◌==◌, Bool, true, false, cond, eqb, List, Option, None, Some, Result, Ok, Err, refl, ap}
use Rattle.std.proofs.lemmas.Bool.{eqb-true}
use Rattle.std.proofs.Common.{eq-eqb}
use Rattle.virt_types.specs.declared.request.Request.{Request}
use Rattle.wire_spec.specs.declared.message.Header.{Header}
use Rattle.wire_spec.specs.XdrReading.{IsBytes}
use Rattle.procedure_spec.specs.Arguments.{HasArguments}
use Rattle.procedure_spec.specs.ArgumentsReading.{request_in}
use Rattle.procedure_spec.specs.Calls.{AsksBy, IsCall, call_of, call_packet, in_line, is_program, known_line, line_of}
use Rattle.procedure_spec.specs.Lines.{line}
use Rattle.procedure_spec.specs.Procedures.{row_of}
use Rattle.procedure_spec.specs.Requests.{procedure_of}
use Rattle.procedure_spec.specs.declared.fault.ArgFault.{ArgFault}
use Rattle.procedure_spec.specs.declared.fault.ArgFault.TheVariants as fault
use Rattle.procedure_spec.specs.declared.procedure.Procedure.{Procedure}
use Rattle.procedure_spec.specs.declared.procedure.Procedure.TheVariants as procedure
use Rattle.procedure_spec.specs.declared.words.TheConstants.{VERSION}
use Rattle.procedure_spec.specs.declared.table.Row.{Row}
use Rattle.procedure_spec.proofs.LinesAre.{each_found, line_is}
use Rattle.procedure_spec.proofs.Requests.{in_again, in_found}

chosen : {A F : Type 0} (b : Bool) (r : Result A F) (f : F) (x : A) → cond b r (Err f) ≡ Ok x → (b ≡ true) × (r ≡ Ok x)
chosen true r f x e = (refl, e)
chosen false r f x e = absurd cc

known_found : (o : Option Row) (row : Row) → known_line o ≡ Ok row → o ≡ Some row
known_found None row e = absurd cc
known_found (Some r) row e = let same : r ≡ row = cc in ap (λ (s : Row). Some s) same

-- what the line of a call says
pub record IsLine (h : Header) (row : Row) : Type 0 where
  pub program : is_program h.prog ≡ true
  pub version : h.vers ≡ VERSION
  pub is_line : row_of h.prog h.procedure ≡ Some row

line_found : (h : Header) (row : Row) → line_of h ≡ Ok row → IsLine h row
unfolding line_of
line_found h row e =
    let p = chosen (is_program h.prog) _ fault.Program row e in
    let v = chosen (h.vers == VERSION) _ fault.Version row p.1 in
    record { program = p.0; version = eqb-true h.vers VERSION v.0; is_line = known_found (row_of h.prog h.procedure) row v.1 }

line_again : (h : Header) (row : Row) → IsLine h row → line_of h ≡ Ok row
unfolding line_of
line_again h row is =
    let one : eqb h.vers VERSION ≡ true = eq-eqb h.vers VERSION is.version in
    rw (is.program, one, is.is_line) refl

line_found_in : (read : Result Row ArgFault) (payload : List ℕ) (r : Request) → in_line read payload ≡ Ok r → (row : Row) × (read ≡ Ok row) × (request_in row payload ≡ Ok r)
line_found_in (Ok row) payload r e = (row, refl, e)
line_found_in (Err bad) payload r e = absurd cc

-- ---- calls of the tables

is_call : (h : Header) (payload : List ℕ) (row : Row) (r : Request) → IsBytes payload → line_of h ≡ Ok row → request_in row payload ≡ Ok r → IsCall h payload r
is_call h payload row r fits line_e e =
    let l = line_found h row line_e in
    let f = in_found row payload r fits e in
    record { program = l.program; version = l.version; row = row; is_line = l.is_line; procedure = f.procedure; has = f.has; spelled = f.spelled }

pub call_found : (h : Header) (payload : List ℕ) (r : Request) → IsBytes payload → call_of h payload ≡ Ok r → IsCall h payload r
unfolding call_of
call_found h payload r fits e =
    let i = line_found_in (line_of h) payload r e in
    is_call h payload i.0 r fits i.1 i.2

again_in : (h : Header) (payload : List ℕ) (r : Request) (is : IsCall h payload r) → request_in is.row payload ≡ Ok r
again_in h payload r is = in_again is.row payload r (line_is h.prog h.procedure is.row is.is_line) is.procedure is.has is.spelled

again_line : (h : Header) (payload : List ℕ) (r : Request) (is : IsCall h payload r) → line_of h ≡ Ok is.row
again_line h payload r is = line_again h is.row (record { program = is.program; version = is.version; is_line = is.is_line })

pub call_again : (h : Header) (payload : List ℕ) (r : Request) → IsCall h payload r → call_of h payload ≡ Ok r
unfolding call_of
call_again h payload r is = rw (again_line h payload r is, again_in h payload r is) refl

pub call_in : (h : Header) (payload : List ℕ) → in_line (line_of h) payload ≡ call_of h payload
unfolding call_of
call_in h payload = refl

-- ---- the call that is written for a request

program_known : (p : Procedure) → is_program (line p).program ≡ true
program_known procedure.ConnectOpen = refl
program_known procedure.ConnectClose = refl
program_known procedure.DomainAttachDevice = refl
program_known procedure.DomainCreate = refl
program_known procedure.DomainCreateXml = refl
program_known procedure.DomainDefineXml = refl
program_known procedure.DomainDestroy = refl
program_known procedure.DomainDetachDevice = refl
program_known procedure.DomainGetXmlDesc = refl
program_known procedure.DomainGetAutostart = refl
program_known procedure.DomainGetInfo = refl
program_known procedure.ConnectListDefinedDomains = refl
program_known procedure.DomainLookupByName = refl
program_known procedure.DomainLookupByUuid = refl
program_known procedure.DomainReboot = refl
program_known procedure.DomainResume = refl
program_known procedure.DomainSetAutostart = refl
program_known procedure.DomainSetMemory = refl
program_known procedure.DomainSetVcpus = refl
program_known procedure.DomainShutdown = refl
program_known procedure.DomainSuspend = refl
program_known procedure.DomainUndefine = refl
program_known procedure.ConnectListDefinedNetworks = refl
program_known procedure.ConnectListNetworks = refl
program_known procedure.NetworkCreate = refl
program_known procedure.NetworkDefineXml = refl
program_known procedure.NetworkDestroy = refl
program_known procedure.NetworkGetXmlDesc = refl
program_known procedure.NetworkLookupByName = refl
program_known procedure.NetworkSetAutostart = refl
program_known procedure.NetworkUndefine = refl
program_known procedure.DomainCoreDump = refl
program_known procedure.DomainRestore = refl
program_known procedure.DomainSave = refl
program_known procedure.ListAll = refl
program_known procedure.JobInfo = refl
program_known procedure.JobAbort = refl
program_known procedure.SnapCreate = refl
program_known procedure.SnapList = refl
program_known procedure.SnapParent = refl
program_known procedure.SnapDelete = refl
program_known procedure.SnapRevert = refl
program_known procedure.SnapXml = refl
program_known procedure.EventRegister = refl
program_known procedure.EventDeregister = refl
program_known procedure.MemoryStats = refl
program_known procedure.Kick = refl
program_known procedure.Titles = refl
program_known procedure.PoolDefine = refl
program_known procedure.PoolCreate = refl
program_known procedure.PoolDestroy = refl
program_known procedure.PoolUndefine = refl
program_known procedure.PoolXml = refl
program_known procedure.PoolLookup = refl
program_known procedure.PoolList = refl
program_known procedure.PoolAutostart = refl
program_known procedure.VolCreate = refl
program_known procedure.VolDelete = refl
program_known procedure.VolList = refl
program_known procedure.VolXml = refl
program_known procedure.Leases = refl
program_known procedure.MigratePerform = refl
program_known procedure.MigrateConfirm = refl
program_known procedure.MigratePrepare = refl
program_known procedure.MigrateFinish = refl
program_known procedure.MigrateLimit = refl

own_procedure : (p : Procedure) → p ≡ (line p).procedure
own_procedure procedure.ConnectOpen = refl
own_procedure procedure.ConnectClose = refl
own_procedure procedure.DomainAttachDevice = refl
own_procedure procedure.DomainCreate = refl
own_procedure procedure.DomainCreateXml = refl
own_procedure procedure.DomainDefineXml = refl
own_procedure procedure.DomainDestroy = refl
own_procedure procedure.DomainDetachDevice = refl
own_procedure procedure.DomainGetXmlDesc = refl
own_procedure procedure.DomainGetAutostart = refl
own_procedure procedure.DomainGetInfo = refl
own_procedure procedure.ConnectListDefinedDomains = refl
own_procedure procedure.DomainLookupByName = refl
own_procedure procedure.DomainLookupByUuid = refl
own_procedure procedure.DomainReboot = refl
own_procedure procedure.DomainResume = refl
own_procedure procedure.DomainSetAutostart = refl
own_procedure procedure.DomainSetMemory = refl
own_procedure procedure.DomainSetVcpus = refl
own_procedure procedure.DomainShutdown = refl
own_procedure procedure.DomainSuspend = refl
own_procedure procedure.DomainUndefine = refl
own_procedure procedure.ConnectListDefinedNetworks = refl
own_procedure procedure.ConnectListNetworks = refl
own_procedure procedure.NetworkCreate = refl
own_procedure procedure.NetworkDefineXml = refl
own_procedure procedure.NetworkDestroy = refl
own_procedure procedure.NetworkGetXmlDesc = refl
own_procedure procedure.NetworkLookupByName = refl
own_procedure procedure.NetworkSetAutostart = refl
own_procedure procedure.NetworkUndefine = refl
own_procedure procedure.DomainCoreDump = refl
own_procedure procedure.DomainRestore = refl
own_procedure procedure.DomainSave = refl
own_procedure procedure.ListAll = refl
own_procedure procedure.JobInfo = refl
own_procedure procedure.JobAbort = refl
own_procedure procedure.SnapCreate = refl
own_procedure procedure.SnapList = refl
own_procedure procedure.SnapParent = refl
own_procedure procedure.SnapDelete = refl
own_procedure procedure.SnapRevert = refl
own_procedure procedure.SnapXml = refl
own_procedure procedure.EventRegister = refl
own_procedure procedure.EventDeregister = refl
own_procedure procedure.MemoryStats = refl
own_procedure procedure.Kick = refl
own_procedure procedure.Titles = refl
own_procedure procedure.PoolDefine = refl
own_procedure procedure.PoolCreate = refl
own_procedure procedure.PoolDestroy = refl
own_procedure procedure.PoolUndefine = refl
own_procedure procedure.PoolXml = refl
own_procedure procedure.PoolLookup = refl
own_procedure procedure.PoolList = refl
own_procedure procedure.PoolAutostart = refl
own_procedure procedure.VolCreate = refl
own_procedure procedure.VolDelete = refl
own_procedure procedure.VolList = refl
own_procedure procedure.VolXml = refl
own_procedure procedure.Leases = refl
own_procedure procedure.MigratePerform = refl
own_procedure procedure.MigrateConfirm = refl
own_procedure procedure.MigratePrepare = refl
own_procedure procedure.MigrateFinish = refl
own_procedure procedure.MigrateLimit = refl

pub asks_by : (asked : Request) (serial : ℕ) → HasArguments asked → AsksBy (call_packet asked serial) asked
asks_by asked serial has =
    let p = call_packet asked serial in
    let call : IsCall p.header p.payload asked = record {
      program = program_known (procedure_of asked);
      version = refl;
      row = line (procedure_of asked);
      is_line = each_found (procedure_of asked);
      procedure = own_procedure (procedure_of asked);
      has = has;
      spelled = refl;
    } in
    record { call = call; back = call_again p.header p.payload asked call }
