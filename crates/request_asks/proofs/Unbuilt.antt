-- Procedures that are not built.
use Rattle.std.proofs.Common.{◌≡◌, false, decimal, refl, sym}
use Rattle.outcome_spec.specs.Below.domain_requests.Requests.{Fails}
use Rattle.outcome_spec.specs.Shown.{IsNotBuilt, is_built}
use Rattle.procedure_spec.specs.Lines.{line}
use Rattle.procedure_spec.specs.Requests.{procedure_of}
use Rattle.procedure_spec.specs.declared.procedure.Procedure.{Procedure}
use Rattle.procedure_spec.specs.declared.procedure.Procedure.TheVariants as procedure
use Rattle.procedure_spec.proofs.LinesAre.{each_found}
use Rattle.session_spec.specs.Refused.{refusal}
use Rattle.virt_types.specs.Below.types_base.declared.memory.OrNoMemory.{OrNoMemory}
use Rattle.virt_types.specs.Below.types_base.declared.memory.OrNoMemory.TheVariants as or
use Rattle.virt_types.specs.Below.types_base.declared.refusal.Refusal.{Refusal}
use Rattle.virt_types.specs.Below.types_base.declared.refusal.RefusalCode.TheVariants as code
use Rattle.virt_types.specs.declared.request.Request.{Request}

each_own : (p : Procedure) → (line p).procedure ≡ p
each_own procedure.ConnectOpen = refl
each_own procedure.ConnectClose = refl
each_own procedure.DomainAttachDevice = refl
each_own procedure.DomainCreate = refl
each_own procedure.DomainCreateXml = refl
each_own procedure.DomainDefineXml = refl
each_own procedure.DomainDestroy = refl
each_own procedure.DomainDetachDevice = refl
each_own procedure.DomainGetXmlDesc = refl
each_own procedure.DomainGetAutostart = refl
each_own procedure.DomainGetInfo = refl
each_own procedure.ConnectListDefinedDomains = refl
each_own procedure.DomainLookupByName = refl
each_own procedure.DomainLookupByUuid = refl
each_own procedure.DomainReboot = refl
each_own procedure.DomainResume = refl
each_own procedure.DomainSetAutostart = refl
each_own procedure.DomainSetMemory = refl
each_own procedure.DomainSetVcpus = refl
each_own procedure.DomainShutdown = refl
each_own procedure.DomainSuspend = refl
each_own procedure.DomainUndefine = refl
each_own procedure.ConnectListDefinedNetworks = refl
each_own procedure.ConnectListNetworks = refl
each_own procedure.NetworkCreate = refl
each_own procedure.NetworkDefineXml = refl
each_own procedure.NetworkDestroy = refl
each_own procedure.NetworkGetXmlDesc = refl
each_own procedure.NetworkLookupByName = refl
each_own procedure.NetworkSetAutostart = refl
each_own procedure.NetworkUndefine = refl
each_own procedure.DomainCoreDump = refl
each_own procedure.DomainRestore = refl
each_own procedure.DomainSave = refl
each_own procedure.ListAll = refl
each_own procedure.JobInfo = refl
each_own procedure.JobAbort = refl
each_own procedure.SnapCreate = refl
each_own procedure.SnapList = refl
each_own procedure.SnapParent = refl
each_own procedure.SnapDelete = refl
each_own procedure.SnapRevert = refl
each_own procedure.SnapXml = refl
each_own procedure.EventRegister = refl
each_own procedure.EventDeregister = refl
each_own procedure.MemoryStats = refl
each_own procedure.Kick = refl
each_own procedure.Titles = refl
each_own procedure.PoolDefine = refl
each_own procedure.PoolCreate = refl
each_own procedure.PoolDestroy = refl
each_own procedure.PoolUndefine = refl
each_own procedure.PoolXml = refl
each_own procedure.PoolLookup = refl
each_own procedure.PoolList = refl
each_own procedure.PoolAutostart = refl
each_own procedure.VolCreate = refl
each_own procedure.VolDelete = refl
each_own procedure.VolList = refl
each_own procedure.VolXml = refl
each_own procedure.Leases = refl
each_own procedure.MigratePerform = refl
each_own procedure.MigrateConfirm = refl
each_own procedure.MigratePrepare = refl
each_own procedure.MigrateFinish = refl
each_own procedure.MigrateLimit = refl

-- the procedure is not built, and is refused for that, unless there was no memory
abbrev pub IsUnbuilt : Request → OrNoMemory Refusal → Type 0
IsUnbuilt r (or.Fault why) = IsNotBuilt r why
IsUnbuilt r or.NoMemory = Unit {0}

pub unbuilt : (r : Request) (e : OrNoMemory Refusal) → is_built r ≡ false → Fails e (refusal code.NotBuilt (decimal (line (procedure_of r)).number)) → IsUnbuilt r e
unbuilt r (or.Fault why) not_built tells = record {
  not_built = not_built;
  line = line (procedure_of r);
  is_line = each_found (procedure_of r);
  procedure = sym (each_own (procedure_of r));
  tells = tells;
}
unbuilt r or.NoMemory not_built tells = tt
