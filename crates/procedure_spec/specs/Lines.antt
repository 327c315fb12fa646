-- The line of each procedure, as the programs' documents have it: a second reader of the tables.
use Rattle.std.specs.Prelude.{◌≡◌, ℕ, List}
use Rattle.std.specs.List.{AllByRecursion}
use Rattle.procedure_spec.specs.declared.procedure.Procedure.{Procedure}
use Rattle.procedure_spec.specs.declared.procedure.Procedure.TheVariants as procedure
use Rattle.procedure_spec.specs.declared.shape.ArgumentShape.{ArgumentShape}
use Rattle.procedure_spec.specs.declared.shape.ArgumentShape.TheVariants as call
use Rattle.procedure_spec.specs.declared.shape.ResultShape.{ResultShape}
use Rattle.procedure_spec.specs.declared.shape.ResultShape.TheVariants as reply
use Rattle.procedure_spec.specs.declared.shape.TargetShape.{TargetShape}
use Rattle.procedure_spec.specs.declared.shape.TargetShape.TheVariants as on
use Rattle.procedure_spec.specs.declared.table.Row.{Row}
use Rattle.procedure_spec.specs.declared.table.TheConstants.{OWN, REMOTE}

-- a line of libvirt's remote program, in a choice of this project's own (remote_protocol.x)
abbrev remote : ℕ → Procedure → TargetShape → ArgumentShape → ResultShape → Row
remote n p t a r = record { program = REMOTE; number = n; procedure = p; target = t; arguments = a; result = r }

-- a line of this project's own program
abbrev own : ℕ → Procedure → TargetShape → ArgumentShape → ResultShape → Row
own n p t a r = record { program = OWN; number = n; procedure = p; target = t; arguments = a; result = r }

abbrev pub line : Procedure → Row
line procedure.ConnectOpen = remote 1 procedure.ConnectOpen on.Nothing call.OptionalNameWord reply.Nothing
line procedure.ConnectClose = remote 2 procedure.ConnectClose on.Nothing call.Nothing reply.Nothing
line procedure.DomainAttachDevice = remote 8 procedure.DomainAttachDevice on.Domain call.Definition reply.Nothing
line procedure.DomainCreate = remote 9 procedure.DomainCreate on.Domain call.Nothing reply.Nothing
line procedure.DomainCreateXml = remote 10 procedure.DomainCreateXml on.Nothing call.DefinitionInteger reply.Domain
line procedure.DomainDefineXml = remote 11 procedure.DomainDefineXml on.Nothing call.Definition reply.Domain
line procedure.DomainDestroy = remote 12 procedure.DomainDestroy on.Domain call.Nothing reply.Nothing
line procedure.DomainDetachDevice = remote 13 procedure.DomainDetachDevice on.Domain call.Definition reply.Nothing
line procedure.DomainGetXmlDesc = remote 14 procedure.DomainGetXmlDesc on.Domain call.Word reply.Text
line procedure.DomainGetAutostart = remote 15 procedure.DomainGetAutostart on.Domain call.Nothing reply.Autostart
line procedure.DomainGetInfo = remote 16 procedure.DomainGetInfo on.Domain call.Nothing reply.Info
line procedure.ConnectListDefinedDomains = remote 21 procedure.ConnectListDefinedDomains on.Nothing call.Integer reply.Names
line procedure.DomainLookupByName = remote 23 procedure.DomainLookupByName on.Nothing call.Name reply.Domain
line procedure.DomainLookupByUuid = remote 24 procedure.DomainLookupByUuid on.Nothing call.Uuid reply.Domain
line procedure.DomainReboot = remote 27 procedure.DomainReboot on.Domain call.Word reply.Nothing
line procedure.DomainResume = remote 28 procedure.DomainResume on.Domain call.Nothing reply.Nothing
line procedure.DomainSetAutostart = remote 29 procedure.DomainSetAutostart on.Domain call.Integer reply.Nothing
line procedure.DomainSetMemory = remote 31 procedure.DomainSetMemory on.Domain call.DoubleWord reply.Nothing
line procedure.DomainSetVcpus = remote 32 procedure.DomainSetVcpus on.Domain call.Word reply.Nothing
line procedure.DomainShutdown = remote 33 procedure.DomainShutdown on.Domain call.Nothing reply.Nothing
line procedure.DomainSuspend = remote 34 procedure.DomainSuspend on.Domain call.Nothing reply.Nothing
line procedure.DomainUndefine = remote 35 procedure.DomainUndefine on.Domain call.Nothing reply.Nothing
line procedure.ConnectListDefinedNetworks = remote 36 procedure.ConnectListDefinedNetworks on.Nothing call.Integer reply.Names
line procedure.ConnectListNetworks = remote 38 procedure.ConnectListNetworks on.Nothing call.Integer reply.Names
line procedure.NetworkCreate = remote 39 procedure.NetworkCreate on.Network call.Nothing reply.Nothing
line procedure.NetworkDefineXml = remote 41 procedure.NetworkDefineXml on.Nothing call.Definition reply.Network
line procedure.NetworkDestroy = remote 42 procedure.NetworkDestroy on.Network call.Nothing reply.Nothing
line procedure.NetworkGetXmlDesc = remote 43 procedure.NetworkGetXmlDesc on.Network call.Word reply.Text
line procedure.NetworkLookupByName = remote 46 procedure.NetworkLookupByName on.Nothing call.Name reply.Network
line procedure.NetworkSetAutostart = remote 48 procedure.NetworkSetAutostart on.Network call.Integer reply.Nothing
line procedure.NetworkUndefine = remote 49 procedure.NetworkUndefine on.Network call.Nothing reply.Nothing
line procedure.DomainCoreDump = remote 53 procedure.DomainCoreDump on.Domain call.NameWord reply.Nothing
line procedure.DomainRestore = remote 54 procedure.DomainRestore on.Nothing call.Name reply.Nothing
line procedure.DomainSave = remote 55 procedure.DomainSave on.Domain call.Name reply.Nothing
line procedure.ListAll = own 1 procedure.ListAll on.Nothing call.Nothing reply.Domains
line procedure.JobInfo = own 2 procedure.JobInfo on.Domain call.Nothing reply.Job
line procedure.JobAbort = own 3 procedure.JobAbort on.Domain call.Nothing reply.Nothing
line procedure.SnapCreate = own 4 procedure.SnapCreate on.Domain call.Definition reply.Name
line procedure.SnapList = own 5 procedure.SnapList on.Domain call.Nothing reply.Names
line procedure.SnapParent = own 6 procedure.SnapParent on.Domain call.Name reply.OptionalName
line procedure.SnapDelete = own 7 procedure.SnapDelete on.Domain call.NameInteger reply.Nothing
line procedure.SnapRevert = own 8 procedure.SnapRevert on.Domain call.Name reply.Nothing
line procedure.SnapXml = own 9 procedure.SnapXml on.Domain call.Name reply.Text
line procedure.EventRegister = own 10 procedure.EventRegister on.Domain call.Nothing reply.Nothing
line procedure.EventDeregister = own 11 procedure.EventDeregister on.Domain call.Nothing reply.Nothing
line procedure.MemoryStats = own 14 procedure.MemoryStats on.Domain call.Nothing reply.DoubleWord
line procedure.Kick = own 15 procedure.Kick on.Domain call.Integer reply.Nothing
line procedure.Titles = own 16 procedure.Titles on.Nothing call.Nothing reply.Titles
line procedure.PoolDefine = own 20 procedure.PoolDefine on.Nothing call.Definition reply.Pool
line procedure.PoolCreate = own 21 procedure.PoolCreate on.Pool call.Nothing reply.Nothing
line procedure.PoolDestroy = own 22 procedure.PoolDestroy on.Pool call.Nothing reply.Nothing
line procedure.PoolUndefine = own 23 procedure.PoolUndefine on.Pool call.Nothing reply.Nothing
line procedure.PoolXml = own 24 procedure.PoolXml on.Pool call.Nothing reply.Text
line procedure.PoolLookup = own 25 procedure.PoolLookup on.Nothing call.Name reply.Pool
line procedure.PoolList = own 26 procedure.PoolList on.Nothing call.Nothing reply.Pools
line procedure.PoolAutostart = own 27 procedure.PoolAutostart on.Pool call.Integer reply.Nothing
line procedure.VolCreate = own 30 procedure.VolCreate on.Pool call.Definition reply.Name
line procedure.VolDelete = own 31 procedure.VolDelete on.Pool call.Name reply.Nothing
line procedure.VolList = own 32 procedure.VolList on.Pool call.Nothing reply.Names
line procedure.VolXml = own 33 procedure.VolXml on.Pool call.Name reply.Text
line procedure.Leases = own 40 procedure.Leases on.Network call.Nothing reply.Leases
line procedure.MigratePerform = own 50 procedure.MigratePerform on.Domain call.Nothing reply.Migrated
line procedure.MigrateConfirm = own 51 procedure.MigrateConfirm on.Domain call.Integer reply.Nothing
line procedure.MigratePrepare = own 52 procedure.MigratePrepare on.Nothing call.DefinitionIntegerState reply.Domain
line procedure.MigrateFinish = own 53 procedure.MigrateFinish on.Domain call.Integer reply.Nothing
line procedure.MigrateLimit = own 54 procedure.MigrateLimit on.Domain call.DoubleWord reply.Nothing

-- each line of a table is that of its procedure
abbrev pub AreLines : List Row → Type 0
AreLines rows = AllByRecursion (λ row. row ≡ line row.procedure) rows
