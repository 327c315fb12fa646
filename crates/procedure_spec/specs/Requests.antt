-- Which procedure each request calls, and with which arguments.
use Rattle.virt_types.specs.declared.object_request.DomainRequest.{DomainRequest}
use Rattle.virt_types.specs.declared.object_request.DomainRequest.TheVariants as on_domain
use Rattle.virt_types.specs.declared.object_request.NetworkRequest.{NetworkRequest}
use Rattle.virt_types.specs.declared.object_request.NetworkRequest.TheVariants as on_network
use Rattle.virt_types.specs.declared.object_request.PoolRequest.{PoolRequest}
use Rattle.virt_types.specs.declared.object_request.PoolRequest.TheVariants as on_pool
use Rattle.virt_types.specs.declared.request.Request.{Request}
use Rattle.virt_types.specs.declared.request.Request.TheVariants as request
use Rattle.procedure_spec.specs.declared.arguments.Arguments.{Arguments}
use Rattle.procedure_spec.specs.declared.arguments.Arguments.TheVariants as args
use Rattle.procedure_spec.specs.declared.arguments.Target.{Target}
use Rattle.procedure_spec.specs.declared.arguments.Target.TheVariants as target
use Rattle.procedure_spec.specs.declared.procedure.Procedure.{Procedure}
use Rattle.procedure_spec.specs.declared.procedure.Procedure.TheVariants as procedure

-- a procedure, and its arguments after what the call is for
abbrev pub Asked : Type 0
Asked = Procedure × Arguments

-- of a domain
abbrev pub asks_of_domain : DomainRequest → Asked
asks_of_domain (on_domain.AttachDevice xml) = (procedure.DomainAttachDevice, args.Definition xml)
asks_of_domain on_domain.Create = (procedure.DomainCreate, args.Nothing)
asks_of_domain on_domain.Destroy = (procedure.DomainDestroy, args.Nothing)
asks_of_domain (on_domain.DetachDevice xml) = (procedure.DomainDetachDevice, args.Definition xml)
asks_of_domain (on_domain.GetXmlDesc flags) = (procedure.DomainGetXmlDesc, args.Word flags)
asks_of_domain on_domain.GetAutostart = (procedure.DomainGetAutostart, args.Nothing)
asks_of_domain on_domain.GetInfo = (procedure.DomainGetInfo, args.Nothing)
asks_of_domain (on_domain.Reboot flags) = (procedure.DomainReboot, args.Word flags)
asks_of_domain on_domain.Resume = (procedure.DomainResume, args.Nothing)
asks_of_domain (on_domain.SetAutostart autostart) = (procedure.DomainSetAutostart, args.Integer autostart)
asks_of_domain (on_domain.SetMemory memory) = (procedure.DomainSetMemory, args.DoubleWord memory)
asks_of_domain (on_domain.SetVcpus vcpus) = (procedure.DomainSetVcpus, args.Word vcpus)
asks_of_domain on_domain.Shutdown = (procedure.DomainShutdown, args.Nothing)
asks_of_domain on_domain.Suspend = (procedure.DomainSuspend, args.Nothing)
asks_of_domain on_domain.Undefine = (procedure.DomainUndefine, args.Nothing)
asks_of_domain (on_domain.CoreDump to flags) = (procedure.DomainCoreDump, args.NameWord to flags)
asks_of_domain (on_domain.Save to) = (procedure.DomainSave, args.Name to)
asks_of_domain on_domain.JobInfo = (procedure.JobInfo, args.Nothing)
asks_of_domain on_domain.JobAbort = (procedure.JobAbort, args.Nothing)
asks_of_domain (on_domain.SnapCreate xml) = (procedure.SnapCreate, args.Definition xml)
asks_of_domain on_domain.SnapList = (procedure.SnapList, args.Nothing)
asks_of_domain (on_domain.SnapParent snapshot) = (procedure.SnapParent, args.Name snapshot)
asks_of_domain (on_domain.SnapDelete snapshot children) = (procedure.SnapDelete, args.NameInteger snapshot children)
asks_of_domain (on_domain.SnapRevert snapshot) = (procedure.SnapRevert, args.Name snapshot)
asks_of_domain (on_domain.SnapXml snapshot) = (procedure.SnapXml, args.Name snapshot)
asks_of_domain on_domain.EventRegister = (procedure.EventRegister, args.Nothing)
asks_of_domain on_domain.EventDeregister = (procedure.EventDeregister, args.Nothing)
asks_of_domain on_domain.MemoryStats = (procedure.MemoryStats, args.Nothing)
asks_of_domain (on_domain.Kick action) = (procedure.Kick, args.Integer action)
asks_of_domain on_domain.MigratePerform = (procedure.MigratePerform, args.Nothing)
asks_of_domain (on_domain.MigrateConfirm verdict) = (procedure.MigrateConfirm, args.Integer verdict)
asks_of_domain (on_domain.MigrateFinish go) = (procedure.MigrateFinish, args.Integer go)
asks_of_domain (on_domain.MigrateLimit rest) = (procedure.MigrateLimit, args.DoubleWord rest)

-- of a network
abbrev pub asks_of_network : NetworkRequest → Asked
asks_of_network on_network.Create = (procedure.NetworkCreate, args.Nothing)
asks_of_network on_network.Destroy = (procedure.NetworkDestroy, args.Nothing)
asks_of_network (on_network.GetXmlDesc flags) = (procedure.NetworkGetXmlDesc, args.Word flags)
asks_of_network (on_network.SetAutostart autostart) = (procedure.NetworkSetAutostart, args.Integer autostart)
asks_of_network on_network.Undefine = (procedure.NetworkUndefine, args.Nothing)
asks_of_network on_network.Leases = (procedure.Leases, args.Nothing)

-- of a pool or one of its volumes
abbrev pub asks_of_pool : PoolRequest → Asked
asks_of_pool on_pool.Create = (procedure.PoolCreate, args.Nothing)
asks_of_pool on_pool.Destroy = (procedure.PoolDestroy, args.Nothing)
asks_of_pool on_pool.Undefine = (procedure.PoolUndefine, args.Nothing)
asks_of_pool on_pool.Xml = (procedure.PoolXml, args.Nothing)
asks_of_pool (on_pool.SetAutostart autostart) = (procedure.PoolAutostart, args.Integer autostart)
asks_of_pool (on_pool.VolCreate xml) = (procedure.VolCreate, args.Definition xml)
asks_of_pool (on_pool.VolDelete volume) = (procedure.VolDelete, args.Name volume)
asks_of_pool on_pool.VolList = (procedure.VolList, args.Nothing)
asks_of_pool (on_pool.VolXml volume) = (procedure.VolXml, args.Name volume)

abbrev pub asks : Request → Asked
asks (request.ConnectOpen name flags) = (procedure.ConnectOpen, args.OptionalNameWord name flags)
asks request.ConnectClose = (procedure.ConnectClose, args.Nothing)
asks (request.DomainCreateXml xml flags) = (procedure.DomainCreateXml, args.DefinitionInteger xml flags)
asks (request.DomainDefineXml xml) = (procedure.DomainDefineXml, args.Definition xml)
asks (request.ListDefinedDomains most) = (procedure.ConnectListDefinedDomains, args.Integer most)
asks (request.DomainLookupByName name) = (procedure.DomainLookupByName, args.Name name)
asks (request.DomainLookupByUuid uuid) = (procedure.DomainLookupByUuid, args.Uuid uuid)
asks (request.ListDefinedNetworks most) = (procedure.ConnectListDefinedNetworks, args.Integer most)
asks (request.ListNetworks most) = (procedure.ConnectListNetworks, args.Integer most)
asks (request.NetworkDefineXml xml) = (procedure.NetworkDefineXml, args.Definition xml)
asks (request.NetworkLookupByName name) = (procedure.NetworkLookupByName, args.Name name)
asks (request.DomainRestore from) = (procedure.DomainRestore, args.Name from)
asks request.ListAll = (procedure.ListAll, args.Nothing)
asks request.Titles = (procedure.Titles, args.Nothing)
asks (request.PoolDefine xml) = (procedure.PoolDefine, args.Definition xml)
asks (request.PoolLookup name) = (procedure.PoolLookup, args.Name name)
asks request.PoolList = (procedure.PoolList, args.Nothing)
asks (request.MigratePrepare xml running state) = (procedure.MigratePrepare, args.DefinitionIntegerState xml running state)
asks (request.OnDomain domain it) = asks_of_domain it
asks (request.OnNetwork network it) = asks_of_network it
asks (request.OnPool pool it) = asks_of_pool it

-- what the call is for
abbrev pub target_of : Request → Target
target_of (request.OnDomain domain it) = target.Domain domain
target_of (request.OnNetwork network it) = target.Network network
target_of (request.OnPool pool it) = target.Pool pool
target_of _ = target.Nothing

abbrev pub procedure_of : Request → Procedure
procedure_of it = (asks it).0

abbrev pub arguments_of : Request → Arguments
arguments_of it = (asks it).1
