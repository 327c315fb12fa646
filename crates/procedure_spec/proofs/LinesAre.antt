-- The lines of the tables are those of their procedures, and say what the requests of these hold.
use Rattle.std.proofs.Common.{◌≡◌, ℕ, ◌==◌, ◌&&◌, Bool, true, false, cond, List, [], ◌∷◌, Option, Some, refl, sym, subst}
use Rattle.std.specs.List.{find}
use Rattle.virt_types.specs.declared.object_request.DomainRequest.{DomainRequest}
use Rattle.virt_types.specs.declared.object_request.DomainRequest.TheVariants as on_domain
use Rattle.virt_types.specs.declared.object_request.NetworkRequest.{NetworkRequest}
use Rattle.virt_types.specs.declared.object_request.NetworkRequest.TheVariants as on_network
use Rattle.virt_types.specs.declared.object_request.PoolRequest.{PoolRequest}
use Rattle.virt_types.specs.declared.object_request.PoolRequest.TheVariants as on_pool
use Rattle.virt_types.specs.declared.request.Request.{Request}
use Rattle.virt_types.specs.declared.request.Request.TheVariants as request
use Rattle.procedure_spec.specs.Arguments.{argument_shape, target_shape}
use Rattle.procedure_spec.specs.Calls.{IsFound}
use Rattle.procedure_spec.specs.Lines.{AreLines, line}
use Rattle.procedure_spec.specs.Procedures.{row_of}
use Rattle.procedure_spec.specs.Requests.{arguments_of, asks_of_domain, asks_of_network, asks_of_pool, procedure_of, target_of}
use Rattle.procedure_spec.specs.declared.procedure.Procedure.{Procedure}
use Rattle.procedure_spec.specs.declared.procedure.Procedure.TheVariants as procedure
use Rattle.procedure_spec.specs.declared.shape.TargetShape.TheVariants as on
use Rattle.procedure_spec.specs.declared.table.Row.{Row}
use Rattle.procedure_spec.specs.declared.table.TheConstants.{PROCEDURES}

pub all_lines : AreLines PROCEDURES
all_lines = (refl, (refl, (refl, (refl, (refl, (refl, (refl, (refl, (refl, (refl, (refl, (refl, (refl, (refl, (refl, (refl, (refl, (refl, (refl, (refl, (refl, (refl, (refl, (refl, (refl, (refl, (refl, (refl, (refl, (refl, (refl, (refl, (refl, (refl, (refl, (refl, (refl, (refl, (refl, (refl, (refl, (refl, (refl, (refl, (refl, (refl, (refl, (refl, (refl, (refl, (refl, (refl, (refl, (refl, (refl, (refl, (refl, (refl, (refl, (refl, (refl, (refl, (refl, (refl, (refl, (refl, tt))))))))))))))))))))))))))))))))))))))))))))))))))))))))))))))))))

pub each_found : (p : Procedure) → IsFound p
unfolding row_of
each_found procedure.ConnectOpen = refl
each_found procedure.ConnectClose = refl
each_found procedure.DomainAttachDevice = refl
each_found procedure.DomainCreate = refl
each_found procedure.DomainCreateXml = refl
each_found procedure.DomainDefineXml = refl
each_found procedure.DomainDestroy = refl
each_found procedure.DomainDetachDevice = refl
each_found procedure.DomainGetXmlDesc = refl
each_found procedure.DomainGetAutostart = refl
each_found procedure.DomainGetInfo = refl
each_found procedure.ConnectListDefinedDomains = refl
each_found procedure.DomainLookupByName = refl
each_found procedure.DomainLookupByUuid = refl
each_found procedure.DomainReboot = refl
each_found procedure.DomainResume = refl
each_found procedure.DomainSetAutostart = refl
each_found procedure.DomainSetMemory = refl
each_found procedure.DomainSetVcpus = refl
each_found procedure.DomainShutdown = refl
each_found procedure.DomainSuspend = refl
each_found procedure.DomainUndefine = refl
each_found procedure.ConnectListDefinedNetworks = refl
each_found procedure.ConnectListNetworks = refl
each_found procedure.NetworkCreate = refl
each_found procedure.NetworkDefineXml = refl
each_found procedure.NetworkDestroy = refl
each_found procedure.NetworkGetXmlDesc = refl
each_found procedure.NetworkLookupByName = refl
each_found procedure.NetworkSetAutostart = refl
each_found procedure.NetworkUndefine = refl
each_found procedure.DomainCoreDump = refl
each_found procedure.DomainRestore = refl
each_found procedure.DomainSave = refl
each_found procedure.ListAll = refl
each_found procedure.JobInfo = refl
each_found procedure.JobAbort = refl
each_found procedure.SnapCreate = refl
each_found procedure.SnapList = refl
each_found procedure.SnapParent = refl
each_found procedure.SnapDelete = refl
each_found procedure.SnapRevert = refl
each_found procedure.SnapXml = refl
each_found procedure.EventRegister = refl
each_found procedure.EventDeregister = refl
each_found procedure.MemoryStats = refl
each_found procedure.Kick = refl
each_found procedure.Titles = refl
each_found procedure.PoolDefine = refl
each_found procedure.PoolCreate = refl
each_found procedure.PoolDestroy = refl
each_found procedure.PoolUndefine = refl
each_found procedure.PoolXml = refl
each_found procedure.PoolLookup = refl
each_found procedure.PoolList = refl
each_found procedure.PoolAutostart = refl
each_found procedure.VolCreate = refl
each_found procedure.VolDelete = refl
each_found procedure.VolList = refl
each_found procedure.VolXml = refl
each_found procedure.Leases = refl
each_found procedure.MigratePerform = refl
each_found procedure.MigrateConfirm = refl
each_found procedure.MigratePrepare = refl
each_found procedure.MigrateFinish = refl
each_found procedure.MigrateLimit = refl

step : (r row : Row) (rows : List Row) (rest : Option Row) (here : Bool) → AreLines (r ∷ rows) → cond here (Some r) rest ≡ Some row → (AreLines rows → rest ≡ Some row → row ≡ line row.procedure) → row ≡ line row.procedure
step r row rows rest true all e so = let same : r ≡ row = cc in subst (λ (x : Row). x ≡ line x.procedure) same all.0
step r row rows rest false all e so = so all.1 e

found_line : (p : Row → Bool) (rows : List Row) (row : Row) → AreLines rows → find p rows ≡ Some row → row ≡ line row.procedure
found_line p [] row all e = absurd cc
found_line p (r ∷ rows) row all e = step r row rows (find p rows) (p r) all e (λ more there. found_line p rows row more there)

-- the line with these numbers is that of its procedure
pub line_is : (program number : ℕ) (row : Row) → row_of program number ≡ Some row → row ≡ line row.procedure
unfolding row_of
line_is program n row e = found_line (λ x. (x.program == program) && (x.number == n)) PROCEDURES row all_lines e

-- ---- what requests hold

domain_fits : (it : DomainRequest) → argument_shape (asks_of_domain it).1 ≡ (line (asks_of_domain it).0).arguments
domain_fits (on_domain.AttachDevice xml) = refl
domain_fits on_domain.Create = refl
domain_fits on_domain.Destroy = refl
domain_fits (on_domain.DetachDevice xml) = refl
domain_fits (on_domain.GetXmlDesc flags) = refl
domain_fits on_domain.GetAutostart = refl
domain_fits on_domain.GetInfo = refl
domain_fits (on_domain.Reboot flags) = refl
domain_fits on_domain.Resume = refl
domain_fits (on_domain.SetAutostart autostart) = refl
domain_fits (on_domain.SetMemory memory) = refl
domain_fits (on_domain.SetVcpus vcpus) = refl
domain_fits on_domain.Shutdown = refl
domain_fits on_domain.Suspend = refl
domain_fits on_domain.Undefine = refl
domain_fits (on_domain.CoreDump to flags) = refl
domain_fits (on_domain.Save to) = refl
domain_fits on_domain.JobInfo = refl
domain_fits on_domain.JobAbort = refl
domain_fits (on_domain.SnapCreate xml) = refl
domain_fits on_domain.SnapList = refl
domain_fits (on_domain.SnapParent snapshot) = refl
domain_fits (on_domain.SnapDelete snapshot children) = refl
domain_fits (on_domain.SnapRevert snapshot) = refl
domain_fits (on_domain.SnapXml snapshot) = refl
domain_fits on_domain.EventRegister = refl
domain_fits on_domain.EventDeregister = refl
domain_fits on_domain.MemoryStats = refl
domain_fits (on_domain.Kick action) = refl
domain_fits on_domain.MigratePerform = refl
domain_fits (on_domain.MigrateConfirm verdict) = refl
domain_fits (on_domain.MigrateFinish go) = refl
domain_fits (on_domain.MigrateLimit rest) = refl

domain_kind : (it : DomainRequest) → (line (asks_of_domain it).0).target ≡ on.Domain
domain_kind (on_domain.AttachDevice xml) = refl
domain_kind on_domain.Create = refl
domain_kind on_domain.Destroy = refl
domain_kind (on_domain.DetachDevice xml) = refl
domain_kind (on_domain.GetXmlDesc flags) = refl
domain_kind on_domain.GetAutostart = refl
domain_kind on_domain.GetInfo = refl
domain_kind (on_domain.Reboot flags) = refl
domain_kind on_domain.Resume = refl
domain_kind (on_domain.SetAutostart autostart) = refl
domain_kind (on_domain.SetMemory memory) = refl
domain_kind (on_domain.SetVcpus vcpus) = refl
domain_kind on_domain.Shutdown = refl
domain_kind on_domain.Suspend = refl
domain_kind on_domain.Undefine = refl
domain_kind (on_domain.CoreDump to flags) = refl
domain_kind (on_domain.Save to) = refl
domain_kind on_domain.JobInfo = refl
domain_kind on_domain.JobAbort = refl
domain_kind (on_domain.SnapCreate xml) = refl
domain_kind on_domain.SnapList = refl
domain_kind (on_domain.SnapParent snapshot) = refl
domain_kind (on_domain.SnapDelete snapshot children) = refl
domain_kind (on_domain.SnapRevert snapshot) = refl
domain_kind (on_domain.SnapXml snapshot) = refl
domain_kind on_domain.EventRegister = refl
domain_kind on_domain.EventDeregister = refl
domain_kind on_domain.MemoryStats = refl
domain_kind (on_domain.Kick action) = refl
domain_kind on_domain.MigratePerform = refl
domain_kind (on_domain.MigrateConfirm verdict) = refl
domain_kind (on_domain.MigrateFinish go) = refl
domain_kind (on_domain.MigrateLimit rest) = refl

network_fits : (it : NetworkRequest) → argument_shape (asks_of_network it).1 ≡ (line (asks_of_network it).0).arguments
network_fits on_network.Create = refl
network_fits on_network.Destroy = refl
network_fits (on_network.GetXmlDesc flags) = refl
network_fits (on_network.SetAutostart autostart) = refl
network_fits on_network.Undefine = refl
network_fits on_network.Leases = refl

network_kind : (it : NetworkRequest) → (line (asks_of_network it).0).target ≡ on.Network
network_kind on_network.Create = refl
network_kind on_network.Destroy = refl
network_kind (on_network.GetXmlDesc flags) = refl
network_kind (on_network.SetAutostart autostart) = refl
network_kind on_network.Undefine = refl
network_kind on_network.Leases = refl

pool_fits : (it : PoolRequest) → argument_shape (asks_of_pool it).1 ≡ (line (asks_of_pool it).0).arguments
pool_fits on_pool.Create = refl
pool_fits on_pool.Destroy = refl
pool_fits on_pool.Undefine = refl
pool_fits on_pool.Xml = refl
pool_fits (on_pool.SetAutostart autostart) = refl
pool_fits (on_pool.VolCreate xml) = refl
pool_fits (on_pool.VolDelete volume) = refl
pool_fits on_pool.VolList = refl
pool_fits (on_pool.VolXml volume) = refl

pool_kind : (it : PoolRequest) → (line (asks_of_pool it).0).target ≡ on.Pool
pool_kind on_pool.Create = refl
pool_kind on_pool.Destroy = refl
pool_kind on_pool.Undefine = refl
pool_kind on_pool.Xml = refl
pool_kind (on_pool.SetAutostart autostart) = refl
pool_kind (on_pool.VolCreate xml) = refl
pool_kind (on_pool.VolDelete volume) = refl
pool_kind on_pool.VolList = refl
pool_kind (on_pool.VolXml volume) = refl

pub arguments_fit : (it : Request) → argument_shape (arguments_of it) ≡ (line (procedure_of it)).arguments
arguments_fit (request.ConnectOpen name flags) = refl
arguments_fit request.ConnectClose = refl
arguments_fit (request.DomainCreateXml xml flags) = refl
arguments_fit (request.DomainDefineXml xml) = refl
arguments_fit (request.ListDefinedDomains most) = refl
arguments_fit (request.DomainLookupByName name) = refl
arguments_fit (request.DomainLookupByUuid uuid) = refl
arguments_fit (request.ListDefinedNetworks most) = refl
arguments_fit (request.ListNetworks most) = refl
arguments_fit (request.NetworkDefineXml xml) = refl
arguments_fit (request.NetworkLookupByName name) = refl
arguments_fit (request.DomainRestore from) = refl
arguments_fit request.ListAll = refl
arguments_fit request.Titles = refl
arguments_fit (request.PoolDefine xml) = refl
arguments_fit (request.PoolLookup name) = refl
arguments_fit request.PoolList = refl
arguments_fit (request.MigratePrepare xml running state) = refl
arguments_fit (request.OnDomain d it) = domain_fits it
arguments_fit (request.OnNetwork n it) = network_fits it
arguments_fit (request.OnPool l it) = pool_fits it

pub target_fits : (it : Request) → target_shape (target_of it) ≡ (line (procedure_of it)).target
target_fits (request.ConnectOpen name flags) = refl
target_fits request.ConnectClose = refl
target_fits (request.DomainCreateXml xml flags) = refl
target_fits (request.DomainDefineXml xml) = refl
target_fits (request.ListDefinedDomains most) = refl
target_fits (request.DomainLookupByName name) = refl
target_fits (request.DomainLookupByUuid uuid) = refl
target_fits (request.ListDefinedNetworks most) = refl
target_fits (request.ListNetworks most) = refl
target_fits (request.NetworkDefineXml xml) = refl
target_fits (request.NetworkLookupByName name) = refl
target_fits (request.DomainRestore from) = refl
target_fits request.ListAll = refl
target_fits request.Titles = refl
target_fits (request.PoolDefine xml) = refl
target_fits (request.PoolLookup name) = refl
target_fits request.PoolList = refl
target_fits (request.MigratePrepare xml running state) = refl
target_fits (request.OnDomain d it) = sym (domain_kind it)
target_fits (request.OnNetwork n it) = sym (network_kind it)
target_fits (request.OnPool l it) = sym (pool_kind it)
