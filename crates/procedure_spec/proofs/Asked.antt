-- A procedure with arguments asks a request exactly where the request calls that procedure with those arguments.
use Rattle.std.proofs.Common.{◌≡◌, Option, None, Some, refl, subst}
use Rattle.std.specs.Prelude.{option_map}
use Rattle.virt_types.specs.declared.object_request.DomainRequest.{DomainRequest}
use Rattle.virt_types.specs.declared.object_request.DomainRequest.TheVariants as on_domain
use Rattle.virt_types.specs.declared.object_request.NetworkRequest.{NetworkRequest}
use Rattle.virt_types.specs.declared.object_request.NetworkRequest.TheVariants as on_network
use Rattle.virt_types.specs.declared.object_request.PoolRequest.{PoolRequest}
use Rattle.virt_types.specs.declared.object_request.PoolRequest.TheVariants as on_pool
use Rattle.virt_types.specs.declared.request.Request.{Request}
use Rattle.virt_types.specs.declared.request.Request.TheVariants as request
use Rattle.procedure_spec.specs.Requests.{Asked, arguments_of, asks, asks_of_domain, asks_of_network, asks_of_pool, procedure_of, target_of}
use Rattle.procedure_spec.specs.DomainRequests.{domain_request}
use Rattle.procedure_spec.specs.RequestsReading.{network_request, plain_request, pool_request, request_of}
use Rattle.procedure_spec.specs.declared.arguments.Arguments.{Arguments}
use Rattle.procedure_spec.specs.declared.arguments.Arguments.TheVariants as args
use Rattle.procedure_spec.specs.declared.arguments.Target.{Target}
use Rattle.procedure_spec.specs.declared.arguments.Target.TheVariants as target
use Rattle.procedure_spec.specs.declared.procedure.Procedure.{Procedure}
use Rattle.procedure_spec.specs.declared.procedure.Procedure.TheVariants as procedure

abbrev some : {A : Type 0} → A → Option A
some x = Some x

some_is : {A : Type 0} (x y : A) → some x ≡ some y → x ≡ y
some_is x y e = cc

-- ---- what is asked calls the procedure with these arguments

domain_is : (q it : DomainRequest) → some q ≡ some it → asks_of_domain it ≡ asks_of_domain q
domain_is q it e = subst (λ (x : DomainRequest). asks_of_domain x ≡ asks_of_domain q) (some_is q it e) refl

domain_found : (a : Arguments) (p : Procedure) (it : DomainRequest) → domain_request p a ≡ Some it → asks_of_domain it ≡ (p, a)
domain_found (args.Definition xml) procedure.DomainAttachDevice it e = domain_is (on_domain.AttachDevice xml) it e
domain_found args.Nothing procedure.DomainCreate it e = domain_is on_domain.Create it e
domain_found args.Nothing procedure.DomainDestroy it e = domain_is on_domain.Destroy it e
domain_found (args.Definition xml) procedure.DomainDetachDevice it e = domain_is (on_domain.DetachDevice xml) it e
domain_found (args.Word flags) procedure.DomainGetXmlDesc it e = domain_is (on_domain.GetXmlDesc flags) it e
domain_found args.Nothing procedure.DomainGetAutostart it e = domain_is on_domain.GetAutostart it e
domain_found args.Nothing procedure.DomainGetInfo it e = domain_is on_domain.GetInfo it e
domain_found (args.Word flags) procedure.DomainReboot it e = domain_is (on_domain.Reboot flags) it e
domain_found args.Nothing procedure.DomainResume it e = domain_is on_domain.Resume it e
domain_found (args.Integer autostart) procedure.DomainSetAutostart it e = domain_is (on_domain.SetAutostart autostart) it e
domain_found (args.DoubleWord memory) procedure.DomainSetMemory it e = domain_is (on_domain.SetMemory memory) it e
domain_found (args.Word vcpus) procedure.DomainSetVcpus it e = domain_is (on_domain.SetVcpus vcpus) it e
domain_found args.Nothing procedure.DomainShutdown it e = domain_is on_domain.Shutdown it e
domain_found args.Nothing procedure.DomainSuspend it e = domain_is on_domain.Suspend it e
domain_found args.Nothing procedure.DomainUndefine it e = domain_is on_domain.Undefine it e
domain_found (args.NameWord to flags) procedure.DomainCoreDump it e = domain_is (on_domain.CoreDump to flags) it e
domain_found (args.Name to) procedure.DomainSave it e = domain_is (on_domain.Save to) it e
domain_found args.Nothing procedure.JobInfo it e = domain_is on_domain.JobInfo it e
domain_found args.Nothing procedure.JobAbort it e = domain_is on_domain.JobAbort it e
domain_found (args.Definition xml) procedure.SnapCreate it e = domain_is (on_domain.SnapCreate xml) it e
domain_found args.Nothing procedure.SnapList it e = domain_is on_domain.SnapList it e
domain_found (args.Name snapshot) procedure.SnapParent it e = domain_is (on_domain.SnapParent snapshot) it e
domain_found (args.NameInteger snapshot children) procedure.SnapDelete it e = domain_is (on_domain.SnapDelete snapshot children) it e
domain_found (args.Name snapshot) procedure.SnapRevert it e = domain_is (on_domain.SnapRevert snapshot) it e
domain_found (args.Name snapshot) procedure.SnapXml it e = domain_is (on_domain.SnapXml snapshot) it e
domain_found args.Nothing procedure.EventRegister it e = domain_is on_domain.EventRegister it e
domain_found args.Nothing procedure.EventDeregister it e = domain_is on_domain.EventDeregister it e
domain_found args.Nothing procedure.MemoryStats it e = domain_is on_domain.MemoryStats it e
domain_found (args.Integer action) procedure.Kick it e = domain_is (on_domain.Kick action) it e
domain_found args.Nothing procedure.MigratePerform it e = domain_is on_domain.MigratePerform it e
domain_found (args.Integer verdict) procedure.MigrateConfirm it e = domain_is (on_domain.MigrateConfirm verdict) it e
domain_found (args.Integer go) procedure.MigrateFinish it e = domain_is (on_domain.MigrateFinish go) it e
domain_found (args.DoubleWord rest) procedure.MigrateLimit it e = domain_is (on_domain.MigrateLimit rest) it e
domain_found _ _ it e = absurd cc

network_is : (q it : NetworkRequest) → some q ≡ some it → asks_of_network it ≡ asks_of_network q
network_is q it e = subst (λ (x : NetworkRequest). asks_of_network x ≡ asks_of_network q) (some_is q it e) refl

network_found : (a : Arguments) (p : Procedure) (it : NetworkRequest) → network_request p a ≡ Some it → asks_of_network it ≡ (p, a)
network_found args.Nothing procedure.NetworkCreate it e = network_is on_network.Create it e
network_found args.Nothing procedure.NetworkDestroy it e = network_is on_network.Destroy it e
network_found (args.Word flags) procedure.NetworkGetXmlDesc it e = network_is (on_network.GetXmlDesc flags) it e
network_found (args.Integer autostart) procedure.NetworkSetAutostart it e = network_is (on_network.SetAutostart autostart) it e
network_found args.Nothing procedure.NetworkUndefine it e = network_is on_network.Undefine it e
network_found args.Nothing procedure.Leases it e = network_is on_network.Leases it e
network_found _ _ it e = absurd cc

pool_is : (q it : PoolRequest) → some q ≡ some it → asks_of_pool it ≡ asks_of_pool q
pool_is q it e = subst (λ (x : PoolRequest). asks_of_pool x ≡ asks_of_pool q) (some_is q it e) refl

pool_found : (a : Arguments) (p : Procedure) (it : PoolRequest) → pool_request p a ≡ Some it → asks_of_pool it ≡ (p, a)
pool_found args.Nothing procedure.PoolCreate it e = pool_is on_pool.Create it e
pool_found args.Nothing procedure.PoolDestroy it e = pool_is on_pool.Destroy it e
pool_found args.Nothing procedure.PoolUndefine it e = pool_is on_pool.Undefine it e
pool_found args.Nothing procedure.PoolXml it e = pool_is on_pool.Xml it e
pool_found (args.Integer autostart) procedure.PoolAutostart it e = pool_is (on_pool.SetAutostart autostart) it e
pool_found (args.Definition xml) procedure.VolCreate it e = pool_is (on_pool.VolCreate xml) it e
pool_found (args.Name volume) procedure.VolDelete it e = pool_is (on_pool.VolDelete volume) it e
pool_found args.Nothing procedure.VolList it e = pool_is on_pool.VolList it e
pool_found (args.Name volume) procedure.VolXml it e = pool_is (on_pool.VolXml volume) it e
pool_found _ _ it e = absurd cc

-- a request for nothing that the first argument names calls the procedure with these arguments
record IsPlain (p : Procedure) (a : Arguments) (it : Request) : Type 0 where
  asked : asks it ≡ (p, a)
  target : target_of it ≡ target.Nothing

plain_is : (p : Procedure) (a : Arguments) (q it : Request) → some q ≡ some it → IsPlain p a q → IsPlain p a it
plain_is p a q it e is = subst (λ (x : Request). IsPlain p a x) (some_is q it e) is

plain_found : (a : Arguments) (p : Procedure) (it : Request) → plain_request p a ≡ Some it → IsPlain p a it
plain_found (args.OptionalNameWord name flags) procedure.ConnectOpen it e = plain_is _ _ (request.ConnectOpen name flags) it e (record { asked = refl; target = refl })
plain_found args.Nothing procedure.ConnectClose it e = plain_is _ _ request.ConnectClose it e (record { asked = refl; target = refl })
plain_found (args.DefinitionInteger xml flags) procedure.DomainCreateXml it e = plain_is _ _ (request.DomainCreateXml xml flags) it e (record { asked = refl; target = refl })
plain_found (args.Definition xml) procedure.DomainDefineXml it e = plain_is _ _ (request.DomainDefineXml xml) it e (record { asked = refl; target = refl })
plain_found (args.Integer most) procedure.ConnectListDefinedDomains it e = plain_is _ _ (request.ListDefinedDomains most) it e (record { asked = refl; target = refl })
plain_found (args.Name name) procedure.DomainLookupByName it e = plain_is _ _ (request.DomainLookupByName name) it e (record { asked = refl; target = refl })
plain_found (args.Uuid uuid) procedure.DomainLookupByUuid it e = plain_is _ _ (request.DomainLookupByUuid uuid) it e (record { asked = refl; target = refl })
plain_found (args.Integer most) procedure.ConnectListDefinedNetworks it e = plain_is _ _ (request.ListDefinedNetworks most) it e (record { asked = refl; target = refl })
plain_found (args.Integer most) procedure.ConnectListNetworks it e = plain_is _ _ (request.ListNetworks most) it e (record { asked = refl; target = refl })
plain_found (args.Definition xml) procedure.NetworkDefineXml it e = plain_is _ _ (request.NetworkDefineXml xml) it e (record { asked = refl; target = refl })
plain_found (args.Name name) procedure.NetworkLookupByName it e = plain_is _ _ (request.NetworkLookupByName name) it e (record { asked = refl; target = refl })
plain_found (args.Name from) procedure.DomainRestore it e = plain_is _ _ (request.DomainRestore from) it e (record { asked = refl; target = refl })
plain_found args.Nothing procedure.ListAll it e = plain_is _ _ request.ListAll it e (record { asked = refl; target = refl })
plain_found args.Nothing procedure.Titles it e = plain_is _ _ request.Titles it e (record { asked = refl; target = refl })
plain_found (args.Definition xml) procedure.PoolDefine it e = plain_is _ _ (request.PoolDefine xml) it e (record { asked = refl; target = refl })
plain_found (args.Name name) procedure.PoolLookup it e = plain_is _ _ (request.PoolLookup name) it e (record { asked = refl; target = refl })
plain_found args.Nothing procedure.PoolList it e = plain_is _ _ request.PoolList it e (record { asked = refl; target = refl })
plain_found (args.DefinitionIntegerState xml running state) procedure.MigratePrepare it e = plain_is _ _ (request.MigratePrepare xml running state) it e (record { asked = refl; target = refl })
plain_found _ _ it e = absurd cc

-- the request calls the procedure, for this target, with these arguments
pub record IsAskedOf (p : Procedure) (t : Target) (a : Arguments) (it : Request) : Type 0 where
  pub procedure : procedure_of it ≡ p
  pub target : target_of it ≡ t
  pub arguments : arguments_of it ≡ a

mapped : {A : Type 0} (f : A → Request) (o : Option A) (it : Request) → option_map f o ≡ Some it → (x : A) × (o ≡ Some x) × (f x ≡ it)
mapped f None it e = absurd cc
mapped f (Some x) it e = (x, refl, some_is (f x) it e)

both : (p : Procedure) (a : Arguments) (x : Asked) → x ≡ (p, a) → (x.0 ≡ p) × (x.1 ≡ a)
both p a x e = ((λ i. (e i).0), (λ i. (e i).1))

pub request_found : (p : Procedure) (t : Target) (a : Arguments) (it : Request) → request_of p t a ≡ Some it → IsAskedOf p t a it
request_found p target.Nothing a it e =
    let is = plain_found a p it e in
    let asked = both p a (asks it) is.asked in
    record { procedure = asked.0; target = is.target; arguments = asked.1 }
request_found p (target.Domain o) a it e =
    let m = mapped (λ (q : DomainRequest). request.OnDomain o q) (domain_request p a) it e in
    let asked = both p a (asks_of_domain m.0) (domain_found a p m.0 m.1) in
    subst (λ (x : Request). IsAskedOf p (target.Domain o) a x) m.2 (record { procedure = asked.0; target = refl; arguments = asked.1 })
request_found p (target.Network o) a it e =
    let m = mapped (λ (q : NetworkRequest). request.OnNetwork o q) (network_request p a) it e in
    let asked = both p a (asks_of_network m.0) (network_found a p m.0 m.1) in
    subst (λ (x : Request). IsAskedOf p (target.Network o) a x) m.2 (record { procedure = asked.0; target = refl; arguments = asked.1 })
request_found p (target.Pool o) a it e =
    let m = mapped (λ (q : PoolRequest). request.OnPool o q) (pool_request p a) it e in
    let asked = both p a (asks_of_pool m.0) (pool_found a p m.0 m.1) in
    subst (λ (x : Request). IsAskedOf p (target.Pool o) a x) m.2 (record { procedure = asked.0; target = refl; arguments = asked.1 })

-- ---- and what calls the procedure with these arguments is what is asked

domain_again : (it : DomainRequest) → domain_request (asks_of_domain it).0 (asks_of_domain it).1 ≡ Some it
domain_again (on_domain.AttachDevice xml) = refl
domain_again on_domain.Create = refl
domain_again on_domain.Destroy = refl
domain_again (on_domain.DetachDevice xml) = refl
domain_again (on_domain.GetXmlDesc flags) = refl
domain_again on_domain.GetAutostart = refl
domain_again on_domain.GetInfo = refl
domain_again (on_domain.Reboot flags) = refl
domain_again on_domain.Resume = refl
domain_again (on_domain.SetAutostart autostart) = refl
domain_again (on_domain.SetMemory memory) = refl
domain_again (on_domain.SetVcpus vcpus) = refl
domain_again on_domain.Shutdown = refl
domain_again on_domain.Suspend = refl
domain_again on_domain.Undefine = refl
domain_again (on_domain.CoreDump to flags) = refl
domain_again (on_domain.Save to) = refl
domain_again on_domain.JobInfo = refl
domain_again on_domain.JobAbort = refl
domain_again (on_domain.SnapCreate xml) = refl
domain_again on_domain.SnapList = refl
domain_again (on_domain.SnapParent snapshot) = refl
domain_again (on_domain.SnapDelete snapshot children) = refl
domain_again (on_domain.SnapRevert snapshot) = refl
domain_again (on_domain.SnapXml snapshot) = refl
domain_again on_domain.EventRegister = refl
domain_again on_domain.EventDeregister = refl
domain_again on_domain.MemoryStats = refl
domain_again (on_domain.Kick action) = refl
domain_again on_domain.MigratePerform = refl
domain_again (on_domain.MigrateConfirm verdict) = refl
domain_again (on_domain.MigrateFinish go) = refl
domain_again (on_domain.MigrateLimit rest) = refl

network_again : (it : NetworkRequest) → network_request (asks_of_network it).0 (asks_of_network it).1 ≡ Some it
network_again on_network.Create = refl
network_again on_network.Destroy = refl
network_again (on_network.GetXmlDesc flags) = refl
network_again (on_network.SetAutostart autostart) = refl
network_again on_network.Undefine = refl
network_again on_network.Leases = refl

pool_again : (it : PoolRequest) → pool_request (asks_of_pool it).0 (asks_of_pool it).1 ≡ Some it
pool_again on_pool.Create = refl
pool_again on_pool.Destroy = refl
pool_again on_pool.Undefine = refl
pool_again on_pool.Xml = refl
pool_again (on_pool.SetAutostart autostart) = refl
pool_again (on_pool.VolCreate xml) = refl
pool_again (on_pool.VolDelete volume) = refl
pool_again on_pool.VolList = refl
pool_again (on_pool.VolXml volume) = refl

pub request_again : (it : Request) → request_of (procedure_of it) (target_of it) (arguments_of it) ≡ Some it
request_again (request.ConnectOpen name flags) = refl
request_again request.ConnectClose = refl
request_again (request.DomainCreateXml xml flags) = refl
request_again (request.DomainDefineXml xml) = refl
request_again (request.ListDefinedDomains most) = refl
request_again (request.DomainLookupByName name) = refl
request_again (request.DomainLookupByUuid uuid) = refl
request_again (request.ListDefinedNetworks most) = refl
request_again (request.ListNetworks most) = refl
request_again (request.NetworkDefineXml xml) = refl
request_again (request.NetworkLookupByName name) = refl
request_again (request.DomainRestore from) = refl
request_again request.ListAll = refl
request_again request.Titles = refl
request_again (request.PoolDefine xml) = refl
request_again (request.PoolLookup name) = refl
request_again request.PoolList = refl
request_again (request.MigratePrepare xml running state) = refl
request_again (request.OnDomain d it) = rw (domain_again it) refl
request_again (request.OnNetwork n it) = rw (network_again it) refl
request_again (request.OnPool l it) = rw (pool_again it) refl
