-- Which request a procedure with arguments asks, by the shape of these, where it takes such arguments.
use Rattle.std.specs.Prelude.{ℕ, ℤ, List, Option, None, Some, option_map}
use Rattle.virt_types.specs.declared.object_request.NetworkRequest.{NetworkRequest}
use Rattle.virt_types.specs.declared.object_request.NetworkRequest.TheVariants as on_network
use Rattle.virt_types.specs.declared.object_request.PoolRequest.{PoolRequest}
use Rattle.virt_types.specs.declared.object_request.PoolRequest.TheVariants as on_pool
use Rattle.virt_types.specs.declared.request.Request.{Request}
use Rattle.virt_types.specs.declared.request.Request.TheVariants as request
use Rattle.procedure_spec.specs.DomainRequests.{domain_request}
use Rattle.procedure_spec.specs.declared.arguments.Arguments.{Arguments}
use Rattle.procedure_spec.specs.declared.arguments.Arguments.TheVariants as args
use Rattle.procedure_spec.specs.declared.arguments.Target.{Target}
use Rattle.procedure_spec.specs.declared.arguments.Target.TheVariants as target
use Rattle.procedure_spec.specs.declared.procedure.Procedure.{Procedure}
use Rattle.procedure_spec.specs.declared.procedure.Procedure.TheVariants as procedure

-- ---- of a network
abbrev pub network_alone : Procedure → Option NetworkRequest
network_alone procedure.NetworkCreate = Some on_network.Create
network_alone procedure.NetworkDestroy = Some on_network.Destroy
network_alone procedure.NetworkUndefine = Some on_network.Undefine
network_alone procedure.Leases = Some on_network.Leases
network_alone _ = None

abbrev pub network_with_word : Procedure → ℕ → Option NetworkRequest
network_with_word procedure.NetworkGetXmlDesc number = Some (on_network.GetXmlDesc number)
network_with_word _ number = None

abbrev pub network_with_integer : Procedure → ℤ → Option NetworkRequest
network_with_integer procedure.NetworkSetAutostart number = Some (on_network.SetAutostart number)
network_with_integer _ number = None

abbrev pub network_request : Procedure → Arguments → Option NetworkRequest
network_request p args.Nothing = network_alone p
network_request p (args.Word number) = network_with_word p number
network_request p (args.Integer number) = network_with_integer p number
network_request p _ = None

-- ---- of a pool or one of its volumes
abbrev pub pool_alone : Procedure → Option PoolRequest
pool_alone procedure.PoolCreate = Some on_pool.Create
pool_alone procedure.PoolDestroy = Some on_pool.Destroy
pool_alone procedure.PoolUndefine = Some on_pool.Undefine
pool_alone procedure.PoolXml = Some on_pool.Xml
pool_alone procedure.VolList = Some on_pool.VolList
pool_alone _ = None

abbrev pub pool_with_integer : Procedure → ℤ → Option PoolRequest
pool_with_integer procedure.PoolAutostart number = Some (on_pool.SetAutostart number)
pool_with_integer _ number = None

abbrev pub pool_with_definition : Procedure → List ℕ → Option PoolRequest
pool_with_definition procedure.VolCreate xml = Some (on_pool.VolCreate xml)
pool_with_definition _ xml = None

abbrev pub pool_with_name : Procedure → List ℕ → Option PoolRequest
pool_with_name procedure.VolDelete name = Some (on_pool.VolDelete name)
pool_with_name procedure.VolXml name = Some (on_pool.VolXml name)
pool_with_name _ name = None

abbrev pub pool_request : Procedure → Arguments → Option PoolRequest
pool_request p args.Nothing = pool_alone p
pool_request p (args.Integer number) = pool_with_integer p number
pool_request p (args.Definition xml) = pool_with_definition p xml
pool_request p (args.Name name) = pool_with_name p name
pool_request p _ = None

-- ---- of nothing that the first argument names
abbrev pub plain_alone : Procedure → Option Request
plain_alone procedure.ConnectClose = Some request.ConnectClose
plain_alone procedure.ListAll = Some request.ListAll
plain_alone procedure.Titles = Some request.Titles
plain_alone procedure.PoolList = Some request.PoolList
plain_alone _ = None

abbrev pub plain_with_integer : Procedure → ℤ → Option Request
plain_with_integer procedure.ConnectListDefinedDomains number = Some (request.ListDefinedDomains number)
plain_with_integer procedure.ConnectListDefinedNetworks number = Some (request.ListDefinedNetworks number)
plain_with_integer procedure.ConnectListNetworks number = Some (request.ListNetworks number)
plain_with_integer _ number = None

abbrev pub plain_with_uuid : Procedure → List ℕ → Option Request
plain_with_uuid procedure.DomainLookupByUuid uuid = Some (request.DomainLookupByUuid uuid)
plain_with_uuid _ uuid = None

abbrev pub plain_with_definition : Procedure → List ℕ → Option Request
plain_with_definition procedure.DomainDefineXml xml = Some (request.DomainDefineXml xml)
plain_with_definition procedure.NetworkDefineXml xml = Some (request.NetworkDefineXml xml)
plain_with_definition procedure.PoolDefine xml = Some (request.PoolDefine xml)
plain_with_definition _ xml = None

abbrev pub plain_with_name : Procedure → List ℕ → Option Request
plain_with_name procedure.DomainLookupByName name = Some (request.DomainLookupByName name)
plain_with_name procedure.NetworkLookupByName name = Some (request.NetworkLookupByName name)
plain_with_name procedure.DomainRestore name = Some (request.DomainRestore name)
plain_with_name procedure.PoolLookup name = Some (request.PoolLookup name)
plain_with_name _ name = None

abbrev pub plain_with_optional_name_word : Procedure → Option (List ℕ) → ℕ → Option Request
plain_with_optional_name_word procedure.ConnectOpen name number = Some (request.ConnectOpen name number)
plain_with_optional_name_word _ name number = None

abbrev pub plain_with_definition_integer : Procedure → List ℕ → ℤ → Option Request
plain_with_definition_integer procedure.DomainCreateXml xml number = Some (request.DomainCreateXml xml number)
plain_with_definition_integer _ xml number = None

abbrev pub plain_with_state : Procedure → List ℕ → ℤ → List ℕ → Option Request
plain_with_state procedure.MigratePrepare xml number state = Some (request.MigratePrepare xml number state)
plain_with_state _ xml number state = None

abbrev pub plain_request : Procedure → Arguments → Option Request
plain_request p args.Nothing = plain_alone p
plain_request p (args.Integer number) = plain_with_integer p number
plain_request p (args.Uuid uuid) = plain_with_uuid p uuid
plain_request p (args.Definition xml) = plain_with_definition p xml
plain_request p (args.Name name) = plain_with_name p name
plain_request p (args.OptionalNameWord name number) = plain_with_optional_name_word p name number
plain_request p (args.DefinitionInteger xml number) = plain_with_definition_integer p xml number
plain_request p (args.DefinitionIntegerState xml number state) = plain_with_state p xml number state
plain_request p _ = None

-- ---- of any
abbrev pub request_of : Procedure → Target → Arguments → Option Request
request_of p target.Nothing a = plain_request p a
request_of p (target.Domain d) a = option_map (λ it. request.OnDomain d it) (domain_request p a)
request_of p (target.Network n) a = option_map (λ it. request.OnNetwork n it) (network_request p a)
request_of p (target.Pool l) a = option_map (λ it. request.OnPool l it) (pool_request p a)
