-- The plan of a command: which request follows the answers that came so far.
use Rattle.std.specs.Prelude.{ℕ, pos, List, [], ◌∷◌, length, slice_get, Option, None, Some, option_map}
use Rattle.virt_types.specs.declared.object_request.DomainRequest.{DomainRequest}
use Rattle.virt_types.specs.declared.object_request.DomainRequest.TheVariants as ask
use Rattle.virt_types.specs.declared.object_request.NetworkRequest.{NetworkRequest}
use Rattle.virt_types.specs.declared.object_request.PoolRequest.{PoolRequest}
use Rattle.virt_types.specs.declared.object_request.PoolRequest.TheVariants as ask_pool
use Rattle.virt_types.specs.declared.request.Request.{Request}
use Rattle.virt_types.specs.declared.request.Request.TheVariants as request
use Rattle.virt_types.specs.declared.value.Value.{Value}
use Rattle.virt_types.specs.declared.value.Value.TheVariants as value
use Rattle.command_spec.specs.declared.command.Command.{Command}
use Rattle.command_spec.specs.declared.command.Command.TheVariants as command
use Rattle.command_spec.specs.declared.form.FileVerb.{FileVerb}
use Rattle.command_spec.specs.declared.form.FileVerb.TheVariants as file
use Rattle.command_spec.specs.declared.form.Flag.{Flag}
use Rattle.command_spec.specs.declared.form.PlainVerb.{PlainVerb}
use Rattle.command_spec.specs.declared.form.PlainVerb.TheVariants as plain
use Rattle.virsh_plan.specs.Asks.{domain_asks, image_ask, network_ask, number_ask, pool_ask, snapshot_ask, text_ask, volume_ask}
use Rattle.virsh_plan.specs.Targets.{domain_target, network_target, pool_target}

-- ---- what needs no lookup

-- the active networks, and then the others
abbrev pub plain_requests : PlainVerb → List Request
plain_requests plain.List = request.ListAll ∷ []
plain_requests plain.NetList = request.ListNetworks (pos 1024) ∷ request.ListDefinedNetworks (pos 1024) ∷ []
plain_requests plain.PoolList = request.PoolList ∷ []

abbrev pub file_request : FileVerb → List ℕ → Request
file_request file.Define xml = request.DomainDefineXml xml
file_request file.Create xml = request.DomainCreateXml xml (pos 0)
file_request file.NetDefine xml = request.NetworkDefineXml xml
file_request file.PoolDefine xml = request.PoolDefine xml

-- ---- what is looked up by its name first

-- the daemon's answer to the lookup is what all else is asked of
abbrev pub on_domain : Value → Option DomainRequest → Option Request
on_domain found None = None
on_domain (value.Domain d) (Some it) = Some (request.OnDomain (domain_target d) it)
on_domain _ (Some it) = None

abbrev pub on_network : Value → Option NetworkRequest → Option Request
on_network found None = None
on_network (value.Network n) (Some it) = Some (request.OnNetwork (network_target n) it)
on_network _ (Some it) = None

abbrev pub on_pool : Value → Option PoolRequest → Option Request
on_pool found None = None
on_pool (value.Pool p) (Some it) = Some (request.OnPool (pool_target p) it)
on_pool _ (Some it) = None

-- these are asked in order, one for each answer after the first
abbrev pub of_domain : List ℕ → List DomainRequest → List Value → Option Request
of_domain name asks [] = Some (request.DomainLookupByName name)
of_domain name asks (found ∷ values) = on_domain found (slice_get asks (length values))

abbrev pub of_network : List ℕ → List NetworkRequest → List Value → Option Request
of_network name asks [] = Some (request.NetworkLookupByName name)
of_network name asks (found ∷ values) = on_network found (slice_get asks (length values))

abbrev pub of_pool : List ℕ → List PoolRequest → List Value → Option Request
of_pool name asks [] = Some (request.PoolLookup name)
of_pool name asks (found ∷ values) = on_pool found (slice_get asks (length values))

-- ---- a command

-- the request that follows these answers; none where the command has all of its own. The text is that of the command's
-- file. Events of several daemons are asked for otherwise
abbrev pub next_request : Command → Option Flag → List ℕ → List Value → Option Request
next_request (command.Plain verb) option xml values = slice_get (plain_requests verb) (length values)
next_request (command.File verb path) option xml values = slice_get (file_request verb xml ∷ []) (length values)
next_request (command.Restore image) option xml values = slice_get (request.DomainRestore image ∷ []) (length values)
next_request (command.Domain verb name) option xml values = of_domain name (domain_asks verb option) values
next_request (command.Number verb name n) option xml values = of_domain name (number_ask verb n ∷ []) values
next_request (command.SetMem name memory) option xml values = of_domain name (ask.SetMemory memory ∷ []) values
next_request (command.DomainFile verb name path) option xml values = of_domain name (text_ask verb xml ∷ []) values
next_request (command.Image verb name image) option xml values = of_domain name (image_ask verb image ∷ []) values
next_request (command.Snapshot verb name s) option xml values = of_domain name (snapshot_ask verb option s ∷ []) values
next_request (command.Network verb name) option xml values = of_network name (network_ask verb ∷ []) values
next_request (command.Pool verb name) option xml values = of_pool name (pool_ask verb ∷ []) values
next_request (command.VolCreate pool path) option xml values = of_pool pool (ask_pool.VolCreate xml ∷ []) values
next_request (command.Volume verb pool v) option xml values = of_pool pool (volume_ask verb v ∷ []) values
next_request (command.Events count listens) option xml values = None
