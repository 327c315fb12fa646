-- What the list of domains is opened with, and which domains are to be started.
use Rattle.std.specs.Prelude.{List, [], ◌∷◌, flat_map, map, negsuc, if◌then◌else◌}
use Rattle.virt_types.specs.declared.object_request.DomainRequest.TheVariants as on_domain
use Rattle.virt_types.specs.declared.request.Request.{Request}
use Rattle.virt_types.specs.declared.request.Request.TheVariants as request
use Rattle.found_domains.specs.declared.found.FoundDomain.{FoundDomain}
use Rattle.found_domains.specs.Found.{name_of}
use Rattle.object_list.specs.declared.slot_name.FoundDomain.{FoundDomain as ListedDomain}
use Rattle.object_list.specs.Opening.{opened}
use Rattle.book_spec.specs.ListHistory.{ListHistory}

-- what the list is told of a domain that was found
abbrev pub listed : FoundDomain → ListedDomain
listed d = record { name = name_of d; uuid = d.uuid }

-- the list of these domains, in slots 0, 1, .., of which nothing was asked yet
abbrev pub list_of : List FoundDomain → ListHistory
list_of ds = record { chapter = 0; base = opened (map listed ds); marks = [] }

-- the request that starts a domain
abbrev pub to_start : FoundDomain → Request
to_start d = request.OnDomain (record { name = name_of d; uuid = d.uuid; id = negsuc 0 }) on_domain.Create

-- what a daemon asks of the domains that it starts as it starts itself
abbrev pub start_of : FoundDomain → List Request
start_of d = if d.autostart then to_start d ∷ [] else []

-- the requests of all that are to be started
unfoldable pub starts_of : List FoundDomain → List Request
starts_of ds = flat_map start_of ds
