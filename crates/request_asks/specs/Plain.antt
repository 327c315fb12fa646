-- Requests of which no word has to be read: what they ask takes no memory to find out.
use Rattle.std.specs.Prelude.{ℕ, ℤ, Option, None, Some}
use Rattle.outcome_spec.specs.Below.domain_requests.declared.task.Task.TheVariants as task
use Rattle.session_spec.specs.Bounds.{passed}
use Rattle.slot_holds.specs.declared.Hold.TheVariants as hold
use Rattle.virt_types.specs.declared.call.Query.TheVariants as query
use Rattle.virt_types.specs.declared.request.Request.{Request}
use Rattle.virt_types.specs.declared.request.Request.TheVariants as request
use Rattle.request_asks.specs.declared.asked.Asked.{Asked}
use Rattle.request_asks.specs.declared.asked.Asked.TheVariants as asked
use Rattle.request_asks.specs.declared.asked.Listing.TheVariants as listing

-- at most so many names, where the number passes no bound
abbrev pub names_asked : ℤ → Option ℕ → Option Asked
names_asked most None = Some (asked.List (listing.Idle most))
names_asked most (Some bound) = None

-- what they ask
abbrev pub plainly_asked : Request → Option Asked
plainly_asked (request.ConnectOpen name flags) = Some asked.Connection
plainly_asked request.ConnectClose = Some asked.Connection
plainly_asked (request.DomainLookupByUuid uuid) = Some (asked.Task (hold.Uuid uuid) (task.Read query.Reference))
plainly_asked (request.ListDefinedDomains most) = names_asked most (passed most)
plainly_asked request.ListAll = Some (asked.List listing.All)
plainly_asked request.Titles = Some (asked.List listing.Titles)
plainly_asked other = None
