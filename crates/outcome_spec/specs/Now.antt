-- Said of the call itself, beside its outcome: what it read is the history that the row has seen when it comes back.
use Rattle.std.specs.Prelude.{◌≡◌, Bool, true, false, Some}
use Rattle.virt_types.specs.Below.types_base.declared.caller.CellName.{CellName}
use Rattle.virt_types.specs.Below.types_base.declared.caller.CellName.TheVariants as cell
use Rattle.virt_types.specs.Below.types_base.declared.caller.Front.{Front}
use Rattle.virt_types.specs.declared.object_request.DomainRequest.{DomainRequest}
use Rattle.virt_types.specs.declared.object_request.DomainRequest.TheVariants as on_domain
use Rattle.virt_types.specs.declared.request.Request.{Request}
use Rattle.virt_types.specs.declared.request.Request.TheVariants as request
use Rattle.outcome_spec.specs.declared.outcome.Outcome.{Outcome}
use Rattle.outcome_spec.specs.Histories.{front_of}
use Rattle.outcome_spec.specs.Rows.{DomainPass, KnownRow, pass_of}

-- a request that only reads a domain
abbrev pub is_read_of_domain : DomainRequest → Bool
is_read_of_domain (on_domain.GetXmlDesc flags) = true
is_read_of_domain on_domain.GetAutostart = true
is_read_of_domain on_domain.GetInfo = true
is_read_of_domain on_domain.JobInfo = true
is_read_of_domain on_domain.SnapList = true
is_read_of_domain (on_domain.SnapParent name) = true
is_read_of_domain (on_domain.SnapXml name) = true
is_read_of_domain other = false

-- a request that only reads
abbrev pub is_read : Request → Bool
is_read (request.OnDomain target asked) = is_read_of_domain asked
is_read (request.DomainLookupByName name) = true
is_read (request.DomainLookupByUuid uuid) = true
is_read request.ListAll = true
is_read (request.ListDefinedDomains most) = true
is_read request.Titles = true
is_read other = false

-- a read of this cell came as far as the row has seen it
abbrev pub IsNow : KnownRow → Bool → CellName → Front → Type 0
IsNow after true (cell.Domain slot) front = (pass : DomainPass) → pass_of after slot ≡ Some pass → front ≡ front_of pass.seen
IsNow after true cell.Store front = front ≡ front_of after.store.seen
IsNow after read name front = Unit {0}

-- a read is answered at a place that the returned row has seen
abbrev pub ReadsNow : KnownRow → Request → Outcome → Type 0
ReadsNow after asked o = IsNow after (is_read asked) o.cell o.front
