-- What replies carry, as their payloads spell it.
use Rattle.std.specs.Prelude.{◌≡◌, ◌≤◌, ◌^◌, ◌<◌, ℕ, List, [], length, Option, IfSome, Some}
use Rattle.std.specs.List.{AllByRecursion}
use Rattle.virt_types.specs.Limits.{most_state_bytes}
use Rattle.virt_types.specs.Name.{IsName}
use Rattle.virt_types.specs.declared.request.Request.{Request}
use Rattle.virt_types.specs.declared.value.Value.{Value}
use Rattle.virt_types.specs.declared.value.Value.TheVariants as value
use Rattle.wire_spec.specs.Xdr.{IsDoubleWord, IsString, double_word, opaque, optional, truth}
use Rattle.wire_spec.specs.declared.message.Header.{Header}
use Rattle.wire_spec.specs.declared.message.TheConstants.{REPLY}
use Rattle.procedure_spec.specs.Lines.{line}
use Rattle.procedure_spec.specs.Procedures.{row_of}
use Rattle.procedure_spec.specs.Requests.{procedure_of}
use Rattle.procedure_spec.specs.ResultItems.{IsDomainRow, IsInfo, IsJob, IsLeaseRow, IsMigrated, IsObjectReference, IsPoolRow, IsReference, IsTitleRow, domain_reference, domain_row, info, job, lease_row, listed, migrated, object_reference, pool_row, title_row}
use Rattle.procedure_spec.specs.declared.shape.ResultShape.{ResultShape}
use Rattle.procedure_spec.specs.declared.shape.ResultShape.TheVariants as shape
use Rattle.procedure_spec.specs.declared.table.Row.{Row}
use Rattle.procedure_spec.specs.declared.words.TheConstants.{NAMES_BOUND, PACKET_BOUND, TITLE_BOUND}

-- names, as a list
abbrev pub names : List (List ℕ) → List ℕ
names ns = listed opaque ns

-- the payload of a reply with this value
abbrev pub result : Value → List ℕ
result (value.Domain d) = domain_reference d
result (value.Network n) = object_reference n.name n.uuid
result (value.Pool p) = object_reference p.name p.uuid
result (value.Text t) = opaque t
result (value.Autostart b) = truth b
result (value.Info i) = info i
result (value.Names ns) = names ns
result (value.Domains rows) = listed domain_row rows
result (value.Pools rows) = listed pool_row rows
result (value.Job j) = job j
result (value.Name n) = opaque n
result (value.Parent p) = optional opaque p
result (value.Memory n) = double_word n
result (value.Leases rows) = listed lease_row rows
result (value.Titles rows) = listed title_row rows
result (value.MigratedText m) = migrated m
result _ = []

-- the value has a spelling in this shape: no list of it is longer than 1,024, and its texts and bytes are within their bounds
abbrev pub HasShape : Value → ResultShape → Type 0
HasShape value.Nothing s = s ≡ shape.Nothing
HasShape (value.Domain d) s = s ≡ shape.Domain
HasShape (value.Network n) s = s ≡ shape.Network
HasShape (value.Pool p) s = s ≡ shape.Pool
HasShape (value.Text t) s = (s ≡ shape.Text) × (length t < 2 ^ 32)
HasShape (value.Autostart b) s = s ≡ shape.Autostart
HasShape (value.Info i) s = s ≡ shape.Info
HasShape (value.Names ns) s = (s ≡ shape.Names) × (length ns ≤ NAMES_BOUND)
HasShape (value.Domains rows) s = (s ≡ shape.Domains) × (length rows ≤ NAMES_BOUND)
HasShape (value.Pools rows) s = (s ≡ shape.Pools) × (length rows ≤ NAMES_BOUND)
HasShape (value.Job j) s = s ≡ shape.Job
HasShape (value.Name n) s = s ≡ shape.Name
HasShape (value.Parent p) s = s ≡ shape.OptionalName
HasShape (value.Memory n) s = s ≡ shape.DoubleWord
HasShape (value.Leases rows) s = (s ≡ shape.Leases) × (length rows ≤ NAMES_BOUND)
HasShape (value.Titles rows) s = (s ≡ shape.Titles) × ((length rows ≤ NAMES_BOUND) × AllByRecursion (λ t. length t.title ≤ TITLE_BOUND) rows)
HasShape (value.MigratedText m) s = (s ≡ shape.Migrated) × ((length m.definition < 2 ^ 32) × (length m.state ≤ most_state_bytes))
HasShape _ s = ⊥

-- the parts of the value have a spelling
abbrev pub HasParts : Value → Type 0
HasParts (value.Domain d) = IsReference d
HasParts (value.Network n) = IsObjectReference n.name n.uuid
HasParts (value.Pool p) = IsObjectReference p.name p.uuid
HasParts (value.Text t) = IsString PACKET_BOUND t
HasParts (value.Info i) = IsInfo i
HasParts (value.Names ns) = AllByRecursion IsName ns
HasParts (value.Domains rows) = AllByRecursion IsDomainRow rows
HasParts (value.Pools rows) = AllByRecursion IsPoolRow rows
HasParts (value.Job j) = IsJob j
HasParts (value.Name n) = IsName n
HasParts (value.Parent p) = IfSome p IsName
HasParts (value.Memory n) = IsDoubleWord n
HasParts (value.Leases rows) = AllByRecursion IsLeaseRow rows
HasParts (value.Titles rows) = AllByRecursion IsTitleRow rows
HasParts (value.MigratedText m) = IsMigrated m
HasParts _ = Unit {0}

-- what the reply to a request carries
abbrev pub result_shape : Request → ResultShape
result_shape asked = (line (procedure_of asked)).result

-- the value answers a call of this header's procedure
pub record HasResult (h : Header) (v : Value) : Type 0 where
  pub row : Row
  pub is_line : row_of h.prog h.procedure ≡ Some row
  pub shaped : HasShape v row.result

-- the payload is that of the reply to the request with this value
pub record IsAnswer (asked : Request) (payload : List ℕ) (v : Value) : Type 0 where
  pub shaped : HasShape v (result_shape asked)
  pub parts : HasParts v
  pub spelled : payload ≡ result v

-- the header of a reply to a call: its own words, but for kind and status
abbrev pub reply_header : Header → ℕ → Header
reply_header h status = record h { kind = REPLY; status = status }
