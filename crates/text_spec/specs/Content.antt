-- What a value may be, and in what way one that may not be is at fault.
use Rattle.std.specs.Prelude.{ℕ, List, length, Bool, not, is_some, is_none, ◌==◌, nat_le, ◌&&◌, Option, Some, None, Result, Ok, Err, unwrap_or, if◌then◌else◌}
use Rattle.uuid.specs.Text.{parsed}
use Rattle.types_base.specs.Name.{bad_place}
use Rattle.text_spec.specs.declared.definition.DefKind.{DefKind}
use Rattle.text_spec.specs.declared.definition.DefKind.TheVariants as kind
use Rattle.text_spec.specs.declared.limits.TheConstants.{MOST_VCPUS}
use Rattle.text_spec.specs.declared.row.Content.{Content}
use Rattle.text_spec.specs.declared.row.Content.TheVariants as content
use Rattle.text_spec.specs.declared.size.SizeFault.{SizeFault}
use Rattle.text_spec.specs.declared.size.SizeFault.TheVariants as size
use Rattle.text_spec.specs.declared.vocabulary.AttributeName.TheVariants as attribute
use Rattle.text_spec.specs.GuestScript.{entries_of}
use Rattle.text_spec.specs.Look.{attribute_of, text_of}
use Rattle.text_spec.specs.MacText.{mac_of}
use Rattle.text_spec.specs.Tree.{Tree}
use Rattle.text_spec.specs.Units.{kibibytes_of, number_of}
use Rattle.text_spec.specs.Words.{domain_type_of, boot_device_of, lifecycle_action_of, crash_action_of, disk_type_of, disk_device_of, interface_type_of}

-- a value that is one where this is so
abbrev pub bad_unless : Bool → Option DefKind
bad_unless good = if good then None else Some kind.BadValue

-- a value that is one where it means something
abbrev pub known : {A : Type 0} → Option A → Option DefKind
known value = bad_unless (is_some value)

abbrev pub size_kind : SizeFault → DefKind
size_kind size.BadValue = kind.BadValue
size_kind size.Range = kind.Range

abbrev pub size_fault : Result ℕ SizeFault → Option DefKind
size_fault (Ok n) = None
size_fault (Err f) = Some (size_kind f)

-- a number that is to be from a least one to a greatest one
abbrev pub count_fault : ℕ → ℕ → Option ℕ → Option DefKind
count_fault least most None = Some kind.BadValue
count_fault least most (Some n) = if nat_le least n && nat_le n most then None else Some kind.Range

-- a domain has at most so many processors
abbrev pub most_vcpus : ℕ
most_vcpus = MOST_VCPUS

-- the number of processors that an element's text is
abbrev pub processors_of : Tree → ℕ
processors_of t = unwrap_or (number_of (text_of t)) 1

-- the fault of a value in an element
unfoldable pub content_fault : Content → Tree → List ℕ → Option DefKind
content_fault content.Text t v = None
content_fault content.Filled t v = bad_unless (not (length v == 0))
content_fault content.Name t v = bad_unless (is_none (bad_place v))
content_fault content.Uuid t v = known (parsed v)
content_fault content.Mac t v = known (mac_of v)
content_fault content.Script t v = known (entries_of v)
content_fault content.Memory t v = size_fault (kibibytes_of v (attribute_of attribute.Unit t))
content_fault content.Vcpus t v = count_fault 1 most_vcpus (number_of v)
content_fault content.CurrentVcpus t v = count_fault 1 (processors_of t) (number_of v)
content_fault content.DomainType t v = known (domain_type_of v)
content_fault content.BootDevice t v = known (boot_device_of v)
content_fault content.LifecycleAction t v = known (lifecycle_action_of v)
content_fault content.CrashAction t v = known (crash_action_of v)
content_fault content.DiskType t v = known (disk_type_of v)
content_fault content.DiskDevice t v = known (disk_device_of v)
content_fault content.InterfaceType t v = known (interface_type_of v)
