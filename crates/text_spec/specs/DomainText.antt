-- The table of domains of libvirt's domain format, in this project's profile.
use Rattle.std.specs.Prelude.{ℕ, ◌+◌, List, [], ◌∷◌, length, nat_lt, Option, Some, None, Result, Err, if◌then◌else◌}
use Rattle.std.specs.Option.{option_or}
use Rattle.types_base.specs.declared.domain_def.DomainDef.{DomainDef}
use Rattle.text_spec.specs.declared.definition.DefFault.{DefFault}
use Rattle.text_spec.specs.declared.definition.DefKind.TheVariants as kind
use Rattle.text_spec.specs.declared.device_kind.DeviceKind.{DeviceKind}
use Rattle.text_spec.specs.declared.device_kind.DeviceKind.TheVariants as of
use Rattle.text_spec.specs.declared.limits.TheConstants.{MOST_DEVICES}
use Rattle.text_spec.specs.declared.row.Content.TheVariants as content
use Rattle.text_spec.specs.declared.row.Place.TheVariants as place
use Rattle.text_spec.specs.declared.row.Row.{Row}
use Rattle.text_spec.specs.declared.row.Source.TheVariants as source
use Rattle.text_spec.specs.declared.vocabulary.AttributeName.TheVariants as attribute
use Rattle.text_spec.specs.declared.vocabulary.ElementName.TheVariants as element
use Rattle.text_spec.specs.DeviceList.{devices_fault, element_for}
use Rattle.text_spec.specs.DomainValue.{domain_of}
use Rattle.text_spec.specs.Look.{elements_at, is_element}
use Rattle.text_spec.specs.Table.{needed, optional, each, fault_at, rows_fault, root_fault, told}
use Rattle.text_spec.specs.Tree.{Tree}

-- ---- the table
unfoldable pub domain_rows : List Row
domain_rows =
    needed place.Here (source.Attribute attribute.Type) content.DomainType
    ∷ needed (place.Child element.Name) source.Text content.Name
    ∷ optional (place.Child element.Uuid) source.Text content.Uuid
    ∷ optional (place.Child element.Title) source.Text content.Text
    ∷ optional (place.Child element.Description) source.Text content.Text
    ∷ optional (place.Inside element.Metadata element.Guest) source.Text content.Script
    ∷ needed (place.Child element.Memory) source.Text content.Memory
    ∷ optional (place.Child element.CurrentMemory) source.Text content.Memory
    ∷ optional (place.Child element.Vcpu) source.Text content.Vcpus
    ∷ optional (place.Child element.Vcpu) (source.Attribute attribute.Current) content.CurrentVcpus
    ∷ needed (place.Inside element.Os element.Type) source.Text content.Text
    ∷ optional (place.Inside element.Os element.Type) (source.Attribute attribute.Arch) content.Text
    ∷ optional (place.Inside element.Os element.Type) (source.Attribute attribute.Machine) content.Text
    ∷ each (place.Inside element.Os element.Boot) (source.Attribute attribute.Dev) content.BootDevice
    ∷ optional (place.Child element.OnPoweroff) source.Text content.LifecycleAction
    ∷ optional (place.Child element.OnReboot) source.Text content.LifecycleAction
    ∷ optional (place.Child element.OnCrash) source.Text content.CrashAction
    ∷ optional (place.Inside element.Devices element.Emulator) source.Text content.Text
    ∷ []

-- disks and interfaces are together at most so many
abbrev pub most_devices : ℕ
most_devices = MOST_DEVICES

-- the elements of a kind of device
abbrev pub devices_at : DeviceKind → Tree → List Tree
devices_at d t = elements_at (place.Inside element.Devices (element_for d)) t

abbrev pub all_devices_fault : DeviceKind → Tree → Option DefFault
all_devices_fault d t =
    devices_fault d (element.Domain ∷ element.Devices ∷ element_for d ∷ []) [] (devices_at d t)

abbrev pub many_fault : Tree → Option DefFault
many_fault t =
    if nat_lt most_devices (length (devices_at of.Disk t) + length (devices_at of.Interface t))
    then Some (fault_at (element.Domain ∷ element.Devices ∷ []) kind.Many) else None

-- the first fault of a domain's element: of its rows, its disks, its interfaces, their number
unfoldable pub domain_fault : Tree → Option DefFault
domain_fault t =
    option_or (rows_fault (element.Domain ∷ []) domain_rows t)
    (option_or (all_devices_fault of.Disk t) (option_or (all_devices_fault of.Interface t) (many_fault t)))

-- the definition that a tree is, by the tables
unfoldable pub domain_in : Tree → Result DomainDef DefFault
domain_in t = if is_element element.Domain t then told (domain_fault t) (domain_of t) else Err (root_fault t)
