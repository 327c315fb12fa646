-- What is read, from its parts.
use Rattle.std.proofs.Common.{◌≡◌, ℕ, List, Option, Ok, refl, sym}
use Rattle.std.specs.Prelude.{codes, unwrap_or}
use Rattle.types_base.specs.declared.storage_def.PoolType.{PoolType}
use Rattle.text_spec.specs.Tree.{Tree}
use Rattle.xml_tables.specs.Called.{first_called, text_called, value_called}
use Rattle.xml_tables.specs.Rows.{needed, optional}
use Rattle.xml_tables.specs.Values.{name_value, size_value, uuid_value}
use Rattle.storage_xml.specs.PoolText.{capacity_or_most, path_in, pool_of, pool_type_value}
use Rattle.storage_xml.specs.VolumeText.{format_in, volume_of}

pub pool_reads : (t : Tree) (k : PoolType) (name path : List ℕ) (uuid : Option (List ℕ)) (capacity : Option ℕ) (bytes : ℕ) (names uuids paths : Option (List ℕ)) (sizes : Option Tree)
    → needed (codes "/pool") pool_type_value (value_called (codes "type") t) ≡ Ok k
    → names ≡ text_called (codes "name") t → needed (codes "/pool/name") name_value names ≡ Ok name
    → uuids ≡ text_called (codes "uuid") t → optional (codes "/pool/uuid") uuid_value uuids ≡ Ok uuid
    → sizes ≡ first_called (codes "capacity") t → optional (codes "/pool/capacity") size_value sizes ≡ Ok capacity
    → bytes ≡ capacity_or_most capacity
    → paths ≡ path_in t → needed (codes "/pool/target/path") Ok paths ≡ Ok path
    → pool_of t ≡ Ok (record { kind = k; name = name; uuid = uuid; capacity = bytes; path = path })
unfolding pool_of
pool_reads t k name path uuid capacity bytes names uuids paths sizes kind name_at named uuid_at identified size_at sized most path_at leads =
    rw (kind, sym name_at, named, sym uuid_at, identified, sym size_at, sized, sym path_at, leads, most) refl

pub volume_reads : (t : Tree) (name format : List ℕ) (capacity bytes : ℕ) (allocation : Option ℕ) (names : Option (List ℕ)) (sizes parts : Option Tree)
    → names ≡ text_called (codes "name") t → needed (codes "/volume/name") name_value names ≡ Ok name
    → sizes ≡ first_called (codes "capacity") t → needed (codes "/volume/capacity") size_value sizes ≡ Ok capacity
    → parts ≡ first_called (codes "allocation") t → optional (codes "/volume/allocation") size_value parts ≡ Ok allocation
    → bytes ≡ unwrap_or allocation capacity → format ≡ unwrap_or (format_in t) (codes "raw")
    → volume_of t ≡ Ok (record { name = name; capacity = capacity; allocation = bytes; format = format })
unfolding volume_of
volume_reads t name format capacity bytes allocation names sizes parts name_at named size_at sized part_at parted is format_is =
    rw (sym name_at, named, sym size_at, sized, sym part_at, parted, is, format_is) refl
