-- What whole texts say of pools and volumes, and what reading can give.
use Rattle.std.specs.Prelude.{◌≡◌, ◌^◌, ◌≤◌, ℕ, List, true, Ok, None}
use Rattle.types_base.specs.Name.{bad_place}
use Rattle.types_base.specs.declared.storage_def.PoolDef.{PoolDef}
use Rattle.types_base.specs.declared.storage_def.VolDef.{VolDef}
use Rattle.text_spec.specs.Text.{read_of}
use Rattle.text_spec.specs.Tree.{Tree}
use Rattle.text_spec.specs.Writable.{IsText}
use Rattle.text_laws.specs.Given.{IsUuidOf, IsValue, IsWithin}
use Rattle.storage_xml.specs.PoolText.{most_capacity, pool_fits, pool_read}
use Rattle.storage_xml.specs.VolumeText.{volume_fits, volume_read}

-- a text says this of a pool
pub record ReadsAsPool (text : List ℕ) (d : PoolDef) : Type 0 where
  pub tree : Tree
  pub is_tree : read_of text ≡ Ok tree
  pub is_pool : pool_read tree ≡ Ok d

-- a text says this of a volume
pub record ReadsAsVolume (text : List ℕ) (d : VolDef) : Type 0 where
  pub tree : Tree
  pub is_tree : read_of text ≡ Ok tree
  pub is_volume : volume_read tree ≡ Ok d

-- what reading can give of a pool
pub record IsSoundPool (d : PoolDef) : Type 0 where
  pub name : bad_place d.name ≡ None
  pub name_text : IsText d.name
  pub uuid : IsUuidOf d.uuid
  pub capacity : IsWithin 1 most_capacity d.capacity
  pub path : IsText d.path
  pub fitting : pool_fits d ≡ true

-- what reading can give of a volume
pub record IsSoundVolume (d : VolDef) : Type 0 where
  pub name : bad_place d.name ≡ None
  pub name_text : IsText d.name
  pub capacity : d.capacity ≤ 2 ^ 60
  pub allocation : d.allocation ≤ 2 ^ 60
  pub format : IsValue d.format
  pub fitting : volume_fits d ≡ true
