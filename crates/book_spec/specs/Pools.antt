-- The book of storage pools. (libvirt's virStoragePoolObjList is the like: it finds an object by its name or its UUID.)
use Rattle.std.specs.Prelude.{ℕ, Bool, false, List, [], ◌∷◌, bytes_eq, find, Option, if◌then◌else◌}
use Rattle.std.specs.Option.{unwrap_or}
use Rattle.uuid.specs.Parts.{zero_bytes}
use Rattle.virt_types.specs.Below.types_base.declared.storage_def.PoolDef.{PoolDef}
use Rattle.book_spec.specs.declared.pool_book.Pool.{Pool}

abbrev pub Pools : Type 0
Pools = List Pool

-- at most as many pools are in the book
abbrev pub most_pools : ℕ
most_pools = 64

-- the identifier of a definition; of one that has none yet, the nil UUID (RFC 9562, section 5.9)
abbrev pub identifier : PoolDef → List ℕ
identifier def = unwrap_or def.uuid zero_bytes

abbrev pub name_of : Pool → List ℕ
name_of pool = pool.def.name

abbrev pub uuid_of : Pool → List ℕ
uuid_of pool = identifier pool.def

-- the pool has this name, or this identifier
abbrev pub has : (Pool → List ℕ) → List ℕ → Pool → Bool
has key bytes pool = bytes_eq (key pool) bytes

-- the pool of this name, or of this identifier
unfoldable pub pool_of : (Pool → List ℕ) → List ℕ → Pools → Option Pool
pool_of key bytes pools = find (has key bytes) pools

-- a pool that was just defined: it is inactive and has no volumes
abbrev pub new_pool : PoolDef → Pool
new_pool def = record { def = def; autostart = false; active = false; volumes = [] }

-- the pool of this name, or of this identifier, changed so
unfoldable pub with_changed : (Pool → List ℕ) → List ℕ → (Pool → Pool) → Pools → Pools
with_changed key bytes change [] = []
with_changed key bytes change (pool ∷ others) = if has key bytes pool then change pool ∷ others else pool ∷ with_changed key bytes change others

-- the others, without the pool of this identifier
unfoldable pub without : List ℕ → Pools → Pools
without uuid [] = []
without uuid (pool ∷ others) = if has uuid_of uuid pool then others else pool ∷ without uuid others
