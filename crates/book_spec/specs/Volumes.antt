-- The volumes of a pool, and the bytes that they take together.
use Rattle.std.specs.Prelude.{ℕ, ◌+◌, Bool, List, [], ◌∷◌, ◌++◌, bytes_eq, find, Option, if◌then◌else◌}
use Rattle.std.specs.List.{sum_by}
use Rattle.virt_types.specs.Below.types_base.declared.storage_def.VolDef.{VolDef}
use Rattle.book_spec.specs.declared.pool_book.Pool.{Pool}

-- at most as many volumes are in a pool
abbrev pub most_volumes : ℕ
most_volumes = 256

abbrev pub is_named : List ℕ → VolDef → Bool
is_named name volume = bytes_eq volume.name name

-- the volume of this name
unfoldable pub volume_of : List ℕ → List VolDef → Option VolDef
volume_of name volumes = find (is_named name) volumes

-- the bytes that all volumes take together
unfoldable pub allocated : List VolDef → ℕ
allocated volumes = sum_by (λ volume. volume.allocation) volumes

-- those that they would take with a new one
abbrev pub allocated_with : VolDef → Pool → ℕ
allocated_with def pool = allocated pool.volumes + def.allocation

-- the others, without the volume of this name
unfoldable pub without_volume : List ℕ → List VolDef → List VolDef
without_volume name [] = []
without_volume name (volume ∷ others) = if is_named name volume then others else volume ∷ without_volume name others

-- the pool with a volume more, and with one fewer
abbrev pub with_volume : VolDef → Pool → Pool
with_volume def pool = record pool { volumes = pool.volumes ++ def ∷ [] }

abbrev pub with_dropped : List ℕ → Pool → Pool
with_dropped name pool = record pool { volumes = without_volume name pool.volumes }
