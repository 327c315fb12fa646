-- A walk over the rows. No public clause cites this.
use Rattle.std.specs.Prelude.{ℕ, Bool, false, ◌==◌, List, [], ◌∷◌, Option, None, if◌then◌else◌}
use Rattle.std.specs.List.{filter_map}
use Rattle.store_spec.specs.declared.entry.Entry.{Entry}
use Rattle.store_spec.specs.declared.kind.BookKind.{BookKind}
use Rattle.def_map.specs.Map.{kind_byte}

-- whether a row is of this kind
abbrev pub is_of : BookKind → List ℕ → Bool
is_of k [] = false
is_of k (byte ∷ bytes) = byte == kind_byte k

-- the entry in a row, if the row is of this kind
abbrev pub entry_at : BookKind → List ℕ × Option Entry → Option Entry
entry_at k row = if is_of k row.0 then row.1 else None

-- the entries in the rows of this kind
abbrev pub picked : BookKind → List (List ℕ × Option Entry) → List Entry
picked k rows = filter_map (entry_at k) rows
