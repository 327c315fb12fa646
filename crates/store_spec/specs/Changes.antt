-- Definitions as a finite map from kind and identifier to entry, and the changes that are made to it.
use Rattle.std.specs.Prelude.{◌≡◌, ◌&&◌, Bool, true, false, List, [], ◌∷◌, ℕ, Option, None, Some, bytes_eq, if◌then◌else◌}
use Rattle.store_spec.specs.declared.change.Change.{Change}
use Rattle.store_spec.specs.declared.change.Change.TheVariants as change
use Rattle.store_spec.specs.declared.entry.Entry.{Entry}
use Rattle.store_spec.specs.declared.kind.BookKind.{BookKind}
use Rattle.store_spec.specs.declared.kind.BookKind.TheVariants as kind

-- the entry of each kind and identifier
abbrev pub Definitions : Type 0
Definitions = BookKind → List ℕ → Option Entry

-- whether two kinds are one
abbrev pub same_kind : BookKind → BookKind → Bool
same_kind kind.Domain kind.Domain = true
same_kind kind.Network kind.Network = true
same_kind kind.Pool kind.Pool = true
same_kind one other = false

-- the kind of object that a change is of
abbrev pub kind_of : Change → BookKind
kind_of (change.Put k uuid entry) = k
kind_of (change.Drop k uuid) = k

-- the identifier of the object
abbrev pub uuid_of : Change → List ℕ
uuid_of (change.Put k uuid entry) = uuid
uuid_of (change.Drop k uuid) = uuid

-- the entry that a change leaves
abbrev pub entry_of : Change → Option Entry
entry_of (change.Put k uuid entry) = Some entry
entry_of (change.Drop k uuid) = None

-- the change is of the definition of this kind and identifier
abbrev pub is_of : Change → BookKind → List ℕ → Bool
is_of c k uuid = same_kind k (kind_of c) && bytes_eq uuid (uuid_of c)

-- the map after a change
unfoldable pub changed : Change → Definitions → Definitions
changed c map k uuid = if is_of c k uuid then entry_of c else map k uuid

-- the map after these changes, the first of them first
abbrev pub after : Definitions → List Change → Definitions
after map [] = map
after map (c ∷ cs) = after (changed c map) cs

-- no two of a kind have one name
abbrev pub HasOwnNames : Definitions → Type 0
HasOwnNames map = (k : BookKind) (one other : List ℕ) (e f : Entry)
    → map k one ≡ Some e → map k other ≡ Some f → e.name ≡ f.name → one ≡ other
