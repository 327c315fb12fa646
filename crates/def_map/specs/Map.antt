-- Definitions in memory: a row for each kind and identifier, and another for each kind and name.
use Rattle.std.specs.Prelude.{◌≡◌, ◌⊎◌, ℕ, List, [], ◌∷◌, Option, None, Some}
use Rattle.std.specs.Option.{IsSome}
use Rattle.store_spec.specs.declared.entry.Entry.{Entry}
use Rattle.store_spec.specs.declared.kind.BookKind.{BookKind}
use Rattle.store_spec.specs.declared.kind.BookKind.TheVariants as kind
use Rattle.store_spec.specs.Changes.{Definitions}
use Rattle.def_map.specs.Rows.{at, Stays, Updates}

-- the byte that stands for a kind
abbrev pub kind_byte : BookKind → ℕ
kind_byte kind.Domain = 0
kind_byte kind.Network = 1
kind_byte kind.Pool = 2

-- the bytes under which an identifier, or a name, of a kind has its row
abbrev pub key_of : BookKind → List ℕ → List ℕ
key_of k bytes = kind_byte k ∷ bytes

-- the entries, of which some rows have none; and the identifiers that names may have
pub record MapRows : Type 0 where
  pub entries : List (List ℕ × Option Entry)
  pub names : List (List ℕ × List ℕ)

-- the entry in a row
abbrev pub entry_in : Option (Option Entry) → Option Entry
entry_in None = None
entry_in (Some entry) = entry

-- the definitions that the rows stand for
unfoldable pub found : MapRows → Definitions
found m k uuid = entry_in (at m.entries (key_of k uuid))

-- the name of each definition leads to its identifier
abbrev pub NamesLead : MapRows → Type 0
NamesLead m = (k : BookKind) (uuid : List ℕ) (e : Entry) → found m k uuid ≡ Some e → at m.names (key_of k e.name) ≡ Some uuid

-- no other object of the kind has the name
abbrev pub IsFree : BookKind → List ℕ → List ℕ → Definitions → Type 0
IsFree k uuid name map = (other : List ℕ) (e : Entry) → map k other ≡ Some e → e.name ≡ name → other ≡ uuid

-- this object of the kind has the name, or none has
abbrev pub IsHolder : BookKind → List ℕ → Definitions → Option (List ℕ) → Type 0
IsHolder k name map None = (uuid : List ℕ) (e : Entry) → map k uuid ≡ Some e → e.name ≡ name → ⊥
IsHolder k name map (Some uuid) = (e : Entry) × (map k uuid ≡ Some e) × (e.name ≡ name) × IsFree k uuid name map

-- a row without an entry was made, or nothing was
abbrev pub IsMade : List ℕ → List (List ℕ × Option Entry) → List (List ℕ × Option Entry) → Type 0
IsMade key old new = (new ≡ old) ⊎ Stays old new ⊎ ((at old key ≡ None) × Updates key (Some None) old new)

-- a name leads to this identifier, or all is as before
abbrev pub IsNamed : List ℕ → List ℕ → List (List ℕ × List ℕ) → List (List ℕ × List ℕ) → Type 0
IsNamed key uuid old new = Stays old new ⊎ Updates key (Some uuid) old new

-- there are rows for an entry of this name
pub record IsReady (k : BookKind) (uuid name : List ℕ) (m : MapRows) : Type 0 where
  pub row : IsSome (at m.entries (key_of k uuid))
  pub named : at m.names (key_of k name) ≡ Some uuid

-- a name has a row only where an object of the kind has it
abbrev pub IsForgotten : BookKind → List ℕ → MapRows → Type 0
IsForgotten k name m = (uuid : List ℕ) → at m.names (key_of k name) ≡ Some uuid → (e : Entry) × (found m k uuid ≡ Some e) × (e.name ≡ name)

-- an object has a row only where it has an entry
abbrev pub HasNoBareRow : BookKind → List ℕ → MapRows → Type 0
HasNoBareRow k uuid m = at m.entries (key_of k uuid) ≡ Some None → ⊥

-- the same of the name of this entry, if it is one
abbrev pub HasForgotten : BookKind → Option Entry → MapRows → Type 0
HasForgotten k None m = Unit {0}
HasForgotten k (Some e) m = IsForgotten k e.name m

-- no rows
abbrev pub no_rows : MapRows
no_rows = record { entries = []; names = [] }

-- both find the same
abbrev pub FindsTheSame : MapRows → MapRows → Type 0
FindsTheSame old new = (k : BookKind) (uuid : List ℕ) → found new k uuid ≡ found old k uuid
