-- What is found when a store is opened, by the map of its definitions, and their files in the order of their names.
use Rattle.std.specs.Prelude.{◌≡◌, ◌<◌, ℕ, length, slice_index_or, Bool, List, [], find, filter, flat_map, is_none, slice_get, All, Any, Contains, bytes_eq, true, Option, None, Some, option_map}
use Rattle.std.specs.Cmp.Lexicographic.{slice_cmp}
use Rattle.std.specs.List.Sorted.{IsStrictlySortedBy}
use Rattle.std.specs.Option.{option_or}
use Rattle.std.specs.Ordering.{nat_cmp}
use Rattle.std.specs.declared.cmp.Ordering.{Ordering}
use Rattle.types_base.specs.Limits.{most_domains}
use Rattle.types_base.specs.declared.memory.OrNoMemory.{OrNoMemory}
use Rattle.types_base.specs.declared.memory.OrNoMemory.TheVariants as or
use Rattle.store_spec.specs.declared.change.Change.{Change}
use Rattle.store_spec.specs.declared.entry.Entry.{Entry}
use Rattle.store_spec.specs.declared.kind.BookKind.{BookKind}
use Rattle.store_spec.specs.declared.kind.BookKind.TheVariants as kind
use Rattle.store_spec.specs.Changes.{Definitions, same_kind}
use Rattle.store_spec.specs.FileNames.{definition_name}
use Rattle.def_keeper.specs.declared.outcome.FoundDefinition.{FoundDefinition}
use Rattle.found_domains.specs.declared.found.FoundDomain.{FoundDomain}
use Rattle.found_domains.specs.declared.found.FoundFault.{FoundFault}
use Rattle.found_domains.specs.declared.found.FoundFault.TheVariants as fault
use Rattle.found_domains.specs.Files.{Given, given}

-- the name of a file that was found
abbrev pub file_of : FoundDefinition → List ℕ
file_of f = definition_name f.kind f.uuid

-- ---- what is wrong
-- the first file whose text is not that of its object
unfoldable pub first_bad : Definitions → List FoundDefinition → Option FoundDefinition
first_bad m fs = find (λ f. is_none (given m f)) fs

-- how many objects of a kind are served
abbrev pub most_of : BookKind → ℕ
most_of kind.Domain = most_domains
most_of kind.Network = 64
most_of kind.Pool = 64

-- the first file past the most of a kind
unfoldable pub past : BookKind → List FoundDefinition → Option FoundDefinition
past k fs = slice_get (filter (λ f. same_kind f.kind k) fs) (most_of k)

-- and of any kind, in the order of the files' names
abbrev pub first_past : List FoundDefinition → Option FoundDefinition
first_past fs = option_or (past kind.Domain fs) (option_or (past kind.Network fs) (past kind.Pool fs))

-- the fault of what was found, if there is one: all texts are looked at first
unfoldable pub fault_in : Definitions → List FoundDefinition → Option FoundFault
fault_in m fs =
    option_or (option_map (λ f. fault.BadText (file_of f)) (first_bad m fs))
    (option_map (λ f. fault.TooMany (file_of f)) (first_past fs))

-- a fault is this one, unless there was no memory
abbrev pub IsFault : Option FoundFault → OrNoMemory FoundFault → Type 0
IsFault found (or.Fault f) = found ≡ Some f
IsFault found or.NoMemory = Unit {0}

-- ---- what is found
-- the domains of the files, in their order
abbrev pub domains_of : Option Given → List FoundDomain
domains_of None = []
domains_of (Some g) = g.domains

-- the domains whose definitions were found
unfoldable pub domains_in : Definitions → List FoundDefinition → List FoundDomain
domains_in m fs = flat_map (λ f. domains_of (given m f)) fs

-- the changes that put files of version 1 again, in the order of the files
abbrev pub again_of : Option Given → List Change
again_of None = []
again_of (Some g) = g.again

-- the changes for all of these files
unfoldable pub again_in : Definitions → List FoundDefinition → List Change
again_in m fs = flat_map (λ f. again_of (given m f)) fs

-- the name of a domain
abbrev pub name_of : FoundDomain → List ℕ
name_of d = d.definition.name

-- two domains have one name
abbrev pub has_same_name : FoundDomain → FoundDomain → Bool
has_same_name d other = bytes_eq (name_of d) (name_of other)

-- domains by their names, byte by byte
abbrev pub compare_names : FoundDomain → FoundDomain → Ordering
compare_names d other = slice_cmp nat_cmp (name_of d) (name_of other)

-- of these domains one of each name, by rising name
pub record IsByName (found domains : List FoundDomain) : Type 0 where
  pub rising : IsStrictlySortedBy compare_names domains
  pub from : All (Contains found) domains
  pub all : All (λ d. Any (λ kept. has_same_name d kept ≡ true) domains) found

-- a domain is that of its entry: it has its name, and its flag
pub record IsKeptOf (m : Definitions) (d : FoundDomain) : Type 0 where
  pub entry : Entry
  pub kept : m kind.Domain d.uuid ≡ Some entry
  pub name : entry.name ≡ name_of d
  pub identifier : d.definition.uuid ≡ Some d.uuid
  pub flag : d.autostart ≡ entry.autostart

-- no two of these domains have one key
abbrev pub AreDistinct : (FoundDomain → List ℕ) → List FoundDomain → Type 0
AreDistinct key ds = (i j : ℕ) (d : FoundDomain) → i < length ds → j < length ds → key (slice_index_or ds i d) ≡ key (slice_index_or ds j d) → i ≡ j
