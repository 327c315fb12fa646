-- The entries of one kind, in order.
use Rattle.std.specs.Prelude.{◌≡◌, ℕ, List, Contains, Some}
use Rattle.std.specs.Cmp.Lexicographic.{slice_cmp}
use Rattle.std.specs.List.Sorted.{IsStrictlySortedBy}
use Rattle.std.specs.Ordering.{nat_cmp}
use Rattle.store_spec.specs.declared.entry.Entry.{Entry}
use Rattle.store_spec.specs.declared.kind.BookKind.{BookKind}
use Rattle.store_spec.specs.Changes.{Definitions}

-- by rising name, the entry of each object of a kind
pub record AreEntries (k : BookKind) (map : Definitions) (entries : List Entry) : Type 0 where
  pub rising : IsStrictlySortedBy (λ one other. slice_cmp nat_cmp one.name other.name) entries
  pub from : (e : Entry) → Contains entries e → (uuid : List ℕ) × (map k uuid ≡ Some e)
  pub all : (uuid : List ℕ) (e : Entry) → map k uuid ≡ Some e → Contains entries e
