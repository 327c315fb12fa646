-- Rows that rise by their names.
use Rattle.std.proofs.Common.{◌≡◌, ◌+◌, ◌<◌, ℕ, List, [], ◌∷◌, arith, length, map}
use Rattle.std.specs.Cmp.Lexicographic.{slice_cmp}
use Rattle.std.specs.List.Sorted.{IsSorted, IsSortedBy}
use Rattle.std.specs.Ordering.{is_lt, nat_cmp}
use Rattle.std.specs.Prelude.{slice_index_or}
use Rattle.std.proofs.lemmas.List.{get_or-map, length-map}
use Rattle.virt_types.specs.declared.value.DomainRow.{DomainRow}

named : (rows : List DomainRow) (i : ℕ) (d : List ℕ) (e : DomainRow) → i < length rows → slice_index_or (map (λ (row : DomainRow). row.domain.name) rows) i d ≡ (slice_index_or rows i e).domain.name
named rows i d e lt = get_or-map (λ (row : DomainRow). row.domain.name) rows i e d lt

long : (rows : List DomainRow) → length (map (λ (row : DomainRow). row.domain.name) rows) ≡ length rows
long rows = length-map rows (λ (row : DomainRow). row.domain.name)

pub rising_names : (rows : List DomainRow) → IsSortedBy (λ (one other : DomainRow). is_lt (slice_cmp nat_cmp one.domain.name other.domain.name)) rows → IsSorted (slice_cmp nat_cmp) (map (λ (row : DomainRow). row.domain.name) rows)
rising_names [] sorted = λ k d low below. absurd (omega (arith, below))
rising_names (r ∷ rows) sorted = λ k d low below.
    let all : List DomainRow = r ∷ rows in
    let within : k + 1 < length all = omega (arith, below, long all) in
    let upper = named all (k + 1) d r within in
    let lower = named all k d r (omega (arith, within)) in
    (rw (upper, lower) (sorted k r low within))
