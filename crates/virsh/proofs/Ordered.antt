-- Rows have an order by rising name.
use Rattle.std.proofs.Common.{◌≡◌, ◌+◌, ◌<◌, ℕ, zero, suc, Bool, true, false, List, [], ◌∷◌, length, map, refl, arith}
use Rattle.std.specs.Prelude.{slice_index_or}
use Rattle.std.specs.Cmp.{IsStrictWeakOrder}
use Rattle.std.specs.Cmp.Lexicographic.{slice_cmp}
use Rattle.std.specs.List.Sorted.{IsPermutation, IsSorted}
use Rattle.std.specs.Ordering.{is_lt, nat_cmp}
use Rattle.std.proofs.lemmas.Cmp.{nat_list_cmp_total}
use Rattle.std.proofs.lemmas.List.{length-map}
use Rattle.std.proofs.lemmas.List.Sorted.{IsPermutation-cons, IsPermutation-middle, IsPermutation-refl, IsPermutation-trans, ranks_by}
use Rattle.virt_types.specs.declared.value.DomainRow.{DomainRow}

-- whether a name comes before another
abbrev before : List ℕ → List ℕ → Bool
before one other = is_lt (slice_cmp nat_cmp one other)

one_way : (one other : List ℕ) → before one other ≡ true → before other one ≡ false
one_way one other is = let order : IsStrictWeakOrder before = ranks_by nat_list_cmp_total (λ (x : List ℕ). x) in order.one_way one other is

-- the row comes after the others
abbrev Leads : List ℕ → List DomainRow → Type 0
Leads name [] = Unit {0}
Leads name (r ∷ rows) = before r.domain.name name ≡ false

abbrev Rises : List DomainRow → Type 0
Rises [] = Unit {0}
Rises (r ∷ rows) = Leads r.domain.name rows × Rises rows

-- a row at its place
abbrev put_by : Bool → DomainRow → DomainRow → List DomainRow → List DomainRow → List DomainRow
put_by true r s rows more = s ∷ more
put_by false r s rows more = r ∷ s ∷ rows

abbrev put_in : DomainRow → List DomainRow → List DomainRow
put_in r [] = r ∷ []
put_in r (s ∷ rows) = put_by (before s.domain.name r.domain.name) r s rows (put_in r rows)

abbrev in_order : List DomainRow → List DomainRow
in_order [] = []
in_order (r ∷ rows) = put_in r (in_order rows)

leads_by : (name : List ℕ) (b : Bool) (r s : DomainRow) (rows more : List DomainRow) → before r.domain.name name ≡ false → before s.domain.name name ≡ false → Leads name (put_by b r s rows more)
leads_by name true r s rows more one other = other
leads_by name false r s rows more one other = one

leads_in : (name : List ℕ) (r : DomainRow) (rows : List DomainRow) → before r.domain.name name ≡ false → Leads name rows → Leads name (put_in r rows)
leads_in name r [] one leads = one
leads_in name r (s ∷ rows) one leads = leads_by name (before s.domain.name r.domain.name) r s rows (put_in r rows) one leads

rises_by : (b : Bool) (r s : DomainRow) (rows more : List DomainRow) → before s.domain.name r.domain.name ≡ b → (before r.domain.name s.domain.name ≡ false → Leads s.domain.name more) → Rises more → Rises (s ∷ rows) → Rises (put_by b r s rows more)
rises_by true r s rows more is leads rise rises = (leads (one_way s.domain.name r.domain.name is), rise)
rises_by false r s rows more is leads rise rises = (is, rises)

rises_in : (r : DomainRow) (rows : List DomainRow) → Rises rows → Rises (put_in r rows)
rises_in r [] rises = (tt, tt)
rises_in r (s ∷ rows) rises = rises_by (before s.domain.name r.domain.name) r s rows (put_in r rows) refl (λ later. leads_in s.domain.name r rows later rises.0) (rises_in r rows rises.1) rises

rises_all : (rows : List DomainRow) → Rises (in_order rows)
rises_all [] = tt
rises_all (r ∷ rows) = rises_in r (in_order rows) (rises_all rows)

same_by : (b : Bool) (r s : DomainRow) (rows more : List DomainRow) → IsPermutation (r ∷ rows) more → IsPermutation (r ∷ s ∷ rows) (put_by b r s rows more)
same_by true r s rows more same = IsPermutation-trans (r ∷ s ∷ rows) (s ∷ r ∷ rows) (s ∷ more) (IsPermutation-middle (r ∷ []) s rows) (IsPermutation-cons s (r ∷ rows) more same)
same_by false r s rows more same = IsPermutation-refl (r ∷ s ∷ rows)

same_in : (r : DomainRow) (rows : List DomainRow) → IsPermutation (r ∷ rows) (put_in r rows)
same_in r [] = IsPermutation-refl (r ∷ [])
same_in r (s ∷ rows) = same_by (before s.domain.name r.domain.name) r s rows (put_in r rows) (same_in r rows)

same_all : (rows : List DomainRow) → IsPermutation rows (in_order rows)
same_all [] = IsPermutation-refl []
same_all (r ∷ rows) = IsPermutation-trans (r ∷ rows) (r ∷ in_order rows) (put_in r (in_order rows)) (IsPermutation-cons r rows (in_order rows) (same_all rows)) (same_in r (in_order rows))

-- by places
steps : (rows : List DomainRow) (k : ℕ) (d : List ℕ) → Rises rows → k + 1 < length rows
    → before (slice_index_or (map (λ (row : DomainRow). row.domain.name) rows) (suc k) d) (slice_index_or (map (λ (row : DomainRow). row.domain.name) rows) k d) ≡ false
steps [] k d rises below = absurd (omega arith)
steps (r ∷ []) k d rises below = absurd (omega arith)
steps (r ∷ s ∷ rows) zero d rises below = rises.0
steps (r ∷ s ∷ rows) (suc k) d rises below = steps (s ∷ rows) k d rises.1 (omega (arith, below))

sorted_all : (rows : List DomainRow) → Rises rows → IsSorted (slice_cmp nat_cmp) (map (λ (row : DomainRow). row.domain.name) rows)
sorted_all rows rises = λ k d low below.
    let at = steps rows k d rises (omega (arith, below, length-map rows (λ (row : DomainRow). row.domain.name))) in
    let next : k + 1 ≡ suc k = omega arith in
    rw next at

-- the rows in an order by rising name
pub record Ordered (rows : List DomainRow) : Type 0 where
  pub ordered : List DomainRow
  pub same : IsPermutation rows ordered
  pub rising : IsSorted (slice_cmp nat_cmp) (map (λ row. row.domain.name) ordered)

pub have_order : (rows : List DomainRow) → Ordered rows
have_order rows = record { ordered = in_order rows; same = same_all rows; rising = sorted_all (in_order rows) (rises_all rows) }
