-- One domain of each name, by rising name.
use Rattle.std.proofs.Common.{◌≡◌, ◌∙◌, List, sym}
use Rattle.std.specs.Prelude.{Contains}
use Rattle.std.specs.Cmp.{IsEquivalence, IsTotalOrder}
use Rattle.std.specs.Cmp.Lexicographic.{nat_list_cmp_total}
use Rattle.std.specs.List.{dedup}
use Rattle.std.specs.List.Sorted.{IsPermutation, IsSorted}
use Rattle.std.specs.Ordering.{eq_by_cmp}
use Rattle.std.proofs.lemmas.Cmp.{eq_by_cmp_equiv, on_total}
use Rattle.std.proofs.lemmas.List.Elements.{All-contains_itself}
use Rattle.std.proofs.lemmas.List.Filters.{All-dedup}
use Rattle.std.proofs.lemmas.List.Kept.{Any-dedup, IsStrictlySortedBy-dedup}
use Rattle.std.proofs.lemmas.List.Sorted.{All-permutation, Contains-permutation}
use Rattle.std.proofs.lemmas.Map.Text.{is_eq-slice_cmp}
use Rattle.found_domains.specs.declared.found.FoundDomain.{FoundDomain}
use Rattle.found_domains.specs.Found.{IsByName, compare_names, has_same_name, name_of}

names_total : IsTotalOrder compare_names
names_total = on_total name_of nat_list_cmp_total

names_tie : (d other : FoundDomain) → has_same_name d other ≡ eq_by_cmp compare_names d other
names_tie d other = sym (is_eq-slice_cmp (name_of d) (name_of other))

names_equiv : IsEquivalence has_same_name
names_equiv =
    let by = eq_by_cmp_equiv names_total in
    record {
      refl = λ d. names_tie d d ∙ by.refl d;
      symm = λ d other. names_tie d other ∙ by.symm d other ∙ sym (names_tie other d);
      congr = λ d other more e. names_tie d more ∙ by.congr d other more (sym (names_tie d other) ∙ e) ∙ sym (names_tie other more);
    }

-- sorted by name, and one kept of those that follow one another with one name
pub by_names : (found s : List FoundDomain) → IsPermutation found s → IsSorted compare_names s → IsByName found (dedup has_same_name s)
by_names found s moved sorted = record {
  rising = IsStrictlySortedBy-dedup names_total names_tie s sorted;
  from = All-dedup has_same_name (Contains found) s (All-permutation (Contains found) found s moved (All-contains_itself found));
  all = λ k d lt. Any-dedup names_equiv s _ (Contains-permutation found s _ moved (All-contains_itself found k d lt));
}
