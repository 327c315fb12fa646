use Rattle.std.proofs.Common.{rules, ℕ, sym, subst, List}
use Rattle.std.specs.Cmp.Lexicographic.{nat_list_cmp_total, slice_cmp}
use Rattle.std.specs.List.Sorted.{IsPermutation, IsSorted}
use Rattle.std.specs.Ordering.{is_lt, nat_cmp}
use Rattle.std.proofs.lemmas.List.Sorted.{answers_always, ranks_by}
use Rattle.pool_core.proofs.volumes.names_in_order.Goals as goal

pub returns : goal.returns
returns c = record {
  same = subst (λ (x : List (List ℕ) × List (List ℕ)). IsPermutation x.0 x.1) (λ i. (c.in_ok-names.ensures i, sym c.of.ensures i)) c.sort_by.ensures.permutation;
  rising = subst (IsSorted (slice_cmp nat_cmp)) (sym c.of.ensures)
      (c.in_ok-sort_by.ensures.sorted (λ (one other : List ℕ). is_lt (slice_cmp nat_cmp one other)) (ranks_by nat_list_cmp_total (λ (name : List ℕ). name)) (answers_always _ _ _ (λ f a r g h. search rules)));
}
