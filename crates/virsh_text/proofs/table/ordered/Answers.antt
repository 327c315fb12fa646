use Rattle.std.proofs.Common.{rules, ◌≡◌, sym, subst, List}
use Rattle.std.specs.Cmp.Lexicographic.{nat_list_cmp_total, slice_cmp}
use Rattle.std.specs.List.Sorted.{IsPermutation}
use Rattle.std.specs.Ordering.{is_lt, nat_cmp}
use Rattle.std.proofs.lemmas.List.Sorted.{answers_always, ranks_by}
use Rattle.virt_types.specs.declared.value.DomainRow.{DomainRow}
use Rattle.virsh_text.proofs.Rows.{rising_names}
use Rattle.virsh_text.proofs.table.ordered.Goals as goal

pub returns : goal.returns
returns c = record {
  same = subst (λ (x : List DomainRow). IsPermutation x c.sort_by.new.self.items) c.in_ok-rows.ensures c.sort_by.ensures.permutation;
  rising = rising_names c.sort_by.new.self.items
      (c.in_ok-sort_by.ensures.sorted (λ (one other : DomainRow). is_lt (slice_cmp nat_cmp one.domain.name other.domain.name)) (ranks_by nat_list_cmp_total (λ (row : DomainRow). row.domain.name)) (answers_always _ _ _ (λ f a r g h. search rules)));
}
