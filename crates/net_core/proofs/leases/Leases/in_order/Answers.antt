use Rattle.std.proofs.Common.{rules, ◌≡◌, ◌∙◌, sym, subst, List}
use Rattle.std.specs.List.Sorted.{IsPermutation, IsNonDecreasingBy}
use Rattle.std.proofs.lemmas.List.Sorted.{IsNonDecreasingBy-from_sort_by_key}
use Rattle.virt_types.specs.declared.value.LeaseRow.{LeaseRow}
use Rattle.net_core.proofs.leases.Leases.in_order.Goals as goal

pub returns : goal.returns
returns c =
    let copied : c.in_ok-rows.rows.items ≡ c.args.self.now = c.in_ok-rows.ensures.items ∙ (c.as_slice.ensures.value ∙ c.self.view_is) in
    record {
      same = subst (λ (x : List LeaseRow × List LeaseRow). IsPermutation x.0 x.1) (λ i. (copied i, sym c.of.ensures i)) c.sort_by_key.ensures.permutation;
      rising = subst (IsNonDecreasingBy (λ (lease : LeaseRow). lease.address)) (sym c.of.ensures) (IsNonDecreasingBy-from_sort_by_key (λ (lease : LeaseRow). lease.address) c.sort_by_key.new.self.items c.in_ok-sort_by_key.ensures.sorted (λ a r f h. search rules));
    }
