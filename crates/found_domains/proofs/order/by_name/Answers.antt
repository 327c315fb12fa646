use Rattle.std.proofs.Common.{rules, ap, ◌≡◌, ◌∙◌, sym, subst, List, arith, length}
use Rattle.std.specs.Cmp.Lexicographic.{nat_list_cmp_total}
use Rattle.std.specs.List.{dedup}
use Rattle.std.specs.List.Sorted.{IsPermutation, IsSorted}
use Rattle.std.specs.Ordering.{is_lt}
use Rattle.std.proofs.lemmas.Fn.{dedup_same}
use Rattle.std.proofs.lemmas.List.Sorted.{answers_always, length_permutation, ranks_by}
use Rattle.found_domains.specs.declared.found.FoundDomain.{FoundDomain}
use Rattle.found_domains.specs.Found.{IsByName, compare_names, has_same_name, name_of}
use Rattle.found_domains.proofs.Named.{by_names}
use Rattle.found_domains.proofs.order.by_name.Goals as goal

pub returns-clause-domains : goal.returns-clause-domains
returns-clause-domains c =
    let s = c.sort_by.new.self.items in
    let moved : IsPermutation c.args.domains s = subst (λ (x : List FoundDomain). IsPermutation x s) c.into_vec-all.ensures c.sort_by.ensures.permutation in
    let sorted : IsSorted compare_names s =
    c.in_ok-sort_by.ensures.sorted (λ (one other : FoundDomain). is_lt (compare_names one other)) (ranks_by nat_list_cmp_total name_of) (answers_always _ _ _ (λ f a r g h. search rules)) in
    let kept : c.dedup_by.new.self.items ≡ dedup has_same_name s = dedup_same _ has_same_name _ (λ x y b f x1 y1 h. search rules) s c.dedup_by.new.self.items c.dedup_by.ensures.filtered in
    subst (IsByName c.args.domains) (sym (c.of.ensures ∙ kept)) (by_names c.args.domains s moved sorted)

pub returns-clause-few : goal.returns-clause-few
returns-clause-few c =
    let more = c.dedup_by.ensures.bound in
    let same = length_permutation _ _ c.sort_by.ensures.permutation in
    let all : length c.of.result ≡ length c.dedup_by.new.self.items = ap (λ (ds : List FoundDomain). length ds) c.of.ensures in
    let whole : length c.into_vec-all.result.items ≡ length c.args.domains = ap (λ (ds : List FoundDomain). length ds) c.into_vec-all.ensures in
    omega (arith, more, same, all, whole)
