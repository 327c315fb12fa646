use Rattle.std.proofs.Common.{rules}
use Rattle.std.proofs.lemmas.List.Sorted.{answers_always, ranks_by}
use Rattle.std.specs.Cmp.Lexicographic.{nat_list_cmp_total, slice_cmp}
use Rattle.std.specs.Ordering.{is_lt, nat_cmp}
use Rattle.def_map.proofs.walk.risen.Goals as goal

pub returns-clause-rising : goal.returns-clause-rising
returns-clause-rising c = c.sort_unstable_by.ensures.sorted (λ one other. is_lt (slice_cmp nat_cmp one.now.name other.now.name)) (ranks_by nat_list_cmp_total (λ one. one.now.name)) (answers_always _ _ _ (λ f a r g h. search rules))
