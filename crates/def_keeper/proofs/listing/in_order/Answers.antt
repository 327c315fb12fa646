use Rattle.std.proofs.Common.{◌∙◌, List, ℕ, ap, map, subst, sym}
use Rattle.std.specs.List.Sorted.{IsPermutation}
use Rattle.std.specs.String.{string_bytes}
use Rattle.std.proofs.lemmas.List.Sorted.{IsPermutation-map}
use Rattle.def_keeper.specs.Opening.{IsInOrder}
use Rattle.def_keeper.proofs.Orders.{map_ok, order_of}
use Rattle.def_keeper.proofs.listing.in_order.Goals as goal

pub returns-clause-ordered : goal.returns-clause-ordered
returns-clause-ordered c = map_ok c.texts_of.result
    (λ t is. subst IsInOrder (sym (is ∙ ap (λ l. map string_bytes l) c.as_slice.ensures.value)) (order_of c.sort_unstable.new.self.items c.sort_unstable.ensures.sorted))
    c.texts_of.ensures

pub returns-clause-same : goal.returns-clause-same
returns-clause-same c = map_ok c.texts_of.result
    (λ t is. subst (λ (l : List (List ℕ)). IsPermutation l t) c.in_ok-strings.ensures
    (subst (λ (l : List (List ℕ)). IsPermutation (map string_bytes c.in_ok-strings.strings.items) l) (sym (is ∙ ap (λ l. map string_bytes l) c.as_slice.ensures.value))
    (IsPermutation-map string_bytes c.in_ok-strings.strings.items c.sort_unstable.new.self.items c.sort_unstable.ensures.permutation)))
    c.texts_of.ensures
