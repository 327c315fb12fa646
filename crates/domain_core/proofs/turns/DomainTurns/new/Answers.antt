use Rattle.std.proofs.Common.{ℕ, List, [], None, sym, subst}
use Rattle.std.specs.Vec.{vec_capacity, vec_len}
use Rattle.domain_spec.specs.Cell.{HeldEvent}
use Rattle.domain_core.specs.Core.{IsWhole}
use Rattle.domain_core.proofs.Whole.{new_whole}
use Rattle.domain_core.proofs.turns.DomainTurns.new.Goals as goal

pub invariant_of-result : goal.invariant_of-result
invariant_of-result c =
    let r = c.in-Ok.kept in
    let q = c.in_ok-new.field-0 in
    subst (λ (hs : List HeldEvent). IsWhole r q hs None None (vec_len c.new-3.result) (vec_capacity c.new-2.result)) (sym c.new-2.ensures.items)
    (subst (λ (n : ℕ). IsWhole r q [] None None n (vec_capacity c.new-2.result)) (sym c.new-3.ensures.len)
    (new_whole r q c.args.stored c.args.autostart (vec_capacity c.new-2.result) c.in-Ok.ensures.history c.in-Ok.ensures.course))
