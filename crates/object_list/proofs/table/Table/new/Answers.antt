use Rattle.std.proofs.Common.{◌≡◌, ◌∙◌, sym, ap, subst, replicate, arith}
use Rattle.book_spec.specs.Slots.{Slots, free_slots}
use Rattle.object_list.specs.Table.{IsTable}
use Rattle.object_list.proofs.Tables.{nothing, empty-table}
use Rattle.object_list.proofs.table.Table.new.Goals as goal

pub invariant_of-result : goal.invariant_of-result
invariant_of-result c = let all : c.loop.counter ≡ 256 = omega (arith, c.loop-test.false, c.loop.auto.counter-end) in subst (λ (rows : Slots). IsTable rows c.new.result c.new-2.result c.all.result 0) (sym (c.loop.invariant.0 ∙ ap (λ n. replicate n nothing) all)) (empty-table c.new.result c.new-2.result c.all.result c.new.ensures c.new-2.ensures c.all.ensures)

pub returns-clause-free : goal.returns-clause-free
unfolding free_slots
returns-clause-free c = let all : c.loop.counter ≡ 256 = omega (arith, c.loop-test.false, c.loop.auto.counter-end) in c.loop.invariant.0 ∙ ap (λ n. replicate n nothing) all

pub returns-clause-most : goal.returns-clause-most
returns-clause-most c = (invariant_of-result c).most
