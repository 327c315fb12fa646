use Rattle.std.proofs.Common.{arith}
use Rattle.std.proofs.lemmas.List.{drop_all}
use Rattle.def_map.specs.Map.{found}
use Rattle.found_domains.proofs.Taken.{bad_next, takes_last, takes_next}
use Rattle.found_domains.proofs.opening.take_all.Goals as goal

pub loop-row-preserved : goal.loop-row-preserved
loop-row-preserved c = takes_next (found c.args.map.now) c.args.rows.now c.loop-row.row-index c.row-item.result c.loop-row.domains c.take.new.domains c.loop-row.again c.take.new.again
    c.loop-row-test.true c.row-item.is (rw c.in-Ok-true.field-0-test at c.in-Ok-true.ensures) c.loop-row.invariant

pub returns-in-Ok-false-clause-bad : goal.returns-in-Ok-false-clause-bad
returns-in-Ok-false-clause-bad c = bad_next (found c.args.map.now) c.args.rows.now c.loop-row.row-index c.row-item.result c.loop-row.domains c.take.new.domains c.loop-row.again c.take.new.again
    c.loop-row-test.true c.row-item.is (rw c.in-Ok-false.field-0-test at c.in-Ok-false.ensures) c.loop-row.invariant.0

pub returns-clause-bad : goal.returns-clause-bad
returns-clause-bad c = (takes_last (found c.args.map.now) c.args.rows.now c.loop-row.row-index c.loop-row.domains c.loop-row.again (drop_all c.loop-row.row-index c.args.rows.now (omega (arith, c.loop-row-test.false))) c.loop-row.invariant).0

pub returns-clause-domains : goal.returns-clause-domains
returns-clause-domains c = λ _. (takes_last (found c.args.map.now) c.args.rows.now c.loop-row.row-index c.loop-row.domains c.loop-row.again (drop_all c.loop-row.row-index c.args.rows.now (omega (arith, c.loop-row-test.false))) c.loop-row.invariant).1

pub returns-clause-again : goal.returns-clause-again
returns-clause-again c = λ _. (takes_last (found c.args.map.now) c.args.rows.now c.loop-row.row-index c.loop-row.domains c.loop-row.again (drop_all c.loop-row.row-index c.args.rows.now (omega (arith, c.loop-row-test.false))) c.loop-row.invariant).2
