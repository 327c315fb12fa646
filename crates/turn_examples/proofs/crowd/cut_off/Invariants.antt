use Rattle.std.proofs.Common.{◌≡◌, ◌-◌, ◌≤◌, All}
use Rattle.turn_examples.proofs.crowd.cut_off.Given as goal

abbrev pub invariant-loop : goal.invariant-loop
invariant-loop l = (l.counter ≤ l.count) × (l.pass ≡ record l.fn.pass { parts = l.fn.pass.parts - l.counter }) × All (λ other. other.cell ≡ l.cell) l.others.items
