use Rattle.std.proofs.Common.{◌≡◌, ◌≤◌, length}
use Rattle.std.specs.List.{All}
use Rattle.std.specs.Vec.{vec_capacity}
use Rattle.pass_rows.proofs.splitting.make_blanks.Given as goal

abbrev pub invariant-loop : goal.invariant-loop
invariant-loop g l = record {
  count : length l.all.items ≡ l.counter;
  width : All (λ room. l.fn.width ≤ room) l.all.items;
  room : l.fn.count ≤ vec_capacity l.all;
  failed : g.G.Guests.faults l.fn.guests ≤ g.G.Guests.faults l.guests;
}
