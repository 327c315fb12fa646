use Rattle.std.proofs.Common.{◌≡◌, ◌++◌, ◌+◌, ◌*◌, ◌≤◌, vec_len}
use Rattle.std.specs.Vec.{vec_capacity}
use Rattle.driver_sessions.specs.Seats.{holders_of, rows_of}
use Rattle.driver_sessions.proofs.seats.unseat_all.Given as goal

abbrev pub decreases-loop-one : goal.decreases-loop-one
decreases-loop-one g l = vec_len l.seats

abbrev pub invariant-loop-one : goal.invariant-loop-one
invariant-loop-one g l = record {
  rows : rows_of l.fn.seats.items ≡ l.rows.list ++ rows_of l.seats.items;
  holders : holders_of l.fn.seats.items ≡ l.holders.items ++ holders_of l.seats.items;
  room : 6 * vec_len l.seats ≤ l.rows.room;
  enough : vec_len l.seats + vec_len l.holders ≤ vec_capacity l.holders;
}
