use Rattle.std.proofs.Common.{◌≡◌, ◌++◌, ◌+◌, ◌*◌, ◌≤◌, length, vec_len}
use Rattle.std.specs.Vec.{vec_capacity}
use Rattle.driver_sessions.specs.Seats.{holders_of, rows_of}
use Rattle.driver_sessions.proofs.seats.seat_all.Given as goal

abbrev pub decreases-loop-holder : goal.decreases-loop-holder
decreases-loop-holder g l = vec_len l.holders

abbrev pub invariant-loop-holder : goal.invariant-loop-holder
invariant-loop-holder g l = record {
  rows : l.fn.rows.list ≡ l.rows.list ++ rows_of l.seats.items;
  holders : l.fn.holders.items ≡ l.holders.items ++ holders_of l.seats.items;
  each : length l.rows.list ≡ 6 * vec_len l.holders;
  count : vec_len l.holders + vec_len l.seats ≡ vec_len l.fn.holders;
  room : 6 * vec_len l.seats ≤ l.rows.room;
  enough : vec_len l.holders + vec_len l.seats ≤ vec_capacity l.seats;
}
