use Rattle.std.proofs.Common.{[], ◌∷◌, arith}
use Rattle.six_rows.specs.Six.{all_six}
use Rattle.driver_sessions.specs.Seats.{holders_of, rows_of}
use Rattle.driver_sessions.proofs.Turning.{one_gives}
use Rattle.driver_sessions.proofs.seats.unseat_all.Goals as goal

pub loop-one-preserved : goal.loop-one-preserved
loop-one-preserved g c =
    let now = c.loop-one in
    let more = c.push_reserved in
    record {
      rows = one_gives (λ one. all_six one.rows) (rows_of c.args.seats.items) now.rows.list c.put_six.new.rows.list now.seats.items c.pop.new.self.items _ c.in-Some.one now.invariant.rows c.in-Some.ensures.items c.one.view_is c.put_six.ensures.list;
      holders = one_gives (λ one. one.holder ∷ []) (holders_of c.args.seats.items) now.holders.items more.new.self.items now.seats.items c.pop.new.self.items _ c.in-Some.one now.invariant.holders c.in-Some.ensures.items c.one.view_is more.ensures.items;
      room = omega (arith, now.invariant.room, c.in-Some.ensures.len, c.put_six.ensures.room);
      enough = omega (arith, now.invariant.enough, c.in-Some.ensures.len, more.ensures.len, more.ensures.capacity);
    }
