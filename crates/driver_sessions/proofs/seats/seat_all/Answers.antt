use Rattle.std.proofs.Common.{[], ◌∷◌, ◌∙◌, ap, arith, length, length-append}
use Rattle.six_rows.specs.Six.{all_six}
use Rattle.driver_sessions.proofs.Turning.{one_gets}
use Rattle.driver_sessions.proofs.seats.seat_all.Goals as goal

pub loop-holder-preserved : goal.loop-holder-preserved
loop-holder-preserved g c =
    let now = c.loop-holder in
    let six = c.take_six-six in
    let more = c.push_reserved in
    let taken = ap length six.ensures.list ∙ length-append six.new.rows.list (all_six six.result) in
    record {
      rows = one_gets (λ one. all_six one.rows) c.args.rows.list now.rows.list six.new.rows.list now.seats.items more.new.self.items _ now.invariant.rows six.ensures.list more.ensures.items;
      holders = one_gets (λ one. one.holder ∷ []) c.args.holders.items now.holders.items c.pop.new.self.items now.seats.items more.new.self.items _ now.invariant.holders c.in-Some.ensures.items more.ensures.items;
      each = omega (arith, now.invariant.each, c.in-Some.ensures.len, taken);
      count = omega (arith, now.invariant.count, c.in-Some.ensures.len, more.ensures.len);
      room = omega (arith, now.invariant.room, more.ensures.len, six.ensures.room);
      enough = omega (arith, now.invariant.enough, c.in-Some.ensures.len, more.ensures.len, more.ensures.capacity);
    }
