use Rattle.std.proofs.Common.{◌++◌, ◌∙◌, Option, ap}
use Rattle.std.specs.Option.{option_to_list}
use Rattle.std.specs.Vec.{vec_capacity}
use Rattle.atomic_table.specs.Seated.{TableId}
use Rattle.driver_close.proofs.Ending.{one_closed, room_left}
use Rattle.driver_close.proofs.closing.close_domains.Goals as goal

pub loop-pass-preserved : goal.loop-pass-preserved
loop-pass-preserved g c =
    let rest = c.pop-in-Some.new.self.items in
    let now = c.loop-pass in
    let more = c.push_reserved.new.self in
    let popped = c.pop-in-Some.ensures.items ∙ ap (λ (r : Option TableId). rest ++ option_to_list r) c.unwrap-domain.ensures in
    record {
      closing = one_closed c.args.passes.items now.passes.items c.pop.new.self.items now.domains.items rest now.histories.items c.in-Some.pass now.invariant.closing c.in-Some.ensures.items c.unwrap-domain.result popped
          c.close_domain.result more.items c.close_domain.ensures c.push_reserved.ensures.items;
      room = room_left now.passes.items c.pop.new.self.items c.in-Some.pass now.histories.items more.items c.close_domain.result (vec_capacity now.histories) (vec_capacity more) c.in-Some.ensures.items c.push_reserved.ensures.items
          c.push_reserved.ensures.capacity now.invariant.room;
    }
