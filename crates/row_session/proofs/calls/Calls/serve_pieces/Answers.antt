use Rattle.std.proofs.Common.{◌<◌, length, arith, inl, inr}
use Rattle.row_session.proofs.Counting.{going_count}
use Rattle.row_session.proofs.Courses.{going_ends, going_fails, going_more, going_none, going_over}
use Rattle.packet.proofs.Known.{Consumes-none}
use Rattle.row_session.proofs.calls.Calls.serve_pieces.Goals as goal

pub loop-taken-init : goal.loop-taken-init
loop-taken-init g c = record {
  within = omega arith;
  going = going_none _ _ _ _ _ _ c.requires.rest;
  none_ready = c.requires.none_ready;
  source = omega arith;
  sink = omega arith;
  ready = c.requires.ready;
}

pub returns-in-Ok-eq0-clause-course : goal.returns-in-Ok-eq0-clause-course
returns-in-Ok-eq0-clause-course g c =
    let taken = c.in-Ok-eq0.ensures.bytes in
    let none = rw c.in-Ok-eq0.field-0-test at taken.0 in
    let room : 0 < length c.take_within.new.chunk = omega (arith, c.take_within.auto.chunk) in
    going_over _ _ _ _ _ _ _ _ _ _ _ _ c.loop-taken.invariant.going none (inl (taken.1 c.in-Ok-eq0.field-0-test room)) c.end_of.ensures

pub returns-in-Some-clause-course : goal.returns-in-Some-clause-course
returns-in-Some-clause-course g c =
    let takes = rw (← c.split_at.ensures.front) at c.in-Ok.ensures.bytes.0 in
    going_ends _ _ _ _ _ _ _ _ _ _ _ _ _ _ _ c.loop-taken.invariant.going takes (rw c.in-Some.is at c.serve_piece-then.ensures.some)

pub loop-taken-preserved : goal.loop-taken-preserved
loop-taken-preserved g c =
    let kept = c.loop-taken.invariant in
    let takes = rw (← c.split_at.ensures.front) at c.in-Ok.ensures.bytes.0 in
    record {
      within = omega (arith, c.in-Ok.ensures.within, kept.within);
      going = going_more _ _ _ _ _ _ _ _ _ _ _ _ _ _ _ _ kept.going takes (omega (arith, c.split_at.ensures.front_len)) (rw c.in-None.is at c.serve_piece-then.ensures.none);
      none_ready = rw c.in-None.is at c.serve_piece-then.ensures.ready;
      source = omega (arith, kept.source, c.take_within.ensures.cause.later);
      sink = omega (arith, kept.sink, c.serve_piece-then.ensures.later);
      ready = c.serve_piece-then.ensures.still_ready;
    }

pub returns-clause-course : goal.returns-clause-course
returns-clause-course g c = going_over _ _ _ _ _ _ _ _ _ _ _ _ c.loop-taken.invariant.going (Consumes-none _) (inr (omega (arith, c.loop-taken.invariant.within, c.loop-taken-test.false))) c.end_of-2.ensures

pub returns-in-Err-clause-course : goal.returns-in-Err-clause-course
returns-in-Err-clause-course g c = going_fails _ _ _ _ _ _ _ _ _ _ _ c.loop-taken.invariant.going c.in-Err.ensures.bytes

pub serve_piece-then-requires-clause-few : goal.serve_piece-then-requires-clause-few
serve_piece-then-requires-clause-few g c =
    let few = going_count _ _ _ _ _ _ _ _ _ _ c.loop-taken.invariant.going in
    omega (arith, few, c.requires.few, c.loop-taken.invariant.within, c.split_at.ensures.front_len, c.in-Ok.ensures.within)
