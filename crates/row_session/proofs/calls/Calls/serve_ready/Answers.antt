use Rattle.std.proofs.Common.{◌∙◌, arith, ap, length, refl}
use Rattle.row_session.proofs.Counting.{says_count}
use Rattle.row_session.proofs.Courses.{serves_close, serves_more, serves_none, serves_stopped}
use Rattle.row_session.proofs.calls.Calls.serve_ready.Goals as goal

pub loop-packet-init : goal.loop-packet-init
loop-packet-init g c = record {
  serves = serves_none _ _ _ _ _;
  rest = refl;
  later = omega arith;
  few = c.requires.few;
  ready = c.requires.ready;
}

pub returns-in-Ok-Closed-clause-ok : goal.returns-in-Ok-Closed-clause-ok
returns-in-Ok-Closed-clause-ok g c =
    let read = rw c.in-Ok-Closed.is at c.say-then.ensures.ok in
    let said = rw (rw c.in-Ok-Closed.is at c.in-Ok-Closed.field-0-is) at read in
    serves_close _ _ _ _ _ _ _ _ _ _ _ _ c.loop-packet.invariant.serves c.in-Some.ensures.some said

pub returns-in-Err-clause-err : goal.returns-in-Err-clause-err
returns-in-Err-clause-err g c =
    let said = rw c.in-Err.is at c.say-then.ensures.err in
    serves_stopped _ _ _ _ _ _ _ _ _ _ _ _ _ c.loop-packet.invariant.serves c.in-Some.ensures.some said

pub loop-packet-preserved : goal.loop-packet-preserved
loop-packet-preserved g c =
    let read = rw c.in-Ok-On.is at c.say-then.ensures.ok in
    let said = rw (rw c.in-Ok-On.is at c.in-Ok-On.field-0-is) at read in
    record {
      serves = serves_more _ _ _ _ _ _ _ _ _ _ _ _ c.loop-packet.invariant.serves c.in-Some.ensures.some said;
      rest = c.next.ensures.rest ∙ c.loop-packet.invariant.rest;
      later = omega (arith, c.say-then.ensures.cause.later, c.loop-packet.invariant.later);
      few = let count = says_count _ _ _ _ _ _ _ _ said in omega (arith, count, c.loop-packet.invariant.few, ap (λ t. length t) c.in-Some.ensures.some);
      ready = c.say-then.ensures.still_ready;
    }
