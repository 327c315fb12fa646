use Rattle.std.proofs.Common.{◌≡◌, [], ◌∷◌, refl, sym, ap, ◌∙◌, arith}
use Rattle.wire_spec.specs.Packets.{fault}
use Rattle.rpc_client.specs.declared.fault.ClientFault.TheVariants as why
use Rattle.rpc_client.proofs.Hearing.{hears_feed, hears_none, hears_then, passes_one, passes_then, stops_now, stops_then}
use Rattle.rpc_client.proofs.inlet.Inlet.next_packet.Goals as goal

pub loop-packet-init : goal.loop-packet-init
loop-packet-init g c = record { hears = hears_none _ _ _; stands = c.requires; later = omega arith; events = refl }

pub returns-in-Some-clause-ok : goal.returns-in-Some-clause-ok
returns-in-Some-clause-ok g c = passes_then _ _ _ _ _ [] _ c.loop-packet.invariant.hears.passes (passes_one _ _ _ _ _ refl refl c.in-Some.ensures.some c.next.ensures.rest c.next.ensures.split.each)

pub returns-in-Some-bad-clause-err : goal.returns-in-Some-bad-clause-err
returns-in-Some-bad-clause-err g c =
    let kept = c.loop-packet.invariant in
    let none = c.in_default.ensures.none in
    let same = c.next.ensures.rest in
    stops_now _ _ _ _ (why.BadPacket _) (hears_feed _ _ _ _ _ _ [] kept.hears (none.1 ∙ sym none.0) same)
    (none.1, ap fault same ∙ (sym kept.stands.bad_is ∙ c.in-Some-bad.is))

pub take_piece-requires-clause-stands : goal.take_piece-requires-clause-stands
take_piece-requires-clause-stands g c = record {
  bad_is = c.loop-packet.invariant.stands.bad_is ∙ ap fault (sym c.next.ensures.rest);
  within = c.loop-packet.invariant.stands.within;
}

pub loop-packet-smaller : goal.loop-packet-smaller
loop-packet-smaller g c = omega (arith, c.in-Ok.ensures.more, c.in-Ok.ensures.stands.within)

pub loop-packet-preserved : goal.loop-packet-preserved
loop-packet-preserved g c =
    let kept = c.loop-packet.invariant in
    let none = c.in_default.ensures.none in
    record {
      hears = hears_then _ _ _ _ _ [] [] (hears_feed _ _ _ _ _ _ [] kept.hears (none.1 ∙ sym none.0) c.next.ensures.rest) c.in-Ok.ensures.ok;
      stands = c.in-Ok.ensures.stands;
      later = omega (arith, kept.later, c.take_piece.ensures.later);
      events = c.take_piece.ensures.events ∙ kept.events;
    }

pub returns-in-Err-clause-err : goal.returns-in-Err-clause-err
returns-in-Err-clause-err g c =
    let kept = c.loop-packet.invariant in
    let none = c.in_default.ensures.none in
    stops_then _ _ _ _ _ [] _ (hears_feed _ _ _ _ _ _ [] kept.hears (none.1 ∙ sym none.0) c.next.ensures.rest) kept.later c.in-Err.ensures.err
