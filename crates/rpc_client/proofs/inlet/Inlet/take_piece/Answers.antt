use Rattle.std.proofs.Common.{◌<◌, length, [], refl, sym, ◌∙◌, arith, inl, inr}
use Rattle.std.proofs.lemmas.List.{append-nil}
use Rattle.rpc_client.proofs.Hearing.{hears_none, hears_piece, stops_now}
use Rattle.rpc_client.proofs.Known.{Consumes-kept}
use Rattle.rpc_client.specs.declared.fault.ClientFault.TheVariants as fault
use Rattle.rpc_client.proofs.inlet.Inlet.take_piece.Goals as goal

pub returns-then-self-ge-MOST-clause-err : goal.returns-then-self-ge-MOST-clause-err
returns-then-self-ge-MOST-clause-err g c = stops_now _ _ _ _ fault.End (hears_none _ _ _)
    (c.requires.none_ready, sym c.requires.stands.bad_is ∙ c.requires.sound, inr (omega (arith, c.requires.stands.within, c.if-self-ge-MOST.true)))

pub returns-in-Ok-eq0-clause-err : goal.returns-in-Ok-eq0-clause-err
returns-in-Ok-eq0-clause-err g c =
    let taken = c.in-Ok-eq0.ensures.bytes in
    let none = rw c.in-Ok-eq0.field-0-test at taken.0 in
    let room : 0 < length c.take_within.new.piece = omega (arith, c.take_within.auto.piece) in
    stops_now _ _ _ _ fault.End (hears_piece _ _ _ _ [] none (omega arith) (sym (append-nil _)) refl)
    (c.requires.none_ready, sym c.requires.stands.bad_is ∙ c.requires.sound, inl (taken.1 c.in-Ok-eq0.field-0-test room))

pub returns-in-Err-clause-err : goal.returns-in-Err-clause-err
returns-in-Err-clause-err g c =
    stops_now _ _ _ _ fault.Link (hears_piece _ _ _ _ [] (Consumes-kept _ _ c.in-Err.ensures.bytes) (omega arith) (sym (append-nil _)) refl) c.in-Err.ensures.cause.failed
