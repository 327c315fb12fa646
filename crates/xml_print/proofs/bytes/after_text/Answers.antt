use Rattle.std.proofs.Common.{length, drop, ap, arith}
use Rattle.std.specs.Prelude.{chars}
use Rattle.std.specs.List.{flat_map}
use Rattle.std.proofs.lemmas.Iterator.{YieldsList-from_chars}
use Rattle.std.proofs.lemmas.Iterator.Consumers.{YieldsList-turn, YieldsList-end}
use Rattle.std.proofs.lemmas.List.{at_drop_all, length_push}
use Rattle.text_spec.specs.Written.{in_text}
use Rattle.xml_print.specs.Room.{room}
use Rattle.xml_print.proofs.Pieces.{piece_left}
use Rattle.xml_print.proofs.bytes.after_text.Goals as goal

pub loop-c-preserved : goal.loop-c-preserved
loop-c-preserved c =
    let cs = chars c.args.text.now in
    let t = YieldsList-turn (YieldsList-from_chars c.args.text.now c.utf8.text cc) c.loop-c.yielded _ c.loop-c.yielded_by _ _ c.in-Some.c c.in-Some.is c.next.ensures.steps in
    let e = piece_left in_text cs (length c.loop-c.yielded) c.in-Some.c c.loop-c.rest t.0 t.1 in
    let n = ap (λ k. room (flat_map in_text (drop k cs))) (length_push c.loop-c.yielded c.in-Some.c) in
    omega (arith, e, n, c.text_bytes.ensures, c.saturating_sub-rest.ensures, c.loop-c.invariant)

pub returns : goal.returns
returns c =
    let cs = chars c.args.text.now in
    let t = YieldsList-end (YieldsList-from_chars c.args.text.now c.utf8.text cc) c.loop-c.yielded _ c.loop-c.yielded_by _ _ c.in-None.is c.next.ensures.steps in
    omega (arith, at_drop_all (λ xs. room (flat_map in_text xs)) cs (length c.loop-c.yielded) (omega (arith, t.1)), c.loop-c.invariant)
