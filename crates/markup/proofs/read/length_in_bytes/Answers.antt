use Rattle.std.proofs.Common.{◌≡◌, ◌∷◌, length, ap, arith}
use Rattle.markup.proofs.Lengths.{bytes_more}
use Rattle.markup.proofs.read.length_in_bytes.Goals as goal

pub loop-c-preserved : goal.loop-c-preserved
loop-c-preserved c =
    let begins : c.loop-c.rest.now ≡ c.in-Some.c.now ∷ c.in-Some.after.now = grind arith in
    let i = c.loop-c.invariant in
    let bytes = bytes_more c.in-Some.c.now c.in-Some.after.now c.loop-c.rest.now begins in
    let shorter = ap length begins in
    let value = c.len_utf8.ensures.value in
    (omega (arith, i.0, bytes, value), omega (arith, i.1, shorter))
