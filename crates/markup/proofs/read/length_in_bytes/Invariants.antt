use Rattle.std.proofs.Common.{◌≡◌, ◌+◌, ◌*◌, ◌≤◌, length}
use Rattle.std.specs.Prelude.{encode_utf8_all}
use Rattle.markup.proofs.read.length_in_bytes.Given as goal

abbrev pub invariant-loop-c : goal.invariant-loop-c
invariant-loop-c l =
    (l.count + length (encode_utf8_all l.rest) ≡ length (encode_utf8_all l.chars))
    × (l.count + 4 * length l.rest ≤ 4 * length l.chars)

abbrev pub decreases-loop-c : goal.decreases-loop-c
decreases-loop-c l = length l.rest
