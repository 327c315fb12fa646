use Rattle.std.proofs.Common.{◌≡◌, ◌<◌}
use Rattle.text_spec.specs.Fill.{raised, tails}
use Rattle.xml_fill.proofs.mac.raised.Given as goal

abbrev pub invariant-loop-left : goal.invariant-loop-left
invariant-loop-left l =
    (l.tail < tails) × (raised l.left l.interfaces l.tail ≡ raised tails l.interfaces l.start)

abbrev pub decreases-loop-left : goal.decreases-loop-left
decreases-loop-left l = l.left
