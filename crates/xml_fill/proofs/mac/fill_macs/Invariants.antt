use Rattle.std.proofs.Common.{ℕ, List}
use Rattle.std.specs.Io.KnownBytes.{Appends}
use Rattle.xml_fill.proofs.Macs.{IsFilledSoFar}
use Rattle.xml_fill.proofs.mac.fill_macs.Given as goal

abbrev pub invariant-loop-place : goal.invariant-loop-place
invariant-loop-place g l =
    (drawn : List ℕ) × IsFilledSoFar l.initial.interfaces drawn l.interfaces l.place
    × Appends (g.R.Random.drawn l.initial.random) (g.R.Random.drawn l.random) drawn
