use Rattle.std.proofs.Common.{◌≡◌, ◌<◌}
use Rattle.domain_obj.specs.Running.{IsReady}
use Rattle.domain_obj.proofs.Hearings.{Keeps}
use Rattle.domain_obj.proofs.hearing.hear.Given as goal

-- fewer than 64 things were heard so far, and nothing is left of them for the pass
abbrev pub invariant-loop-before : goal.invariant-loop-before
invariant-loop-before g l = record {
  own : l.pass.cell ≡ l.fn.cell;
  ready : IsReady l.pass;
  few : l.before < 64;
  keeps : Keeps g.G.E.Ears.ends g.G.E.Ears.faults g.G.E.Ears.unheard l.before l.fn.pass l.pass;
}
