use Rattle.std.proofs.Common.{◌≡◌, ◌≤◌, length, take}
use Rattle.std.specs.Vec.{vec_capacity}
use Rattle.daemon.specs.Starting.{HasMade, first_call}
use Rattle.driver_service.specs.Below.driver.Cells.{IsRowOf}
use Rattle.driver_service.specs.Below.held_tasks.OfRows.{IsReadyRow, KeepsParts}
use Rattle.service_spec.specs.Activities.{hand}
use Rattle.daemon.proofs.starting.make_all.Given as goal

abbrev pub invariant-loop-request : goal.invariant-loop-request
invariant-loop-request g l = record {
  made : HasMade g.F.Files.told g.F.Files.faults g.G.Guests.faults g.G.E.Ears.ends g.G.E.Ears.faults g.G.E.Ears.unheard (first_call 0) (take l.request-index l.requests) l.outcomes.items
      (hand l.fn.row (g.R.Random.drawn l.fn.random)) (hand l.row (g.R.Random.drawn l.random));
  count : length l.outcomes.items ≡ l.request-index;
  room : length l.requests ≤ vec_capacity l.outcomes;
  parts : KeepsParts l.fn.row l.row;
  own : IsRowOf l.driver l.row;
  ready : IsReadyRow l.row;
}
