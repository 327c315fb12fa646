use Rattle.std.proofs.Common.{refl, subst, sym}
use Rattle.driver_crossing.specs.Below.driver.Cells.{IsRowOf}
use Rattle.driver_sessions.proofs.Rows.{as_seen}
use Rattle.driver_sessions.specs.Seats.{Seat}
use Rattle.driver_sessions.specs.Serving.{IsServed}
use Rattle.driver_crossing.specs.Below.held_tasks.OfRows.{IsReadyRow}
use Rattle.driver_sessions.proofs.serving.serve_one.Goals as goal

pub serve-rows-requires : goal.serve-rows-requires
serve-rows-requires g c = record { ready = subst (λ (one : Seat _ _). IsRowOf c.args.driver.now one.rows.fifth × IsReadyRow one.rows.fifth) (sym c.one.view_is) (c.requires.own, c.requires.ready) }

pub returns : goal.returns
returns g c =
    as_seen (IsServed g.F.Files.told g.F.Files.faults g.G.Guests.faults g.G.E.Ears.ends g.G.E.Ears.faults g.G.E.Ears.unheard g.S.Source.left g.S.Source.faults g.O.Sink.held g.O.Sink.faults g.N.Random.drawn c.args.driver.now)
    _ c.args.one _ c.one.view_is
    (record {
      served = c.serve-rows.ensures.served;
      caused = record {
        source_count = c.serve-rows.ensures.source_count;
        sink_count = c.serve-rows.ensures.sink_count;
        source_fault = c.serve-rows.ensures.source_fault;
        sink_fault = c.serve-rows.ensures.sink_fault;
        complete = c.serve-rows.ensures.complete;
      };
      others = c.serve-rows.ensures.others;
      number = refl;
      gate = refl;
      may_serve = record { own = c.serve-rows.ensures.still_ready.0; ready = c.serve-rows.ensures.still_ready.1 };
    })
