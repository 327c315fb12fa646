use Rattle.std.proofs.Common.{List, arith, subst}
use Rattle.std.proofs.lemmas.Slice.Zip.{AllZip-long}
use Rattle.std.specs.List.{All}
use Rattle.driver_crossing.specs.Below.driver.Cells.{IsRowOf}
use Rattle.driver_sessions.proofs.Rows.{may_serve, rows_had, rows_kept}
use Rattle.driver_sessions.specs.Serving.{IsServed}
use Rattle.driver_crossing.specs.Below.held_tasks.OfRows.{DriverRow, IsReadyRow}
use Rattle.driver_sessions.proofs.serving.serve_all.Goals as goal

pub serve_seated-requires-after_bounds : goal.serve_seated-requires-after_bounds
serve_seated-requires-after_bounds g c κs within =
    let seats = c.seat_all-rows in
    may_serve c.args.driver.now seats.result.1.items (subst (λ (l : List (DriverRow _)). All (IsRowOf c.args.driver.now) l) seats.ensures.rows c.requires.own)
    (subst (λ (l : List (DriverRow _)). All IsReadyRow l) seats.ensures.rows c.requires.ready)

pub unseat_all-requires-clause-rows : goal.unseat_all-requires-clause-rows
unseat_all-requires-clause-rows g c =
    omega (
      arith,
      AllZip-long (IsServed g.F.Files.told g.F.Files.faults g.G.Guests.faults g.G.E.Ears.ends g.G.E.Ears.faults g.G.E.Ears.unheard g.S.Source.left g.S.Source.faults g.O.Sink.held g.O.Sink.faults g.N.Random.drawn c.args.driver.now)
          c.seat_all-rows.result.1.items c.in-Ok.over.items c.in-Ok.ensures,
      c.seat_all-rows.ensures.room,
      c.seat_all-rows.result.1.ok,
      c.in-Ok.over.ok,
    )

pub unseat_all-requires-clause-room : goal.unseat_all-requires-clause-room
unseat_all-requires-clause-room g c =
    omega (
      arith,
      AllZip-long (IsServed g.F.Files.told g.F.Files.faults g.G.Guests.faults g.G.E.Ears.ends g.G.E.Ears.faults g.G.E.Ears.unheard g.S.Source.left g.S.Source.faults g.O.Sink.held g.O.Sink.faults g.N.Random.drawn c.args.driver.now)
          c.seat_all-rows.result.1.items c.in-Ok.over.items c.in-Ok.ensures,
      c.seat_all-rows.ensures.count,
      c.len-count.ensures,
      c.in_ok-room.ensures.room,
      c.seat_all-rows.result.1.ok,
      c.in-Ok.over.ok,
    )

pub returns-in-Ok-clause-served : goal.returns-in-Ok-clause-served
returns-in-Ok-clause-served g c = record {
  seated = c.seat_all-rows.result.1.items;
  over = c.in-Ok.over.items;
  rows_are = c.seat_all-rows.ensures.rows;
  sessions_are = c.seat_all-rows.ensures.holders;
  each = c.in-Ok.ensures;
  back_are = c.unseat_all.ensures.rows;
  served_are = c.unseat_all.ensures.holders;
}

pub returns-in-Ok-clause-parts : goal.returns-in-Ok-clause-parts
returns-in-Ok-clause-parts g c =
    rows_kept g.F.Files.told g.F.Files.faults g.G.Guests.faults g.G.E.Ears.ends g.G.E.Ears.faults g.G.E.Ears.unheard g.S.Source.left g.S.Source.faults g.O.Sink.held g.O.Sink.faults g.N.Random.drawn c.args.driver.now c.args.rows.list c.unseat_all.result.0.list c.seat_all-rows.result.1.items c.in-Ok.over.items c.seat_all-rows.ensures.rows c.in-Ok.ensures c.unseat_all.ensures.rows

pub returns-in-Ok-clause-own : goal.returns-in-Ok-clause-own
returns-in-Ok-clause-own g c =
    rows_had g.F.Files.told g.F.Files.faults g.G.Guests.faults g.G.E.Ears.ends g.G.E.Ears.faults g.G.E.Ears.unheard g.S.Source.left g.S.Source.faults g.O.Sink.held g.O.Sink.faults g.N.Random.drawn c.args.driver.now c.args.rows.list c.unseat_all.result.0.list c.seat_all-rows.result.1.items c.in-Ok.over.items c.seat_all-rows.ensures.rows c.in-Ok.ensures c.unseat_all.ensures.rows
    (IsRowOf c.args.driver.now) (λ six may. may.own) c.requires.own

pub returns-in-Ok-clause-ready : goal.returns-in-Ok-clause-ready
returns-in-Ok-clause-ready g c =
    rows_had g.F.Files.told g.F.Files.faults g.G.Guests.faults g.G.E.Ears.ends g.G.E.Ears.faults g.G.E.Ears.unheard g.S.Source.left g.S.Source.faults g.O.Sink.held g.O.Sink.faults g.N.Random.drawn c.args.driver.now c.args.rows.list c.unseat_all.result.0.list c.seat_all-rows.result.1.items c.in-Ok.over.items c.seat_all-rows.ensures.rows c.in-Ok.ensures c.unseat_all.ensures.rows
    IsReadyRow (λ six may. may.ready) c.requires.ready
