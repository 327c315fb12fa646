use Rattle.std.proofs.Common.{List, arith, subst, sym}
use Rattle.std.specs.List.{All}
use Rattle.daemon.specs.Daemon.{DaemonView}
use Rattle.daemon.specs.Serving.{HasServedOne, Reported}
use Rattle.daemon.proofs.Keeping.{session_keeps}
use Rattle.daemon.proofs.Rows.{alone_all, passes_keep, passes_own, passes_ready, put_alone, put_back, put_back_all, put_back_whole, six_are_all, six_put_back}
use Rattle.daemon.proofs.Served.{served_by_none, served_by_six}
use Rattle.driver_service.specs.Below.driver.Cells.{IsRowOf}
use Rattle.driver_service.proofs.Below.driver_close.OneRow.{many_long, one_still_whole, whole_has}
use Rattle.driver_service.specs.Below.driver_close.Closed.{IsWhole}
use Rattle.driver_service.specs.Serving.{is_served}
use Rattle.driver_service.specs.Below.held_tasks.OfRows.{DriverRow, IsReadyRow}
use Rattle.service_spec.specs.Activities.{hand}
use Rattle.session_spec.specs.declared.end.End.TheVariants as end
use Rattle.daemon.proofs.daemon.Daemon.serve.Goals as goal

pub more-requires-clause-parts : goal.more-requires-clause-parts
more-requires-clause-parts g c = whole_has 6 c.self.inside.row (omega arith) c.self.invariant.1.slots c.self.invariant.2

pub close-requires-clause-own : goal.close-requires-clause-own
close-requires-clause-own g c =
    alone_all (IsRowOf c.self.inside.driver) c.push.new.self.list c.in-Err.row (put_alone c.self.inside.room.list c.push.new.self.list c.in-Err.row c.self.invariant.3 c.push.ensures.list)
    (passes_own c.self.inside.driver c.self.inside.row c.in-Err.row c.in-Err.ensures.passes c.self.invariant.0)

pub close-requires-clause-ready : goal.close-requires-clause-ready
close-requires-clause-ready g c =
    alone_all IsReadyRow c.push.new.self.list c.in-Err.row (put_alone c.self.inside.room.list c.push.new.self.list c.in-Err.row c.self.invariant.3 c.push.ensures.list)
    (passes_ready c.self.inside.row c.in-Err.row c.in-Err.ensures.passes c.self.invariant.1)

pub close-requires-clause-whole : goal.close-requires-clause-whole
close-requires-clause-whole g c =
    let alone = put_alone c.self.inside.room.list c.push.new.self.list c.in-Err.row c.self.invariant.3 c.push.ensures.list in
    subst (λ (l : List (DriverRow _)). IsWhole l) (sym alone) (one_still_whole c.self.inside.row c.in-Err.row (passes_keep c.self.inside.row c.in-Err.row c.in-Err.ensures.passes) c.self.invariant.2)

pub returns-in-Err-clause-served : goal.returns-in-Err-clause-served
returns-in-Err-clause-served g c =
    let was : Reported = record { left = g.S.Source.left c.args.source.now; held = g.O.Sink.held c.args.sink; drawn = g.R.Random.drawn c.args.random.now } in
    subst (λ (d : DaemonView _). HasServedOne g.F.Files.told g.K.Opening.sound g.F.Files.faults g.G.Guests.faults g.G.E.Ears.ends g.G.E.Ears.faults g.G.E.Ears.unheard
    c.args.session d.row was was end.NoMemory c.close.result)
    c.self.view_is
    (served_by_none g.F.Files.told g.K.Opening.sound g.F.Files.faults g.G.Guests.faults g.G.E.Ears.ends g.G.E.Ears.faults g.G.E.Ears.unheard c.args.session c.self.inside.row
    was c.close.result c.push.new.self.list c.in-Err.row c.in-Err.ensures.passes
    (put_alone c.self.inside.room.list c.push.new.self.list c.in-Err.row c.self.invariant.3 c.push.ensures.list) c.close.ensures)

pub serve-six-requires : goal.serve-six-requires
serve-six-requires g c =
    let six = c.take_six-six in
    let long = many_long g.F.Files.told g.G.Guests.faults 6 c.self.inside.row c.in-Ok.rows.list c.in-Ok.ensures.ok in
    let taken = six_are_all c.in-Ok.rows.list six.new.rows.list six.result long six.ensures.list in
    let own = subst (λ (l : List (DriverRow _)). All (IsRowOf c.self.inside.driver) l) taken c.in-Ok.ensures.own in
    let ready = subst (λ (l : List (DriverRow _)). All IsReadyRow l) taken c.in-Ok.ensures.ready in
    record { ready = (own 4 six.result.first (omega arith), ready 4 six.result.first (omega arith)) }

pub close-requires-2-clause-own : goal.close-requires-2-clause-own
close-requires-2-clause-own g c =
    let six = c.take_six-six in
    let long = many_long g.F.Files.told g.G.Guests.faults 6 c.self.inside.row c.in-Ok.rows.list c.in-Ok.ensures.ok in
    let taken = six_are_all c.in-Ok.rows.list six.new.rows.list six.result long six.ensures.list in
    let back = put_back six.result c.serve-six.result.0 c.put_six.new.rows.list c.serve-six.ensures.others (six_put_back c.in-Ok.rows.list six.new.rows.list c.put_six.new.rows.list six.result c.serve-six.result.0 long six.ensures.list c.put_six.ensures.list) in
    put_back_all (IsRowOf c.self.inside.driver) c.in-Ok.rows.list c.put_six.new.rows.list six.result c.serve-six.result.0.fifth taken back c.in-Ok.ensures.own c.serve-six.ensures.still_ready.0

pub close-requires-2-clause-ready : goal.close-requires-2-clause-ready
close-requires-2-clause-ready g c =
    let six = c.take_six-six in
    let long = many_long g.F.Files.told g.G.Guests.faults 6 c.self.inside.row c.in-Ok.rows.list c.in-Ok.ensures.ok in
    let taken = six_are_all c.in-Ok.rows.list six.new.rows.list six.result long six.ensures.list in
    let back = put_back six.result c.serve-six.result.0 c.put_six.new.rows.list c.serve-six.ensures.others (six_put_back c.in-Ok.rows.list six.new.rows.list c.put_six.new.rows.list six.result c.serve-six.result.0 long six.ensures.list c.put_six.ensures.list) in
    put_back_all IsReadyRow c.in-Ok.rows.list c.put_six.new.rows.list six.result c.serve-six.result.0.fifth taken back c.in-Ok.ensures.ready c.serve-six.ensures.still_ready.1

pub close-requires-2-clause-whole : goal.close-requires-2-clause-whole
close-requires-2-clause-whole g c =
    let six = c.take_six-six in
    let long = many_long g.F.Files.told g.G.Guests.faults 6 c.self.inside.row c.in-Ok.rows.list c.in-Ok.ensures.ok in
    let taken = six_are_all c.in-Ok.rows.list six.new.rows.list six.result long six.ensures.list in
    let back = put_back six.result c.serve-six.result.0 c.put_six.new.rows.list c.serve-six.ensures.others (six_put_back c.in-Ok.rows.list six.new.rows.list c.put_six.new.rows.list six.result c.serve-six.result.0 long six.ensures.list c.put_six.ensures.list) in
    let keeps = session_keeps g.F.Files.told g.F.Files.faults g.G.Guests.faults g.G.E.Ears.ends g.G.E.Ears.faults g.G.E.Ears.unheard is_served
    c.args.session (hand six.result.fifth (g.R.Random.drawn c.args.random.now)) (g.S.Source.left c.args.source.now) (g.S.Source.left c.serve-six.new.source)
    (g.O.Sink.held c.args.sink) (g.O.Sink.held c.serve-six.result.1) c.serve-six.result.2 (hand c.serve-six.result.0.fifth (g.R.Random.drawn c.serve-six.new.random)) c.serve-six.ensures.served in
    put_back_whole g.F.Files.told g.G.Guests.faults c.self.inside.row c.in-Ok.rows.list c.in-Ok.ensures.ok c.put_six.new.rows.list six.result c.serve-six.result.0.fifth
    taken back keeps (whole_has 6 c.self.inside.row (omega arith) c.self.invariant.1.slots c.self.invariant.2) c.self.invariant.1.slots c.self.invariant.2

pub returns-clause-served : goal.returns-clause-served
returns-clause-served g c =
    let six = c.take_six-six in
    let long = many_long g.F.Files.told g.G.Guests.faults 6 c.self.inside.row c.in-Ok.rows.list c.in-Ok.ensures.ok in
    let taken = six_are_all c.in-Ok.rows.list six.new.rows.list six.result long six.ensures.list in
    let was : Reported = record { left = g.S.Source.left c.args.source.now; held = g.O.Sink.held c.args.sink; drawn = g.R.Random.drawn c.args.random.now } in
    let is : Reported = record { left = g.S.Source.left c.serve-six.new.source; held = g.O.Sink.held c.serve-six.result.1; drawn = g.R.Random.drawn c.serve-six.new.random } in
    subst (λ (d : DaemonView _). HasServedOne g.F.Files.told g.K.Opening.sound g.F.Files.faults g.G.Guests.faults g.G.E.Ears.ends g.G.E.Ears.faults g.G.E.Ears.unheard
    c.args.session d.row was is c.serve-six.result.2 c.close-2.result)
    c.self.view_is
    (served_by_six g.F.Files.told g.K.Opening.sound g.F.Files.faults g.G.Guests.faults g.G.E.Ears.ends g.G.E.Ears.faults g.G.E.Ears.unheard c.args.session c.self.inside.row
    was is c.serve-six.result.2 c.close-2.result c.in-Ok.rows.list c.put_six.new.rows.list six.result c.serve-six.result.0.fifth c.in-Ok.ensures.ok taken
    (put_back six.result c.serve-six.result.0 c.put_six.new.rows.list c.serve-six.ensures.others (six_put_back c.in-Ok.rows.list six.new.rows.list c.put_six.new.rows.list six.result c.serve-six.result.0 long six.ensures.list c.put_six.ensures.list)) c.serve-six.ensures.served c.close-2.ensures)
