use Rattle.driver_sessions.proofs.Ended.{closed_by}
use Rattle.driver_sessions.proofs.Whole.{back_some, back_whole}
use Rattle.driver_sessions.proofs.closing.serve_by.Goals as goal

pub close_all-requires-clause-some : goal.close_all-requires-clause-some
close_all-requires-clause-some g c = back_some c.args.rows.list c.in-Some.back.list c.in-Some.ensures.parts c.requires.some

pub close_all-requires-clause-whole : goal.close_all-requires-clause-whole
close_all-requires-clause-whole g c = back_whole c.args.rows.list c.in-Some.back.list c.in-Some.ensures.parts c.requires.whole

pub returns-in-Some : goal.returns-in-Some
returns-in-Some g c =
    closed_by g.F.Files.told g.K.Opening.sound g.F.Files.faults g.G.Guests.faults g.G.E.Ears.ends g.G.E.Ears.faults g.G.E.Ears.unheard g.S.Source.left g.S.Source.faults g.O.Sink.held g.O.Sink.faults g.N.Random.drawn c.args.driver c.args.rows.list c.args.sessions.items c.in-Some.back.list c.in-Some.served c.in-Some.ensures.served
    c.close_all.result c.close_all.ensures.closed c.close_all.ensures.safe c.close_all.ensures.served
