use Rattle.std.proofs.Common.{◌≡◌, ◌*◌, ℕ, arith, length, subst}
use Rattle.driver_crossing.specs.Below.driver.Cells.{BecomesMany}
use Rattle.driver_sessions.proofs.Ended.{served_all}
use Rattle.driver_sessions.proofs.closing.serve_and_close.Goals as goal

pub returns-in-Some : goal.returns-in-Some
returns-in-Some g c =
    let so_many : 6 * c.len-count.result ≡ 6 * length c.args.sessions.items = omega (arith, c.len-count.ensures, c.args.sessions.ok) in
    served_all g.F.Files.told g.K.Opening.sound g.F.Files.faults g.G.Guests.faults g.G.E.Ears.ends g.G.E.Ears.faults g.G.E.Ears.unheard g.S.Source.left g.S.Source.faults g.O.Sink.held g.O.Sink.faults g.N.Random.drawn c.args.driver c.in-Some.rows.list c.args.sessions.items c.args.row
    (subst (λ (n : ℕ). BecomesMany g.F.Files.told g.G.Guests.faults n c.args.row c.in-Some.rows.list) so_many c.in-Some.ensures.made)
    c.serve_by.result c.serve_by.ensures
