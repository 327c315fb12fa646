use Rattle.std.proofs.Common.{◌∙◌, ap, length, arith}
use Rattle.turn_cell.proofs.Moves.{put_back-publishes, published_as, published-passes, passed-rests}
use Rattle.turn_cell.proofs.steps.pass_on.Goals as goal

pub store-requires : goal.store-requires
store-requires g c =
    let put = c.exchange.ensures in
    (put.0 ∙ c.requires.own.0, omega (arith, c.requires.own.1), put_back-publishes g.T.Kept.meaning g.met.T.Kept.no_mark_lowers g.met.T.Kept.new_base_keeps _ _ c.args.seat.now.me _ c.args.home _ put.3 c.requires.turn (c.marks-marks.ensures ∙ ap (λ (x : g.row.T.Denot). length (g.T.Kept.meaning.history x).marks) c.get.ensures))

pub fetch_add-ticket-requires : goal.fetch_add-ticket-requires
fetch_add-ticket-requires g c =
    let put = c.exchange.ensures in
    let told = c.store.ensures in
    (told.0 ∙ (put.0 ∙ c.requires.own.0), omega (arith, c.requires.own.1), published-passes g.T.Kept.meaning _ _ c.args.seat.now.me c.store.new.seat.me c.args.home (published_as g.T.Kept.meaning c.args.seat.now.me c.exchange.new.seat.me c.store.new.seat.me c.args.home c.marks-marks.result put.3 c.requires.turn.turn told.2) c.requires.turn.turn)

pub returns-clause-rests : goal.returns-clause-rests
returns-clause-rests g c =
    let put = c.exchange.ensures in
    let told = c.store.ensures in
    let left = published_as g.T.Kept.meaning c.args.seat.now.me c.exchange.new.seat.me c.store.new.seat.me c.args.home c.marks-marks.result put.3 c.requires.turn.turn told.2 in
    passed-rests g.T.Kept.meaning c.fetch_add-ticket.result c.args.seat.now.me c.store.new.seat.me c.fetch_add-ticket.new.seat.me c.args.home left c.requires.turn.turn c.fetch_add-ticket.ensures.2
