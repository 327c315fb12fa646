use Rattle.std.proofs.Common.{arith}
use Rattle.row_session.proofs.Counting.{ready_few}
use Rattle.row_session.proofs.Courses.{piece_lost}
use Rattle.row_session.proofs.calls.Calls.serve_piece.Goals as goal

pub serve_taken-requires-clause-few : goal.serve_taken-requires-clause-few
serve_taken-requires-clause-few g c =
    let few = ready_few c.take_in.new.feed.ready c.take_in.new.feed.rest c.args.feed.now.ready c.args.feed.now.rest c.args.piece.now c.requires.none_ready c.in-Ok.ensures.grows in
    omega (arith, few, c.requires.few)

pub returns-in-Err-clause-some : goal.returns-in-Err-clause-some
returns-in-Err-clause-some g c = piece_lost _ _ _ _ _
