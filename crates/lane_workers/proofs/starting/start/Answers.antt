use denote.Exit.{no}
use denote.Param.{param}
use denote.Param.Send.{arg_send, param_send}
use Rattle.lane_workers.proofs.Crossing.{worked_send, worker_send}
use Rattle.lane_workers.proofs.starting.start.Goals as goal

pub post-requires-send-J : goal.post-requires-send-J
post-requires-send-J g c κs within =
    let may = c.type_bounds in
    param_send 4 _ (arg_send _ no _ (worker_send (param 3 g.row.K) g.K.Sink may.send-K (param 4 g.row.D-Piece) (param 5 g.row.D-Row) may.send-D-Piece may.send-D-Row))

pub post-requires-send-X : goal.post-requires-send-X
post-requires-send-X g c κs within =
    let may = c.type_bounds in
    param_send 5 _ (arg_send _ no _ (worked_send (param 3 g.row.K) g.K.Sink may.send-K (param 4 g.row.D-Piece) (param 5 g.row.D-Row) may.send-D-Piece may.send-D-Row))
