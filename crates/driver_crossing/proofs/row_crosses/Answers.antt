use denote.Exit.{no}
use denote.Param.{param}
use denote.Param.Send.{arg_send, param_send}
use Rattle.driver_crossing.proofs.Crossing.{row_send}
use Rattle.driver_crossing.proofs.row_crosses.Goals as goal

pub crosses-requires-send-T : goal.crosses-requires-send-T
crosses-requires-send-T c κs =
    let F = param 0 c.row.F in
    let K = param 1 c.row.K in
    let G = param 2 c.row.G in
    let M = param 3 c.row.G-M in
    let E = param 4 c.row.G-E in
    let Z = param 5 c.row.G-Z in
    let may = κs.type_bounds in
    λ _ _. param_send 0 _ (arg_send _ no _ (row_send F K G M E Z c.F.Files c.K.Opening c.G.Guests c.G.M.Monitor c.G.E.Ears c.G.Z.Killer may.send-F may.send-G may.send-G-M may.send-G-E may.send-G-Z))
