use denote.Exit.{no}
use denote.Param.{param}
use denote.Param.Send.{arg_sync, param_sync}
use Rattle.driver_crossing.proofs.Crossing.{driver_sync}
use Rattle.driver_crossing.proofs.driver_is_shared.Goals as goal

pub is_shared-requires-sync-T : goal.is_shared-requires-sync-T
is_shared-requires-sync-T c κs =
    let F = param 0 c.row.F in
    let K = param 1 c.row.K in
    let G = param 2 c.row.G in
    let M = param 3 c.row.G-M in
    let E = param 4 c.row.G-E in
    let Z = param 5 c.row.G-Z in
    let may = κs.type_bounds in
    λ _ _. param_sync 0 _ (arg_sync _ no _ (driver_sync F K G M E Z c.F.Files c.K.Opening c.G.Guests c.G.M.Monitor c.G.E.Ears c.G.Z.Killer may.send-F may.send-G may.send-G-M may.send-G-E may.send-G-Z))
