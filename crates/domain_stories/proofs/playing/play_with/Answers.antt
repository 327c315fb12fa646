use denote.Exit.{no}
use denote.Param.{param}
use denote.Param.Send.{arg_send, arg_sync, param_send, param_sync}
use Rattle.domain_threads.proofs.Objects.{object_sync, pass_send}
use Rattle.domain_stories.proofs.playing.play_with.Goals as goal

-- what the threads share
pub play_on-requires-sync-O : goal.play_on-requires-sync-O
play_on-requires-sync-O g c κs within =
    let G = param 0 g.row.G in
    let M = param 2 g.row.G-M in
    let E = param 3 g.row.G-E in
    let Z = param 4 g.row.G-Z in
    let may = c.type_bounds in
    param_sync 0 _ (arg_sync _ no _ (object_sync G M E Z g.G.Guests g.G.M.Monitor g.G.E.Ears g.G.Z.Killer may.send-G-M may.send-G-E may.send-G-Z))

-- what each is handed
pub play_on-requires-send-O-Pass : goal.play_on-requires-send-O-Pass
play_on-requires-send-O-Pass g c κs within =
    let G = param 0 g.row.G in
    let M = param 2 g.row.G-M in
    let E = param 3 g.row.G-E in
    let Z = param 4 g.row.G-Z in
    let may = c.type_bounds in
    param_send 3 _ (arg_send _ no _ (pass_send G M E Z g.G.Guests g.G.M.Monitor g.G.E.Ears g.G.Z.Killer may.send-G-M may.send-G-E may.send-G-Z))
