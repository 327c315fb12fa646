use denote.Exit.{no}
use denote.Param.{param}
use denote.Param.Send.{arg_send, arg_sync, param_send, param_sync}
use Rattle.driver_crossing.proofs.Crossing.{driver_sync}
use Rattle.driver_sessions.proofs.Crossing.{seated_send}
use Rattle.driver_sessions.proofs.session.Served.TheSendSync as over
use Rattle.driver_sessions.proofs.session.Session.TheSendSync as session
use Rattle.driver_sessions.specs.contracts.session.Served
use Rattle.driver_sessions.specs.contracts.session.Session
use Rattle.driver_sessions.proofs.serving.serve_seated.Goals as goal

-- what the threads share
pub do_all-requires-sync-C : goal.do_all-requires-sync-C
do_all-requires-sync-C g c κs within =
    let F = param 1 g.row.F in
    let K = param 2 g.row.K in
    let G = param 3 g.row.G in
    let M = param 8 g.row.G-M in
    let E = param 9 g.row.G-E in
    let Z = param 10 g.row.G-Z in
    let may = c.type_bounds in
    param_sync 1 _ (arg_sync _ no _ (driver_sync F K G M E Z g.F.Files g.K.Opening g.G.Guests g.G.M.Monitor g.G.E.Ears g.G.Z.Killer may.send-F may.send-G may.send-G-M may.send-G-E may.send-G-Z))

-- what each is handed
pub do_all-requires-send-J : goal.do_all-requires-send-J
do_all-requires-send-J g c κs within =
    let F = param 1 g.row.F in
    let K = param 2 g.row.K in
    let G = param 3 g.row.G in
    let S = param 4 g.row.S in
    let O = param 5 g.row.O in
    let N = param 6 g.row.N in
    let T = param 7 g.row.T in
    let M = param 8 g.row.G-M in
    let E = param 9 g.row.G-E in
    let Z = param 10 g.row.G-Z in
    let may = c.type_bounds in
    param_send 2 _ (arg_send _ no _ (seated_send F K G M E Z g.F.Files g.K.Opening g.G.Guests g.G.M.Monitor g.G.E.Ears g.G.Z.Killer may.send-F may.send-G may.send-G-M may.send-G-E may.send-G-Z
    (Session.the_row S O N T) (session.the_send S O N T may.send-S may.send-O may.send-N may.send-T)))

-- what each hands back
pub do_all-requires-send-X : goal.do_all-requires-send-X
do_all-requires-send-X g c κs within =
    let F = param 1 g.row.F in
    let K = param 2 g.row.K in
    let G = param 3 g.row.G in
    let S = param 4 g.row.S in
    let O = param 5 g.row.O in
    let N = param 6 g.row.N in
    let T = param 7 g.row.T in
    let M = param 8 g.row.G-M in
    let E = param 9 g.row.G-E in
    let Z = param 10 g.row.G-Z in
    let may = c.type_bounds in
    param_send 3 _ (arg_send _ no _ (seated_send F K G M E Z g.F.Files g.K.Opening g.G.Guests g.G.M.Monitor g.G.E.Ears g.G.Z.Killer may.send-F may.send-G may.send-G-M may.send-G-E may.send-G-Z
    (Served.the_row S O N T) (over.the_send S O N T may.send-S may.send-O may.send-N may.send-T)))
