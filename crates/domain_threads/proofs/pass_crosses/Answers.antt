use denote.Exit.{no}
use denote.Param.{param}
use denote.Param.Send.{arg_send, param_send}
use Rattle.domain_threads.proofs.Objects.{pass_send}
use Rattle.domain_threads.proofs.pass_crosses.Goals as goal

pub crosses-requires-send-T : goal.crosses-requires-send-T
crosses-requires-send-T c κs = let may = κs.type_bounds in
    λ _ _. param_send 0 _ (arg_send _ no _ (pass_send (param 0 c.row.G) (param 1 c.row.G-M) (param 2 c.row.G-E) (param 3 c.row.G-Z) c.G.Guests c.G.M.Monitor c.G.E.Ears c.G.Z.Killer may.send-G-M may.send-G-E may.send-G-Z))
