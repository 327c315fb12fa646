use denote.Exit.{no}
use denote.Param.{param}
use denote.Param.Send.{arg_sync, param_sync}
use Rattle.domain_threads.proofs.Objects.{object_sync}
use Rattle.domain_threads.proofs.domain_is_shared.Goals as goal

pub is_shared-requires-sync-T : goal.is_shared-requires-sync-T
is_shared-requires-sync-T c κs = let may = κs.type_bounds in
    λ _ _. param_sync 0 _ (arg_sync _ no _ (object_sync (param 0 c.row.G) (param 1 c.row.G-M) (param 2 c.row.G-E) (param 3 c.row.G-Z) c.G.Guests c.G.M.Monitor c.G.E.Ears c.G.Z.Killer may.send-G-M may.send-G-E may.send-G-Z))
