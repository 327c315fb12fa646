-- What is said owns nothing, so threads may share it.
use denote.RattleType.{RattleType}
use denote.Param.Send.{IsSync, part_keyless}
use Rattle.types_ghost.specs.contracts.said.Said.{the_row}
use Rattle.types_ghost.proofs.said.Said.TheSendSync.Send.{send}

pub sync : (A : RattleType) → IsSync (the_row A)
sync A = record { shared = λ d b o κ q. part_keyless (the_row A) (send A) q d b o }
