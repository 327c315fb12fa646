-- The passes own nothing, so threads may share them.
use denote.Param.Send.{IsSync, part_keyless}
use Rattle.job_rules.specs.contracts.passes.Passes.{the_row}
use Rattle.job_rules.proofs.passes.Passes.TheSendSync.Send.{send}

pub sync : IsSync the_row
sync = record { shared = λ d b o κ q. part_keyless the_row send q d b o }
