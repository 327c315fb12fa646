-- A report owns nothing, so threads may share it.
use denote.Param.Send.{IsSync, part_keyless}
use Rattle.domain_stories.specs.contracts.report.Report.{the_row}
use Rattle.domain_stories.proofs.report.Report.TheSendSync.Send.{send}

pub sync : IsSync the_row
sync = record { shared = λ d b o κ q. part_keyless the_row send q d b o }
