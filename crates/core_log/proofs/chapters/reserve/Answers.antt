use Rattle.std.proofs.Common.{◌+◌, ◌≤◌, List, length, subst}
use Rattle.std.specs.Prelude.{OnOk}
use Rattle.event_queue.specs.Listening.{Listening}
use Rattle.core_log.proofs.NextChapter.{enough}
use Rattle.core_log.proofs.chapters.reserve.Goals as goal

pub returns-clause-room : goal.returns-clause-room
returns-clause-room c =
    enough c.reserve.new.self c.args.listeners.now.listeners c.args.marks c.reserve.result
    (subst (λ (ls : List Listening). OnOk c.reserve.result (c.args.marks + length ls ≤ c.reserve.new.self.spare)) c.as_slice.ensures c.reserve.ensures.room)
