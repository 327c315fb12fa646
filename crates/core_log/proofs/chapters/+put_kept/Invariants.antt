use Rattle.std.proofs.Common.{length}
use Rattle.core_log.proofs.chapters.+put_kept.Given as goal

abbrev pub decreases-put_kept : goal.decreases-put_kept
decreases-put_kept l = length l.listeners.now
