use Rattle.std.proofs.Common.{◌-◌, length}
use Rattle.core_chapter.proofs.naming.+free_name.Given as goal

abbrev pub decreases-free_name : goal.decreases-free_name
decreases-free_name l = length l.snaps.now - l.tried
