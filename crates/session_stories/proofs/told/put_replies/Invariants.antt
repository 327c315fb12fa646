use Rattle.std.proofs.Common.{length}
use Rattle.session_stories.proofs.told.put_replies.Given as goal

abbrev pub decreases-loop-reply : goal.decreases-loop-reply
decreases-loop-reply l = length l.feed.ready
