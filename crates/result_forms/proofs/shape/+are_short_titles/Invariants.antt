use Rattle.std.proofs.Common.{length}
use Rattle.result_forms.proofs.shape.+are_short_titles.Given as goal

abbrev pub decreases-are_short_titles : goal.decreases-are_short_titles
decreases-are_short_titles l = length l.rows.now
