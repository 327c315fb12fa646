use Rattle.std.proofs.Common.{sym, ◌∙◌, ap, subst, ◌≤◌, ◌<◌}
use Rattle.book_spec.specs.NetHistory.{open_chapter}
use Rattle.net_core.proofs.Chronicles.{opens_next, opens_same}
use Rattle.net_core.proofs.chronicle.Chronicle.open.Goals as goal

pub returns-then-self-ge-MOST_MARKS : goal.returns-then-self-ge-MOST_MARKS
returns-then-self-ge-MOST_MARKS c = c.next_chapter-self-inside.ensures ∙ (sym (opens_next c.self.inside.story.told (subst (λ n. 4096 ≤ n) c.self.invariant.marks_are c.if-self-ge-MOST_MARKS.true)) ∙ ap open_chapter c.self.view_is)

pub returns-else-self-ge-MOST_MARKS : goal.returns-else-self-ge-MOST_MARKS
returns-else-self-ge-MOST_MARKS c = sym (sym (ap open_chapter c.self.view_is) ∙ (opens_same c.self.inside.story.told (subst (λ n. n < 4096) c.self.invariant.marks_are c.if-self-ge-MOST_MARKS.false) ∙ c.self.view_is))
