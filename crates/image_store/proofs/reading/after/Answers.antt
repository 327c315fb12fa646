use Rattle.std.proofs.Common.{◌∙◌, ap, drop, ℕ}
use Rattle.image_store.proofs.Parts.{drop_within}
use Rattle.image_store.proofs.reading.after.Goals as goal

pub returns : goal.returns
returns c = c.split_at.ensures.back ∙ ap (λ (k : ℕ). drop k c.args.bytes.now) c.min.ensures ∙ drop_within c.args.count c.args.bytes.now
