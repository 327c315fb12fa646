use Rattle.std.proofs.Common.{◌∙◌, ap, take, ℕ}
use Rattle.image_store.proofs.Parts.{take_within}
use Rattle.image_store.proofs.reading.front.Goals as goal

pub returns : goal.returns
returns c = c.split_at.ensures.front ∙ ap (λ (k : ℕ). take k c.args.bytes.now) c.min.ensures ∙ take_within c.args.count c.args.bytes.now
