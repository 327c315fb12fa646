use Rattle.std.proofs.Common.{◌≡◌, true, false}
use Rattle.store_check.proofs.Owning.{no_own_text}
use Rattle.store_check.proofs.judging.is_own_text.Goals as goal

pub returns-in-Ok-None-read_stored : goal.returns-in-Ok-None-read_stored
returns-in-Ok-None-read_stored c = (
  λ no. let never : false ≡ true = no in absurd cc,
  λ own. absurd (no_own_text c.args.bytes.now c.args.uuid c.in-Ok-Some.read.version c.in-Ok-Some.read.entry
      (rw c.in-Ok-Some.field-0-is at c.in-Ok-Some.ensures) (rw c.in-Ok-None-read_stored.field-0-is at c.in-Ok-None-read_stored.ensures.stored) own),
)
