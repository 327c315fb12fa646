use Rattle.std.proofs.Common.{rules}
use Rattle.core_log.proofs.OneByOne.{rest_fits, rest_legal}
use Rattle.core_log.proofs.telling.+cut_all.Goals as goal

pub cut_all-requires : goal.cut_all-requires
cut_all-requires t c = (
  search rules,
  (
    rest_fits c.args.cuts.now c.args.ledger.now.spare c.cut.new.self.spare c.in-len1-up.len_at_least c.requires.room c.cut.ensures.spare,
    rest_legal c.args.ledger.now.history c.cut.new.self.history c.args.cuts.now c.in-len1-up.len_at_least c.cut.ensures.history c.requires.legal,
  ),
)
