use Rattle.std.proofs.Common.{rules, subst, sym, tests}
use Rattle.std.proofs.lemmas.Iterator.Consumers.{fold_from_yields_List}
use Rattle.std.proofs.lemmas.Iterator.Splits.{YieldsList-from_slice_split}
use Rattle.daemon_settings.specs.Lines.{IsCount, lines_of}
use Rattle.daemon_settings.proofs.Counts.{last_is_count}
use Rattle.daemon_settings.proofs.reading.last_sessions.Goals as goal

pub returns-clause-last : goal.returns-clause-last
returns-clause-last c = fold_from_yields_List _ _ _ _ c.fold.ensures.ran
    (YieldsList-from_slice_split _ _ c.args.bytes.now c.split.ensures.rest c.split.ensures.done c.split.ensures.closure (λ x r q k. search (rules, tests)))
    (λ a x b q k. search (rules, tests))

pub returns-clause-count : goal.returns-clause-count
returns-clause-count c = subst IsCount (sym (returns-clause-last c)) (last_is_count (lines_of c.args.bytes.now))
