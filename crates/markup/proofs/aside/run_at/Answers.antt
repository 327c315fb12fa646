use Rattle.markup.proofs.Runs.{run_within}
use Rattle.markup.proofs.aside.run_at.Goals as goal

pub returns-clause-within : goal.returns-clause-within
returns-clause-within c =
    run_within c.flaw-told.result c.args.chars.now _ _ c.run_length.result c.run_length.ensures.count
    c.split_at.ensures.front c.split_at.ensures.back c.requires c.run_then.result c.run_then.ensures.reads
