use Rattle.std.specs.Prelude.{[], unwrap_or}
use Rattle.domain_texts.proofs.Titles.{line_has_none}
use Rattle.domain_texts.proofs.title.titles_are_lines.Goals as goal

pub returns : goal.returns
returns c = line_has_none (unwrap_or c.args.def.now.title [])
