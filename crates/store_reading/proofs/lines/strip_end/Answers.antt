use Rattle.std.proofs.lemmas.Bool.Decides.{Decides-eqb}
use Rattle.std.proofs.lemmas.Slice.Eq.{strip_suffix_is}
use Rattle.store_reading.proofs.Cutting.{ends_of}
use Rattle.store_reading.proofs.lines.strip_end.Goals as goal

pub returns : goal.returns
returns c = ends_of c.args.ending.now c.args.bytes.now c.strip_suffix.result (strip_suffix_is Decides-eqb c.args.bytes.now c.args.ending.now c.strip_suffix.result c.strip_suffix.ensures.cases)
