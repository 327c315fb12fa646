use Rattle.std.proofs.Common.{arith, sym}
use Rattle.std.proofs.lemmas.Str.Pattern.{split_once_first}
use Rattle.std.proofs.Math.Seq.{take-length}
use Rattle.domain_texts.specs.Title.{first_line}
use Rattle.domain_texts.proofs.title.first_line.Goals as goal

pub returns-in-Some : goal.returns-in-Some
unfolding first_line
returns-in-Some c =
    let all = split_once_first 10 c.args.text.now c.split_once.result c.split_once.ensures.cases (omega arith) in
    let here = rw c.in-Some.is at all in here.1

pub returns-in-None : goal.returns-in-None
unfolding first_line
returns-in-None c =
    let all = split_once_first 10 c.args.text.now c.split_once.result c.split_once.ensures.cases (omega arith) in
    let here = rw c.in-None.is at all in rw here (sym (take-length c.args.text.now))
