use Rattle.std.proofs.Common.{map}
use Rattle.std.specs.String.{string_bytes}
use Rattle.daemon_words.specs.Commands.{Demo, Stdio}
use Rattle.virtd.proofs.Words.{none_is_daemon, one_directory}
use Rattle.virtd.specs.Words.{AsksFor}
use Rattle.virtd.proofs.top.virtd.Goals as goal

pub returns-in-None-clause-usage : goal.returns-in-None-clause-usage
returns-in-None-clause-usage g c = (λ usage. none_is_daemon _ c.in-None.ensures, λ none. c.usage-in-None.ensures.code)

pub returns-in-None-clause-demo : goal.returns-in-None-clause-demo
returns-in-None-clause-demo g c demo = absurd (c.in-None.ensures Demo demo.0 demo.1)

pub returns-in-None-clause-stdio : goal.returns-in-None-clause-stdio
returns-in-None-clause-stdio g c directory stdio = absurd (c.in-None.ensures (Stdio directory) stdio.0 stdio.1)

pub returns-in-Some-Stdio-clause-stdio : goal.returns-in-Some-Stdio-clause-stdio
returns-in-Some-Stdio-clause-stdio g c directory is =
    let words = map string_bytes c.args.words.now in
    let asks : AsksFor words (Stdio c.in-Some-Stdio.directory.now) = rw c.in-Some-Stdio.field-0-is at c.in-Some-Stdio.ensures in
    rw (one_directory words c.in-Some-Stdio.directory.now directory asks is) at c.serve_directory.ensures.serves
