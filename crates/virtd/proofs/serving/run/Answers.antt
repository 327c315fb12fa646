use Rattle.std.proofs.Common.{refl, true, false}
use Rattle.virtd.proofs.serving.run.Goals as goal

pub returns-then-goes_on-clause-run : goal.returns-then-goes_on-clause-run
returns-then-goes_on-clause-run g c = record {
  then = c.begin-daemon.result.0.row;
  words = g.W.R.Random.drawn c.begin-daemon.new.random;
  on = true;
  begins = rw c.if-goes_on.true at c.begin-daemon.ensures.begins;
  went = record {
    served = c.serve.ensures.served;
    source_fault = c.serve.ensures.source_fault;
    sink_fault = c.serve.ensures.sink_fault;
    complete = c.serve.ensures.complete;
  };
}

pub returns-clause-run : goal.returns-clause-run
returns-clause-run g c = record {
  then = c.begin-daemon.result.0.row;
  words = g.W.R.Random.drawn c.begin-daemon.new.random;
  on = false;
  begins = rw c.if-goes_on.false at c.begin-daemon.ensures.begins;
  went = record { memory = refl; source_same = refl; sink_same = refl; words_same = refl; ended = c.close.ensures };
}
