use Rattle.std.proofs.Common.{refl}
use Rattle.virtd.proofs.Printing.{has_put}
use Rattle.virtd.proofs.print.print.Goals as goal

pub returns : goal.returns
returns g c = record {
  connection = c.connection-source.result;
  sink = c.put_all-put.new.sink;
  put = has_put
      g.W.K.Sink.held
      g.W.K.Sink.faults
      c.args.text.now
      c.connection-source.result.sink
      c.put_all-put.new.sink
      c.put_all-put.result
      c.put_all-put.ensures.ok
      c.put_all-put.ensures.err
      c.put_all-put.ensures.cause;
  outside = rw (c.ended.ensures, c.connection-source.ensures) refl;
}
