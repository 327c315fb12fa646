use Rattle.std.proofs.Common.{refl}
use Rattle.virtd.proofs.serving.serve_daemon.Goals as goal

pub returns-clause-connects : goal.returns-clause-connects
returns-clause-connects g c = record {
  connection = c.connection-source.result;
  given = record { source = c.run-sink.new.source; sink = c.run-sink.result.sink; random = c.run-sink.new.random };
  end = c.run-sink.result.end;
  closed = c.run-sink.result.closed;
  run = c.run-sink.ensures.run;
  code_is = c.status_of.ensures.status;
  outside = rw (c.give_back-files.ensures.given, c.say_end.ensures, c.ended.ensures, c.run-sink.ensures.given, c.connection-source.ensures) refl;
  back_is = c.give_back-files.ensures.files;
}
