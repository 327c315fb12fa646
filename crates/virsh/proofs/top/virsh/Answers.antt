use Rattle.std.proofs.Common.{inr, map}
use Rattle.std.specs.String.{string_bytes}
use Rattle.virsh.proofs.Doing.{does_it, no_job, not_served, otherwise}
use Rattle.virsh.proofs.Within.{within_job}
use Rattle.virsh.proofs.top.virsh.Goals as goal

pub do_job-requires-clause-within : goal.do_job-requires-clause-within
do_job-requires-clause-within g c = within_job (map string_bytes c.args.words.now) c.in-Ok.job c.in-Ok.ensures

pub do_job-requires-clause-served : goal.do_job-requires-clause-served
do_job-requires-clause-served g c = (c.is_served.ensures.yes c.if-is_served.true).0

pub returns-then-is_served-clause-usage : goal.returns-then-is_served-clause-usage
returns-then-is_served-clause-usage g c = λ two job asks. otherwise g.D.S.Source.left g.D.S.Source.faults g.D.K.Sink.held g.D.K.Sink.faults g.D.O.Sink.held g.D.O.Sink.faults c.in-Ok.job (g.D.Dial.given c.args.dial.now) (g.D.Dial.given c.do_job.new.dial) c.do_job.result c.do_job.ensures two

pub returns-then-is_served-clause-said : goal.returns-then-is_served-clause-said
returns-then-is_served-clause-said g c = λ two. absurd (otherwise g.D.S.Source.left g.D.S.Source.faults g.D.K.Sink.held g.D.K.Sink.faults g.D.O.Sink.held g.D.O.Sink.faults c.in-Ok.job (g.D.Dial.given c.args.dial.now) (g.D.Dial.given c.do_job.new.dial) c.do_job.result c.do_job.ensures two)

pub returns-then-is_served-clause-no_job : goal.returns-then-is_served-clause-no_job
returns-then-is_served-clause-no_job g c = λ none.
    let served = c.is_served.ensures.yes c.if-is_served.true in
    absurd (none c.in-Ok.job (record { job_is = c.in-Ok.ensures; command = served.0; option = served.1 }))

pub returns-then-is_served-clause-does : goal.returns-then-is_served-clause-does
returns-then-is_served-clause-does g c = does_it g.D.S.Source.left g.D.S.Source.faults g.D.K.Sink.held g.D.K.Sink.faults g.D.O.Sink.held g.D.O.Sink.faults (map string_bytes c.args.words.now) c.in-Ok.job (g.D.Dial.given c.args.dial.now) (g.D.Dial.given c.do_job.new.dial) c.do_job.result c.in-Ok.ensures c.do_job.ensures

pub returns-in-Ok-clause-usage : goal.returns-in-Ok-clause-usage
returns-in-Ok-clause-usage g c = λ two. not_served (map string_bytes c.args.words.now) c.in-Ok.job c.in-Ok.ensures (c.is_served.ensures.no c.if-is_served.false)

pub returns-in-Ok-clause-does : goal.returns-in-Ok-clause-does
returns-in-Ok-clause-does g c = λ job asks. absurd (not_served (map string_bytes c.args.words.now) c.in-Ok.job c.in-Ok.ensures (c.is_served.ensures.no c.if-is_served.false) job asks)

pub returns-in-Err-Fault-clause-usage : goal.returns-in-Err-Fault-clause-usage
returns-in-Err-Fault-clause-usage g c = λ two. no_job (map string_bytes c.args.words.now) _ (rw c.in-Err-Fault.field-0-is at c.in-Err-Fault.ensures)

pub returns-in-Err-Fault-clause-does : goal.returns-in-Err-Fault-clause-does
returns-in-Err-Fault-clause-does g c = λ job asks. absurd (no_job (map string_bytes c.args.words.now) _ (rw c.in-Err-Fault.field-0-is at c.in-Err-Fault.ensures) job asks)

pub returns-clause-no_job : goal.returns-clause-no_job
returns-clause-no_job g c = λ none. inr c.out_of_memory.ensures

pub returns-clause-does : goal.returns-clause-does
returns-clause-does g c = λ job asks. inr c.out_of_memory.ensures
