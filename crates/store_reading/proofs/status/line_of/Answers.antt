use Rattle.store_reading.proofs.Telling.{line_job, line_name, line_phase, line_state}
use Rattle.store_reading.proofs.status.line_of.Goals as goal

pub returns-in-None-state_of : goal.returns-in-None-state_of
returns-in-None-state_of c = line_state c.args.bytes.now c.in-Some.read c.in-Some.ensures c.in-None-state_of.ensures

pub returns-in-None-job_of : goal.returns-in-None-job_of
returns-in-None-job_of c = line_job c.args.bytes.now c.in-Some.read c.in-Some-state_of.read c.in-Some.ensures c.in-Some-state_of.ensures c.in-None-job_of.ensures

pub returns-in-None-phase_of : goal.returns-in-None-phase_of
returns-in-None-phase_of c = line_phase c.args.bytes.now c.in-Some.read c.in-Some-state_of.read c.in-Some-job_of.read c.in-Some.ensures c.in-Some-state_of.ensures c.in-Some-job_of.ensures c.in-None-phase_of.ensures

pub returns-in-None-named : goal.returns-in-None-named
returns-in-None-named c = line_name c.args.bytes.now c.in-Some.read c.in-Some-state_of.read c.in-Some-job_of.read c.in-Some-phase_of.read c.in-Some.ensures c.in-Some-state_of.ensures c.in-Some-job_of.ensures c.in-Some-phase_of.ensures c.in-None-named.ensures
