use Rattle.std.proofs.Common.{ℕ, List, take, subst, sym}
use Rattle.virsh_text.specs.Objects.{JobsPrint}
use Rattle.virsh_text.proofs.Jobs.{all_jobs, no_job, no_jobs, one_more}
use Rattle.virsh_text.proofs.image.jobs_text.Goals as goal

pub loop-value-init : goal.loop-value-init
loop-value-init c = no_jobs _ c.new-text.ensures.bytes

pub loop-value-preserved : goal.loop-value-preserved
loop-value-preserved c = one_more c.args.values.now c.loop-value.value-index c.value-item.result c.in-Job.job _ _ c.loop-value-test.true c.value-item.is c.in-Job.is c.in_ok-push_job-in-Job.ensures c.loop-value.invariant

pub returns-in_default : goal.returns-in_default
returns-in_default c = no_job c.args.values.now c.loop-value.value-index c.value-item.result c.loop-value-test.true c.value-item.is c.in_default.not-Job

pub returns : goal.returns
returns c = all_jobs c.args.values.now c.loop-value.value-index _ c.loop-value-test.false (subst (λ (t : List ℕ). JobsPrint (take c.loop-value.value-index c.args.values.now) t) (sym c.of.ensures) c.loop-value.invariant)
