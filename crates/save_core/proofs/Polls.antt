-- A poll that is not given up before it.
use Rattle.std.proofs.Common.{◌≡◌, Bool, true, false, ◌||◌, if◌then◌else◌, List, Option, refl, subst}
use Rattle.domain_spec.specs.Types.{AnswerValue, Domain, Op, State, Transition}
use Rattle.domain_spec.specs.declared.step.PhaseStep.{PhaseStep}
use Rattle.domain_spec.specs.CopyResult.{left_in, poll_done, poll_step}
use Rattle.domain_spec.specs.PhaseAsks.{is_stalled}
use Rattle.core_rules.specs.declared.ends.PhaseEnd.{PhaseEnd}
use Rattle.save_core.specs.Leaving.{IsLeft}

last_of : (a b : Bool) (x y z : PhaseStep) → a ≡ false → b ≡ false → z ≡ (if a then x else if a || b then y else z)
last_of false false x y z e f = refl
last_of false true x y z e f = cc
last_of true b x y z e f = cc

pub polled :
    (d : Domain) (op : Op) (v : Option AnswerValue) (now : State) (before after : List Transition) (end : PhaseEnd)
    → op.abort ≡ false → is_stalled op ≡ false
    → IsLeft (poll_done d op (left_in v)) now before after end → IsLeft (poll_step d op v) now before after end
polled d op v now before after end e f h =
    subst (λ (step : PhaseStep). IsLeft step now before after end) (last_of op.abort (is_stalled op) _ _ (poll_done d op (left_in v)) e f) h
