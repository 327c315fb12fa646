-- Tests of calls that are judged without memory.
use Rattle.domain_spec.specs.declared.testing.Test.{Test}
use Rattle.core_rules.specs.declared.checks.Check.{Check}
use Rattle.core_rules.specs.Reasons.{refusal_for}

-- the test, with its refusal
abbrev pub test_of : Check → Test
test_of check = record { fails = check.fails; refusal = refusal_for check.reason }
