-- Reasons of refusals that no text of a caller is kept of, and the refusals that they make.
use Rattle.virt_types.specs.Numbers.{state_word}
use Rattle.domain_spec.specs.Types.{Refusal}
use Rattle.domain_spec.specs.Types.code
use Rattle.domain_spec.specs.Refusals.{bad_kick, bare, boots_spent, failed, guest_ended, list_full, out_of_range, refusal, stalled}
use Rattle.core_rules.specs.declared.reason.Reason.{Reason}
use Rattle.core_rules.specs.declared.reason.Reason.TheVariants as why

-- the refusal for this reason
abbrev pub refusal_for : Reason → Refusal
refusal_for (why.Bare c) = bare c
refusal_for (why.Invalid state) = refusal code.OperationInvalid (state_word state)
refusal_for (why.OutOfRange n low high) = out_of_range n low high
refusal_for (why.BadKick n is_low) = bad_kick n is_low
refusal_for (why.Failed class) = failed class
refusal_for (why.GuestEnded boot) = guest_ended boot
refusal_for (why.ListFull most) = list_full most
refusal_for (why.Stalled rest) = stalled rest
refusal_for why.BootsSpent = boots_spent
