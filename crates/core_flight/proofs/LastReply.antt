-- What the caller of an operation is told where it ends.
use Rattle.std.proofs.Common.{◌≡◌, inl, inr}
use Rattle.domain_spec.specs.Types.{Reply}
use Rattle.domain_spec.specs.Types.reply
use Rattle.domain_spec.specs.Refusals.{no_memory}
use Rattle.core_flight.specs.Operations.{IsToldAtEnd}

pub told_so : (r told : Reply) → told ≡ r → IsToldAtEnd r told
told_so r told e = inl e

pub told_none : (r told : Reply) → told ≡ reply.No no_memory → IsToldAtEnd r told
told_none r told e = inr e
