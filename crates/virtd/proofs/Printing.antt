-- What was put of a text, by whether the sink failed.
use Rattle.std.proofs.Common.{◌<◌, ℕ, List, Option, Result, Ok, Err, OnOk, OnErr, length, take}
use Rattle.std.specs.Io.KnownBytes.{Appends}
use Rattle.outside_spec.specs.Faults.{HasCause}
use Rattle.virt_types.specs.Below.types_base.declared.memory.Failed.{Failed}
use Rattle.virtd.specs.Printing.{HasPut}

pub has_put : {K : Type 0} (held : K → Option (List ℕ)) (faults : K → ℕ) (text : List ℕ) (was is : K) (result : Result (Unit {0}) Failed) → OnOk result (Appends (held was) (held is) text)
    → OnErr result ((n : ℕ) × (n < length text) × Appends (held was) (held is) (take n text)) → HasCause (faults was) (faults is) result → HasPut held faults text was is result
has_put held faults text was is (Ok done) whole front cause = whole
has_put held faults text was is (Err failed) whole front cause = record { rose = cause.failed; count = front.0; short = front.1; front = front.2 }
