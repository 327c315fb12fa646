-- What is printed on standard output.
use Rattle.std.specs.Prelude.{◌<◌, ◌≤◌, ℕ, List, Option, Result, Ok, Err, length, take}
use Rattle.std.specs.Io.KnownBytes.{Appends}
use Rattle.outside_spec.specs.Faults.{Rose}
use Rattle.virt_types.specs.Below.types_base.declared.memory.Failed.{Failed}

module _ {O : Type 0} (held : O → Option (List ℕ)) (faults : O → ℕ) where
  -- a fault of standard output, which has a front of the text that isn't whole
  pub record IsCutOff (text : List ℕ) (was is : O) : Type 0 where
    pub rose : Rose (faults was) (faults is)
    pub count : ℕ
    pub short : count < length text
    pub front : Appends (held was) (held is) (take count text)

  -- the text was put whole
  pub record IsPut (text : List ℕ) (was is : O) : Type 0 where
    pub whole : Appends (held was) (held is) text
    pub later : faults was ≤ faults is

  -- the text was put whole, or cut off by a fault
  abbrev pub HasPut : List ℕ → O → O → Result (Unit {0}) Failed → Type 0
  HasPut text was is (Ok done) = IsPut text was is
  HasPut text was is (Err failed) = IsCutOff text was is
