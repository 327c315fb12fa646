-- What is printed on standard output.
use Rattle.std.specs.Prelude.{◌≡◌, ◌<◌, ℕ, List, Option, Result, Ok, Err, length, take}
use Rattle.std.specs.Io.KnownBytes.{Appends}
use Rattle.outside_spec.specs.Faults.{Rose}
use Rattle.virt_types.specs.Below.types_base.declared.memory.Failed.{Failed}
use Rattle.virtd.specs.Outside.{Outside, with_back, with_made}
use Rattle.virtd.specs.declared.connection.Connection.{Connection}

module _ {K : Type 0} (held : K → Option (List ℕ)) (sink_faults : K → ℕ) where
  -- a fault of the sink, which has a front of the text that isn't whole
  pub record IsCutOff (text : List ℕ) (was is : K) : Type 0 where
    pub rose : Rose (sink_faults was) (sink_faults is)
    pub count : ℕ
    pub short : count < length text
    pub front : Appends (held was) (held is) (take count text)

  -- the text was put whole, or cut off by a fault
  abbrev pub HasPut : List ℕ → K → K → Result (Unit {0}) Failed → Type 0
  HasPut text was is (Ok done) = Appends (held was) (held is) text
  HasPut text was is (Err failed) = IsCutOff text was is

module _ {S K R F : Type 0} (held : K → Option (List ℕ)) (sink_faults : K → ℕ) where
  -- exactly one connection is made and given back; nothing is taken from it, and the text is put into it
  pub record Prints (text : List ℕ) (was is : Outside (Connection S K R) F) (result : Result (Unit {0}) Failed) : Type 0 where
    pub connection : Connection S K R
    pub sink : K
    pub put : HasPut held sink_faults text connection.sink sink result
    pub outside : is ≡ with_back (record connection { sink = sink }) (with_made connection was)

-- the status of a program that printed: this one, or that of a fault of standard output
abbrev pub printed : ℕ → Result (Unit {0}) Failed → ℕ
printed code (Ok done) = code
printed code (Err failed) = 5
