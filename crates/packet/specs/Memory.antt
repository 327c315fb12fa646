-- What a source and a sink in memory show of themselves.
use Rattle.std.specs.Prelude.{ℕ, ◌-◌, ◌^◌, List, []}
use Rattle.packet.specs.declared.memory.Failing.{Failing}
use Rattle.packet.specs.declared.memory.Failing.TheVariants.{Never}

-- the bytes that are left, how many a read gives at most, which reads fail, and how many have failed
pub record Reading : Type 0 where
  pub left : List ℕ
  pub most : ℕ
  pub failing : Failing
  pub faults : ℕ

-- the bytes that were put, how many a write takes at most, which writes fail, and how many have failed
pub record Holding : Type 0 where
  pub bytes : List ℕ
  pub most : ℕ
  pub failing : Failing
  pub faults : ℕ

-- these bytes, in one read if there is room for them
abbrev pub source_of : List ℕ → Reading
source_of bytes = record { left = bytes; most = 2 ^ 64 - 1; failing = Never; faults = 0 }

-- no bytes so far, and each piece is taken whole
abbrev pub empty_sink : Holding
empty_sink = record { bytes = []; most = 2 ^ 64 - 1; failing = Never; faults = 0 }
