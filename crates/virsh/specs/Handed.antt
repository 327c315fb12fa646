-- Values that the outside gave, or got: how many, and the last of them.
use Rattle.std.specs.Prelude.{ℕ, ◌+◌, ◌-◌, ◌^◌, min, Option, Some, None}

pub record Handed (T : Type 0) : Type 0 where
  pub count : ℕ
  pub last : Option T

-- none so far
abbrev pub none_handed : {T : Type 0} → Handed T
none_handed = record { count = 0; last = None }

-- this one more; a count at the end of its type stays there
abbrev pub one_more : {T : Type 0} → Handed T → T → Handed T
one_more handed value = record { count = min (handed.count + 1) (2 ^ 64 - 1); last = Some value }
