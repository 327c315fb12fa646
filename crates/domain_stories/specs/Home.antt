-- The first pass of a story's domain, while parts of it are out.
use Rattle.std.specs.Prelude.{◌≡◌, ℕ, ◌+◌, ◌^◌}
use Rattle.atomic_table.specs.Seated.{TableId}
use Rattle.domain_stories.specs.Free.{DomainPass, IsFree}

-- the first pass of this cell, which has nothing open; so many parts were cut off it and did not come back
pub record IsHome (cell : TableId) (pass : DomainPass) (out : ℕ) : Type 0 where
  pub own : pass.cell ≡ cell
  pub parts : pass.parts + out ≡ 2 ^ 62
  pub free : IsFree pass
