-- A pass that has nothing open, unless no ticket is left for it.
use Rattle.std.specs.Prelude.{◌≡◌, ◌⊎◌, true}
use Rattle.atomic_table.specs.Seated.{TableId}
pub use Rattle.domain_threads.specs.Below.domain_obj.InTurn.{DomainPass}
use Rattle.domain_threads.specs.Below.domain_core.Meaning.{nothing_kept}

-- nothing is kept for it, or it is spent
abbrev pub IsFree : DomainPass → Type 0
IsFree pass = (pass.spent ≡ true) ⊎ (pass.share ≡ nothing_kept)

-- it is a pass of the same cell, with as many parts, that has nothing open
pub record Stays (before after : DomainPass) : Type 0 where
  pub cell : after.cell ≡ before.cell
  pub parts : after.parts ≡ before.parts
  pub free : IsFree after

-- a pass of this cell, with one part, that has nothing open: what one thread acts with
pub record IsPartOf (cell : TableId) (pass : DomainPass) : Type 0 where
  pub own : pass.cell ≡ cell
  pub one : pass.parts ≡ 1
  pub free : IsFree pass
