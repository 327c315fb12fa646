-- Two calls that were run with one row, one after the other.
use Rattle.std.specs.Prelude.{ℕ, ◌<◌, ◌≡◌, Some}
use Rattle.outcome_spec.specs.Marks.{HasLeft}
use Rattle.outcome_spec.specs.Rows.{DomainPass, HasGone, Known, KnownRow, pass_of}

-- of a pass: each mark that was left between the first two comes before each that was left between the last two
abbrev pub IsApart : {B M : Type 0} → Known B M → Known B M → Known B M → Known B M → Type 0
IsApart {B} {M} first then later last = (m n : M) (one : HasLeft first then m) (other : HasLeft later last n) → one.at < other.at

-- of a row: of each of its passes; and the later call began with no less than the earlier one has left seen
pub record AreApart (first then later last : KnownRow) : Type 0 where
  pub list : IsApart first.list then.list later.list last.list
  pub store : IsApart first.store then.store later.store last.store
  pub domains : (slot : ℕ) (p q r s : DomainPass) → pass_of first slot ≡ Some p → pass_of then slot ≡ Some q → pass_of later slot ≡ Some r → pass_of last slot ≡ Some s → IsApart p q r s
  pub fresh : HasGone then later
