-- What is known at run time of a pass between two calls.
use Rattle.std.specs.Prelude.{◌≡◌, true, false}
use Rattle.turn_cell.specs.Meaning.{Meaning}
use Rattle.turn_cell.specs.Passes.{Passed}
use Rattle.pass_rows.specs.declared.resting.PassState.{PassState}
use Rattle.pass_rows.specs.declared.resting.PassState.TheVariants.{Idle, Busy, Spent}

-- what is known of a part that is cut off such a pass
abbrev pub of_part : PassState → PassState
of_part Idle = Idle
of_part Busy = Idle
of_part Spent = Spent

-- what is known of a pass into which another was put
abbrev pub both_states : PassState → PassState → PassState
both_states Idle Idle = Idle
both_states Idle Busy = Idle
both_states Idle Spent = Spent
both_states Busy Idle = Busy
both_states Busy Busy = Busy
both_states Busy Spent = Spent
both_states Spent other = Spent

module _ {T B M S : Type 0} (K : Meaning T B M S) where
  -- tickets are left for a pass, and nothing is kept for its number
  pub record IsIdle (pass : Passed B M S) : Type 0 where
    pub fresh : pass.spent ≡ false
    pub empty : pass.share ≡ K.nothing

  -- what is known of a pass is so
  abbrev pub IsSo : PassState → Passed B M S → Type 0
  IsSo Idle pass = IsIdle pass
  IsSo Busy pass = (pass.spent ≡ false) × (pass.share ≡ K.nothing → ⊥)
  IsSo Spent pass = pass.spent ≡ true
