-- What a pass knows after a turn at the book.
use Rattle.std.specs.Prelude.{◌≡◌, ◌⊎◌, [], ◌∷◌}
use Rattle.history_spec.specs.Chapter.{tagged}
use Rattle.turn_cell.specs.Passes.{Passed}
use Rattle.turn_cell.specs.Turning.{Went}
use Rattle.book_spec.specs.declared.pool_book.PoolAnswer.{PoolAnswer}
use Rattle.book_spec.specs.declared.pool_book.PoolAnswer.TheVariants.{Refused}
use Rattle.book_spec.specs.declared.pool_book.PoolCall.{PoolCall}
use Rattle.book_spec.specs.declared.pool_book.PoolMark.{PoolMark}
use Rattle.book_spec.specs.Pools.{Pools}
use Rattle.book_spec.specs.PoolCalls.{answer, no_memory}
use Rattle.pool_core.specs.Keeping.{meaning}

abbrev pub PoolPassed : Type 0
PoolPassed = Passed Pools PoolMark (Unit {0})

-- a pass, after a turn in which it called: these pools it found, and they say what it is answered; its mark is the one
-- that it left
pub record HasTurn (c : PoolCall) (given : PoolAnswer) (before after : PoolPassed) : Type 0 where
  pub pools : Pools
  pub answered : given ≡ answer c pools
  pub went : Went meaning 1 (tagged after.seen.chapter (record { number = before.number; call = c; answer = given } ∷ [])) before after

-- or there was no memory, and it left none
abbrev pub HasAsked : PoolCall → PoolAnswer → PoolPassed → PoolPassed → Type 0
HasAsked c given before after = HasTurn c given before after ⊎ ((given ≡ Refused no_memory) × Went meaning 1 [] before after)
