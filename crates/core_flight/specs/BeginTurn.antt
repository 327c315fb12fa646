-- What the turn of a call comes to that begins an operation, or takes one up, over the chapter.
use Rattle.std.specs.Prelude.{◌≡◌, ℕ, false, Option}
use Rattle.domain_spec.specs.Types.{Call}
use Rattle.domain_spec.specs.declared.standing.Standing.{Standing}
use Rattle.domain_spec.specs.Sequential.{goes_on_as_operation}
use Rattle.domain_spec.specs.TakeUp.{takes_it_up}
use Rattle.core_rules.specs.declared.next.Next.TheVariants as next
use Rattle.core_plan.specs.Starving.{next_in}
use Rattle.core_plan.specs.Going.{first_course}
use Rattle.core_flight.specs.declared.begin_turns.Copies.{Copies}

-- the call asks nothing, begins nothing and takes nothing up
pub record IsRefusedNow (s : Standing) (c : Call) (boot : Option ℕ) : Type 0 where
  pub asks_none : next_in (first_course s.state c boot) ≡ next.Finish
  pub begins_none : goes_on_as_operation s.state c boot ≡ false
  pub takes_none : takes_it_up s c boot ≡ false

-- four copies of a call
pub record AreCopies (c : Call) (r : Copies) : Type 0 where
  pub own : r.own ≡ c
  pub in_admit : r.in_admit ≡ c
  pub of_operation : r.of_operation ≡ c
  pub in_mark : r.in_mark ≡ c
