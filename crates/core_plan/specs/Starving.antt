-- Asks for which there is no memory: each is answered so, and the next one is tried.
use Rattle.std.specs.Prelude.{◌≡◌, ℕ, zero, suc, true, Option}
use Rattle.domain_spec.specs.Types.{Ask}
use Rattle.domain_spec.specs.Types.answer
use Rattle.domain_spec.specs.Asks.{asks_left}
use Rattle.core_rules.specs.declared.next.Next.{Next}
use Rattle.core_rules.specs.Next.{is_ask, next_if, next_of}
use Rattle.core_plan.specs.Along.{Asked, answered}

-- what is next
abbrev pub next_in : Asked → Next
next_in a = next_of (asks_left a.plan a.answers)

-- the course where so many more asks were answered that there is no memory
abbrev pub starved : ℕ → Asked → Asked
starved zero a = a
starved (suc n) a = starved n (answered a answer.NoMemory)

-- each of so many more was an ask
abbrev pub AreAsks : ℕ → Asked → Type 0
AreAsks zero a = Unit {0}
AreAsks (suc n) a = (is_ask (next_in a) ≡ true) × AreAsks n (answered a answer.NoMemory)

-- for some asks there is no memory, and then this one is next, or none
pub record GoesOn (old : Asked) (ask : Option Ask) (new : Asked) : Type 0 where
  pub count : ℕ
  pub asks : AreAsks count old
  pub starved_so : new ≡ starved count old
  pub is_next : next_if ask ≡ next_in new
