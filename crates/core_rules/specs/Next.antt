-- What is next for a call, or for a phase of an operation.
use Rattle.std.specs.Prelude.{List, [], ◌∷◌, Bool, true, false, Option, None, Some}
use Rattle.domain_spec.specs.Types.{Ask}
use Rattle.core_rules.specs.declared.next.Next.{Next}
use Rattle.core_rules.specs.declared.next.Next.TheVariants as next

-- what is next of the asks that are left: the first; it can be finished where there is none
abbrev pub next_of : List Ask → Next
next_of [] = next.Finish
next_of (a ∷ asks) = next.Ask a

-- what is next where at most one ask is at its place
abbrev pub next_if : Option Ask → Next
next_if None = next.Finish
next_if (Some a) = next.Ask a

-- something is to be asked
abbrev pub is_ask : Next → Bool
is_ask (next.Ask a) = true
is_ask next.Finish = false

-- one ask or none
abbrev pub at_most : Option Ask → List Ask
at_most None = []
at_most (Some a) = a ∷ []
