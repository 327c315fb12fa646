-- What is next of a plan of one ask that nothing undoes.
use Rattle.std.proofs.Common.{◌≡◌, ◌∙◌, ◌∷◌, [], List, Some, sym, ap}
use Rattle.domain_spec.specs.Types.{Answer, Ask}
use Rattle.domain_spec.specs.Asks.{asks_left, plain}
use Rattle.core_rules.specs.declared.course.Place.{Place}
use Rattle.core_rules.specs.Next.{next_of}
use Rattle.core_rules.specs.Place.{next_of_one, place_after}
use Rattle.core_rules.proofs.Plans.{next_of_plain}

pub one_asked : (a : Ask) (answers : List Answer) (p : Place) → p ≡ place_after answers → next_of (asks_left (plain (a ∷ [])) answers) ≡ next_of_one (Some a) p
one_asked a answers p e = next_of_plain (Some a) answers ∙ ap (next_of_one (Some a)) (sym e)
