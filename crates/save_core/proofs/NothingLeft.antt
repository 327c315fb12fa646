-- Nothing is left of a plan that asks nothing.
use Rattle.std.proofs.Common.{◌≡◌, ◌∙◌, [], List, refl}
use Rattle.domain_spec.specs.Types.{Answer}
use Rattle.domain_spec.specs.Asks.{asks_left}
use Rattle.core_rules.specs.Next.{next_of}
use Rattle.core_rules.specs.Place.{next_at, place_after}
use Rattle.core_rules.specs.declared.course.Place.{Place}
use Rattle.core_rules.specs.declared.course.Place.TheVariants as place
use Rattle.core_rules.specs.declared.next.Next.TheVariants as next
use Rattle.core_rules.proofs.NextAsk.{next_is_at}

at_no_place : (p : Place) → next_at [] p ≡ next.Finish
at_no_place (place.Plan n) = refl
at_no_place (place.Undo of step) = refl
at_no_place place.Through = refl

pub nothing_left : (answers : List Answer) → next_of (asks_left [] answers) ≡ next.Finish
nothing_left answers = next_is_at [] answers ∙ at_no_place (place_after answers)
