-- Histories are taken apart and put together.
use Rattle.std.proofs.Common.{◌≡◌, ℕ, List, [], ◌∷◌, ◌++◌, refl}
use Rattle.domain_spec.specs.declared.mark.Mark.{Mark}
use Rattle.domain_spec.specs.declared.standing.Standing.{Standing}
use Rattle.domain_spec.specs.Fold.{after, standing}
use Rattle.domain_spec.specs.Legal.{IsLegal}

-- the state of a history is that of its parts, one after the other
pub standing-append : (s : Standing) (first then : List (Mark ℕ)) → standing s (first ++ then) ≡ standing (standing s first) then
standing-append s [] then = refl
standing-append s (m ∷ first) then = standing-append (after s m) first then

-- a history is legal where its parts are, one after the other
pub legal-append : (s : Standing) (first then : List (Mark ℕ)) → IsLegal s first → IsLegal (standing s first) then → IsLegal s (first ++ then)
legal-append s [] then legal more = more
legal-append s (m ∷ first) then legal more = (legal.0, legal-append (after s m) first then legal.1 more)

-- the beginning of a legal history is legal
pub legal_beginning : (s : Standing) (first then : List (Mark ℕ)) → IsLegal s (first ++ then) → IsLegal s first
legal_beginning s [] then legal = tt
legal_beginning s (m ∷ first) then legal = (legal.0, legal_beginning (after s m) first then legal.1)
