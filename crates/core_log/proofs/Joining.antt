-- Marks after marks.
use Rattle.std.proofs.Common.{◌≡◌, ℕ, List, [], ◌∷◌, ◌++◌, refl, ap, ◌∙◌, subst}
use Rattle.domain_spec.specs.declared.mark.Mark.{Mark}
use Rattle.domain_spec.specs.declared.mark.Mark.TheVariants as mark
use Rattle.domain_spec.specs.declared.standing.Registration.{Registration}
use Rattle.domain_spec.specs.declared.standing.Standing.{Standing}
use Rattle.domain_spec.specs.Fold.{standing}
use Rattle.domain_spec.specs.Legal.{IsLegal}
use Rattle.domain_spec.specs.Registrations.{registrations_after, registrations_at}
use Rattle.domain_spec.specs.Turns.{AreCut}
use Rattle.domain_spec.proofs.LawProofs.{legal-append}
use Rattle.core_flight.specs.Ledger.{Chaptered, standing_in, with_marks}
use Rattle.core_log.specs.Record.{HasMarked, Recorded, force_of}
use Rattle.core_log.proofs.Held.{in_more, more_more}

pub registrations_append : (rs : List Registration) (xs ys : List (Mark ℕ)) → registrations_at (registrations_at rs xs) ys ≡ registrations_at rs (xs ++ ys)
registrations_append rs [] ys = refl
registrations_append rs (m ∷ xs) ys = registrations_append (registrations_after rs m) xs ys

pub cut_append : (rs : List Registration) (xs ys : List (Mark ℕ)) → AreCut rs xs → AreCut (registrations_at rs xs) ys → AreCut rs (xs ++ ys)
cut_append rs [] ys h g = g
cut_append rs (mark.Cut client total taken ∷ xs) ys h g = (h.0, cut_append (registrations_after rs (mark.Cut client total taken)) xs ys h.1 g)
cut_append rs (m ∷ xs) ys h g = (h.0, cut_append (registrations_after rs m) xs ys h.1 g)

-- what is in force after marks that were added
pub force_after : (a b : Recorded) (xs : List (Mark ℕ)) → HasMarked a b xs → force_of b ≡ standing (force_of a) xs
force_after a b xs h = ap standing_in h.history ∙ in_more a.history xs

pub marked_more : (a b d : Recorded) (xs ys : List (Mark ℕ)) → HasMarked a b xs → HasMarked b d ys → HasMarked a d (xs ++ ys)
marked_more a b d xs ys h g = record {
  history = g.history ∙ ap (λ (x : Chaptered). with_marks x ys) h.history ∙ more_more a.history xs ys;
  kept = g.kept ∙ ap (λ (rs : List Registration). registrations_at rs ys) h.kept ∙ registrations_append _ xs ys;
  legal = legal-append (force_of a) xs ys h.legal (subst (λ (s : Standing). IsLegal s ys) (force_after a b xs h) g.legal);
  cuts = cut_append _ xs ys h.cuts (subst (λ (rs : List Registration). AreCut rs ys) h.kept g.cuts);
}
