-- The phases of an operation, one list after another.
use Rattle.std.proofs.Common.{◌≡◌, ℕ, ◌++◌, List, [], ◌∷◌, refl, sym, ap, ◌∙◌, subst, append_assoc, append-nil}
use Rattle.domain_spec.specs.Types.{Answer, Ask, Call, Who}
use Rattle.domain_spec.specs.declared.mark.Mark.{Mark}
use Rattle.domain_spec.specs.declared.step.Outcome.{Outcome}
use Rattle.domain_spec.specs.declared.step.Outcome.TheVariants as outcome
use Rattle.domain_obj.specs.Phases.{LeadsTo, marks_of_all, told_of_all}
use Rattle.domain_obj.specs.Phasing.{PhaseDone, marks_of}
use Rattle.domain_core.specs.OfShares.{told}

marks_add : (n : ℕ) (who : Who) (d : Call) (ps qs : List PhaseDone) → marks_of_all n who d (ps ++ qs) ≡ marks_of_all n who d ps ++ marks_of_all n who d qs
marks_add n who d [] qs = refl
marks_add n who d (p ∷ ps) qs =
    ap (λ (l : List (ℕ × Mark ℕ)). marks_of n who d p ++ l) (marks_add n who d ps qs) ∙ sym (append_assoc (marks_of n who d p) (marks_of_all n who d ps) (marks_of_all n who d qs))

told_add : (ps qs : List PhaseDone) → told_of_all (ps ++ qs) ≡ told_of_all ps ++ told_of_all qs
told_add [] qs = refl
told_add (p ∷ ps) qs = ap (λ (l : List (Ask × Answer)). told p.asks p.answers ++ l) (told_add ps qs) ∙ sym (append_assoc (told p.asks p.answers) (told_of_all ps) (told_of_all qs))

leads_add : (x y z : Outcome) (ps qs : List PhaseDone) → LeadsTo x ps y → LeadsTo y qs z → LeadsTo x (ps ++ qs) z
leads_add x y z [] qs e h = subst (λ (w : Outcome). LeadsTo w qs z) e h
leads_add x y z (p ∷ ps) qs (due, rest) h = (due, leads_add p.next y z ps qs rest h)

-- one phase more

pub marks_with : (n : ℕ) (who : Who) (d : Call) (ps : List PhaseDone) (p : PhaseDone) → marks_of_all n who d (ps ++ p ∷ []) ≡ marks_of_all n who d ps ++ marks_of n who d p
marks_with n who d ps p = marks_add n who d ps (p ∷ []) ∙ ap (λ (l : List (ℕ × Mark ℕ)). marks_of_all n who d ps ++ l) (append-nil (marks_of n who d p))

pub told_with : (ps : List PhaseDone) (p : PhaseDone) → told_of_all (ps ++ p ∷ []) ≡ told_of_all ps ++ told p.asks p.answers
told_with ps p = told_add ps (p ∷ []) ∙ ap (λ (l : List (Ask × Answer)). told_of_all ps ++ l) (append-nil (told p.asks p.answers))

pub leads_with : (x y : Outcome) (ps : List PhaseDone) (p : PhaseDone) → LeadsTo x ps y → y ≡ outcome.On p.phase → LeadsTo x (ps ++ p ∷ []) p.next
leads_with x y ps p h due = leads_add x y p.next ps (p ∷ []) h (due, refl)
