-- What is in force stays steady.
use Rattle.std.proofs.Common.{◌≡◌, ℕ, List, [], ◌∷◌, sym, ap, ◌∙◌, subst}
use Rattle.domain_spec.specs.declared.core_step.CoreStep.TheVariants as step
use Rattle.domain_spec.specs.declared.mark.Mark.{Mark}
use Rattle.domain_spec.specs.declared.standing.Base.{Base}
use Rattle.domain_spec.specs.declared.standing.Standing.{Standing}
use Rattle.domain_spec.specs.Cell.{Cell, standing_of}
use Rattle.domain_spec.specs.Chapter.{first_base, next_base}
use Rattle.domain_spec.specs.Fold.{after, at_base, standing}
use Rattle.core_steps.proofs.OfAsks.{opened_tidy}
use Rattle.core_steps.proofs.OfAsks.{every_mark}
use Rattle.core_step_laws.proofs.Jobs.{on_base}
use Rattle.core_step_laws.specs.Steady.{IsSteady, OpenedIsSteady, TurnsKeepSteady}
use Rattle.core_step_laws.proofs.Since.{since_after}

pub mark_keeps_steady : (s : Standing) (m : Mark ℕ) → IsSteady s → IsSteady (after s m)
mark_keeps_steady s m h = record { tidy = every_mark s m h.tidy; since = since_after s m h.tidy h.since }

on_steady : (s : Standing) (marks : List (Mark ℕ)) → IsSteady s → IsSteady (standing s marks)
on_steady s [] h = h
on_steady s (m ∷ marks) h = on_steady (after s m) marks (mark_keeps_steady s m h)

-- a chapter as it begins
at : (c : Cell) (b : Base) → c.base ≡ b → c.marks ≡ [] → standing_of c ≡ at_base b
at c b base marks = ap (λ (x : Base). standing (at_base x) c.marks) base ∙ ap (λ (ms : List (Mark ℕ)). standing (at_base b) ms) marks

pub opened_is_steady : OpenedIsSteady
opened_is_steady c stored autostart opened =
    subst (λ (s : Standing). IsSteady s) (sym (at c (first_base stored autostart) opened.base opened.marks)) (record { tidy = opened_tidy stored autostart; since = tt })

pub turns_keep_steady : TurnsKeepSteady
turns_keep_steady c d (step.Rotate number who) left turn leads h =
    subst (λ (s : Standing). IsSteady s) (sym (at d (next_base (standing_of c) c.registrations) leads.base leads.marks)) (record { tidy = h.tidy; since = tt })
turns_keep_steady c d other left turn leads h = subst (λ (s : Standing). IsSteady s) (sym (on_base c d left leads.base leads.marks)) (on_steady (standing_of c) left h)
