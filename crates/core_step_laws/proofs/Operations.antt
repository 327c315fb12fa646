-- While a call is open, the operation beside it stays as it is, or ends.
use Rattle.std.proofs.Common.{◌≡◌, ◌⊎◌, inl, inr, ℕ, List, [], ◌∷◌, Option, None, Some, refl, sym, ap, ◌∙◌, subst}
use Rattle.domain_spec.specs.Types.{Answer, Call, State, Transition, Who}
use Rattle.domain_spec.specs.Types.{Ask, Phase}
use Rattle.domain_spec.specs.declared.core_step.CoreStep.{CoreStep}
use Rattle.domain_spec.specs.declared.core_step.CoreStep.TheVariants as step
use Rattle.domain_spec.specs.declared.mark.Mark.{Mark}
use Rattle.domain_spec.specs.declared.mark.Mark.TheVariants as mark
use Rattle.domain_spec.specs.declared.open.OpenJob.{OpenJob}
use Rattle.domain_spec.specs.declared.open.OpenOperation.{OpenOperation}
use Rattle.domain_spec.specs.declared.standing.Standing.{Standing}
use Rattle.domain_spec.specs.declared.step.Outcome.{Outcome}
use Rattle.domain_spec.specs.Cell.{Cell, standing_of}
use Rattle.domain_spec.specs.Fold.{after, after_phase, after_take_up, job_at_exit, standing}
use Rattle.domain_spec.specs.Lawful.{IsPhased}
use Rattle.domain_spec.specs.Turns.{BeginsBy, GoOn, GoesOnBy, IsTurn, Leads, MayLeave}
use Rattle.core_step_laws.specs.Operations.{OperationsStay}
use Rattle.core_step_laws.proofs.Jobs.{lets_in_free, on_base}

-- no call is open any more, or the operation is as it was, or none
abbrev Keeps : Standing → Standing → Type 0
Keeps s t = (t.job ≡ None) ⊎ ((t.operation ≡ s.operation) ⊎ (t.operation ≡ None))

keeps_then : (s t u : Standing) → ((t.operation ≡ s.operation) ⊎ (t.operation ≡ None)) → Keeps t u → Keeps s u
keeps_then s t u h (inl none) = inl none
keeps_then s t u (inl same) (inr (inl e)) = inr (inl (e ∙ same))
keeps_then s t u (inr none) (inr (inl e)) = inr (inr (e ∙ none))
keeps_then s t u h (inr (inr e)) = inr (inr e)

phase_closes : (s : Standing) (j : Option OpenJob) (o : Option OpenOperation) (number : ℕ) (who : Who) (p : Phase) (asks : List Ask) (answers : List Answer) (next : Outcome) (events : List Transition)
    → s.operation ≡ o → IsPhased s j o number who p asks answers next events → (after s (mark.Phase number who p asks answers next events)).job ≡ None
phase_closes s None o number who p asks answers next events op h = absurd h
phase_closes s (Some j) None number who p asks answers next events op h = absurd h
phase_closes s (Some j) (Some o) number who p asks answers next events op h = ap (λ (q : Option OpenOperation). (after_phase s q answers next).job) op

taken_keeps : (s : Standing) (o : Option OpenOperation) (number : ℕ) (who : Who) (d : Call) → s.operation ≡ o → Keeps s (after s (mark.TakeUp number who d))
taken_keeps s None number who d op = inr (inl (ap (λ (q : Option OpenOperation). (after_take_up s q number who d).operation) op))
taken_keeps s (Some o) number who d op = inl (ap (λ (q : Option OpenOperation). (after_take_up s q number who d).job) op)

taken_none : (s : Standing) (o : Option OpenOperation) (number : ℕ) (who : Who) (d : Call) → s.operation ≡ o → s.job ≡ None → (after s (mark.TakeUp number who d)).job ≡ None
taken_none s None number who d op none = ap (λ (q : Option OpenOperation). (after_take_up s q number who d).job) op ∙ none
taken_none s (Some o) number who d op none = ap (λ (q : Option OpenOperation). (after_take_up s q number who d).job) op

goes_keeps : (c : Cell) (t : CoreStep ℕ) (s : Standing) (k : Mark ℕ) → GoesOnBy c t s k → Keeps s (after s k)
goes_keeps c t s (mark.Done number who d boot asks answers r events) h = inl refl
goes_keeps c t s (mark.Phase number who p asks answers next events) h = inl (phase_closes s s.job s.operation number who p asks answers next events refl h.2)
goes_keeps c t s (mark.Start number who d boot) h = inl refl
goes_keeps c t s (mark.TakeUp number who d) h = taken_keeps s s.operation number who d refl
goes_keeps c t s (mark.Exit boot why events) h = inr (inl refl)
goes_keeps c t s (mark.Event boot g events) h = inr (inl refl)
goes_keeps c t s (mark.Cut client total taken) h = inr (inl refl)
goes_keeps c t s other h = absurd h

goes_none : (c : Cell) (t : CoreStep ℕ) (s : Standing) (k : Mark ℕ) → GoesOnBy c t s k → s.job ≡ None → (after s k).job ≡ None
goes_none c t s (mark.Done number who d boot asks answers r events) h none = refl
goes_none c t s (mark.Phase number who p asks answers next events) h none = phase_closes s s.job s.operation number who p asks answers next events refl h.2
goes_none c t s (mark.Start number who d boot) h none = refl
goes_none c t s (mark.TakeUp number who d) h none = taken_none s s.operation number who d refl none
goes_none c t s (mark.Exit boot why events) h none = ap (λ (j : Option OpenJob). job_at_exit s.state boot j) none
goes_none c t s (mark.Event boot g events) h none = none
goes_none c t s (mark.Cut client total taken) h none = none
goes_none c t s other h none = absurd h

none_on : (c : Cell) (t : CoreStep ℕ) (s : Standing) (marks : List (Mark ℕ)) → GoOn c t s marks → s.job ≡ None → (standing s marks).job ≡ None
none_on c t s [] h none = none
none_on c t s (k ∷ marks) h none = none_on c t (after s k) marks h.2 (goes_none c t s k h.0 none)

keeps_on : (c : Cell) (t : CoreStep ℕ) (s u : Standing) (marks : List (Mark ℕ)) → Keeps s u → GoOn c t u marks → (Keeps u (standing u marks)) → Keeps s (standing u marks)
keeps_on c t s u marks (inl none) h rest = inl (none_on c t u marks h none)
keeps_on c t s u marks (inr same) h rest = keeps_then s u (standing u marks) same rest

on_keeps : (c : Cell) (t : CoreStep ℕ) (s : Standing) (marks : List (Mark ℕ)) → GoOn c t s marks → Keeps s (standing s marks)
on_keeps c t s [] h = inr (inl refl)
on_keeps c t s (k ∷ marks) h = keeps_on c t s (after s k) marks (goes_keeps c t s k h.0) h.2 (on_keeps c t (after s k) marks h.2)

begins_keeps : (c : Cell) (t : CoreStep ℕ) (k : Mark ℕ) (j : OpenJob) → (standing_of c).job ≡ Some j → BeginsBy c t (standing_of c) k → Keeps (standing_of c) (after (standing_of c) k)
begins_keeps c t (mark.Admit number w wanted d boot) j was h = let none : (standing_of c).job ≡ None = lets_in_free c t number w wanted d boot h in cc
begins_keeps c t (mark.Refused number w d why held) j was h = inr (inl refl)
begins_keeps c t (mark.End number w r) j was h = inr (inr refl)
begins_keeps c t (mark.Watch number client) j was h = inr (inl refl)
begins_keeps c t (mark.Unwatch number client) j was h = inr (inl refl)
begins_keeps c t k j was h = goes_keeps c t (standing_of c) k h

left_keeps : (c : Cell) (t : CoreStep ℕ) (marks : List (Mark ℕ)) (j : OpenJob) → (standing_of c).job ≡ Some j → MayLeave c t marks → Keeps (standing_of c) (standing (standing_of c) marks)
left_keeps c t [] j was h = inr (inl refl)
left_keeps c t (k ∷ marks) j was h =
    let s : Standing = standing_of c in keeps_on c t s (after s k) marks (begins_keeps c t k j was h.0) h.2 (on_keeps c t (after s k) marks h.2)

still_open : (s t : Standing) (k : OpenJob) → t.job ≡ Some k → Keeps s t → (t.operation ≡ s.operation) ⊎ (t.operation ≡ None)
still_open s t k was (inl none) = cc
still_open s t k was (inr same) = same

pub operations_stay : OperationsStay
operations_stay c d (step.Rotate number who) left j k turn leads was still = let free : (standing_of c).job ≡ None = turn.can.1 in cc
operations_stay c d other left j k turn leads was still =
    let is : standing_of d ≡ standing (standing_of c) left = on_base c d left leads.base leads.marks in
    still_open (standing_of c) (standing_of d) k still (subst (λ (s : Standing). Keeps (standing_of c) s) (sym is) (left_keeps c other left j was turn.left))
