-- A mark of a legal history is lawful after those before it, so a reply that rests on it is the sequential driver's.
use Rattle.std.proofs.Common.{◌≡◌, ℕ, zero, suc, List, [], ◌∷◌, Option, None, Some, refl, sym, subst}
use Rattle.std.specs.Prelude.{slice_get, take}
use Rattle.domain_spec.specs.Fold.{after, standing}
use Rattle.domain_spec.specs.Lawful.{IsDone, IsEnded, IsPhased}
use Rattle.domain_spec.specs.Legal.{IsInOrder, IsLawful, IsLegal}
use Rattle.domain_spec.specs.declared.mark.Mark.{Mark}
use Rattle.domain_spec.specs.declared.mark.Mark.TheVariants as mark
use Rattle.domain_spec.specs.declared.standing.Standing.{Standing}
use Rattle.domain_spec.specs.declared.step.Outcome.{Outcome as Next}
use Rattle.domain_spec.specs.declared.step.Outcome.TheVariants as next
use Rattle.virt_types.specs.declared.value.Reply.{Reply}
use Rattle.outcome_spec.specs.Done.{reply_of, rest_of}
use Rattle.outcome_spec.specs.Laws.{RepliesAreSequential}
use Rattle.outcome_spec.specs.Sequential.{IsSequential}

-- each mark of a legal history is lawful after those before it
pub lawful_at : (s : Standing) (marks : List (Mark ℕ)) (place : ℕ) (m : Mark ℕ) → IsLegal s marks → slice_get marks place ≡ Some m → IsLawful (standing s (take place marks)) m
lawful_at s [] place m legal at = absurd cc
lawful_at s (x ∷ marks) zero m legal at =
    let same : x ≡ m = cc in subst (λ (y : Mark ℕ). IsLawful s y) same legal.0
lawful_at s (x ∷ marks) (suc n) m legal at = lawful_at (after s x) marks n m legal.1 at

rests : (o : Next) (said : Reply) → rest_of o ≡ Some said → o ≡ next.Rest said
rests (next.Rest r) said e =
    let same : r ≡ said = cc in subst (λ (q : Reply). next.Rest r ≡ next.Rest q) same refl
rests (next.Over r) said e = absurd cc
rests (next.On p) said e = absurd cc

-- a lawful mark with a reply is the sequential driver's
pub sequential : (s : Standing) (m : Mark ℕ) (said : Reply) → IsInOrder s m → reply_of m ≡ Some said → IsSequential s m said
sequential s (mark.Done number who c boot asks answers r events) said is e =
    let same : r ≡ said = cc in subst (λ (q : Reply). IsDone s s.job number who c boot asks answers q events) same is
sequential s (mark.Phase number who p asks answers o events) said is e =
    subst (λ (q : Next). IsPhased s s.job s.operation number who p asks answers q events) (rests o said e) is
sequential s (mark.End number who r) said is e =
    let same : r ≡ said = cc in subst (λ (q : Reply). IsEnded s s.operation number who q) same is
sequential s (mark.Refused number who c why held) said is e = (is, sym cc)
sequential s (mark.Admit number who wanted c boot) said is e = absurd cc
sequential s (mark.Start number who c boot) said is e = absurd cc
sequential s (mark.TakeUp number who c) said is e = absurd cc
sequential s (mark.Exit boot why events) said is e = absurd cc
sequential s (mark.Event boot v events) said is e = absurd cc
sequential s (mark.Watch number client) said is e = absurd cc
sequential s (mark.Unwatch number client) said is e = absurd cc
sequential s (mark.Cut client total taken) said is e = absurd cc

pub replies_are_sequential : RepliesAreSequential
replies_are_sequential before after c front said done legal chapter =
    sequential _ done.mark done.said (lawful_at _ after.seen.marks _ done.mark legal (done.stands.place chapter)).in_order done.says
