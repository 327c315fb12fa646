-- The boot that a Destroy keeps of its first look is known in each later chapter.
use Rattle.std.proofs.Common.{◌≡◌, inl, inr, ◌≤◌, ℕ, ◌++◌, List, [], ◌∷◌, Option, None, Some, subst, arith}
use Rattle.history_spec.specs.Begins.{Begins}
use Rattle.history_spec.proofs.Beginnings.{begins_through}
use Rattle.domain_spec.specs.declared.core_step.First.{First}
use Rattle.domain_spec.specs.declared.core_step.First.TheVariants as first
use Rattle.domain_spec.specs.declared.mark.Mark.{Mark}
use Rattle.domain_spec.specs.declared.standing.Base.{Base}
use Rattle.domain_spec.specs.declared.standing.Standing.{Standing}
use Rattle.domain_spec.specs.Carried.{WasLive, WasLiveOrBefore}
use Rattle.domain_spec.specs.Chapter.{rising_number}
use Rattle.domain_spec.specs.Fold.{after, at_base, standing}
use Rattle.domain_spec.specs.Laws.{IsCounted}
use Rattle.domain_spec.specs.Open.{IsKnownBoot}
use Rattle.domain_spec.specs.Reading.{boots_of, live_boot}
use Rattle.domain_spec.proofs.EndsOnce.{mark_counted}
use Rattle.domain_obj.specs.Running.{DomainHistory, standing_after}
use Rattle.domain_core.specs.Celled.{Celled, cell_in}
use Rattle.domain_core.specs.Keeping.{no_mark_lowers}
use Rattle.domain_core.specs.Meaning.{history_of}
use Rattle.domain_obj.specs.Looking.{KnowsFirst, WasLiveAt}
use Rattle.domain_core.specs.OfTurns.{IsKnownFirst}

-- it was live after some of these marks
live_along : (s : Standing) (marks more : List (Mark ℕ)) (boot : Option ℕ) → live_boot (standing s marks).state ≡ boot → WasLive s (marks ++ more) boot
live_along s [] [] boot e = e
live_along s [] (m ∷ more) boot e = inl e
live_along s (m ∷ marks) more boot e = inr (live_along (after s m) marks more boot e)

-- more boots were numbered
more_known : (boot : Option ℕ) (m n : ℕ) → IsKnownBoot m boot → m ≤ n → IsKnownBoot n boot
more_known None m n known le = tt
more_known (Some boot) m n known le =
    let some = known.0 in
    let most = known.1 in (omega (arith, some), omega (arith, most, le))

known_by : (found now : DomainHistory) (boot : Option ℕ) → WasLiveAt found boot now → Begins rising_number found now → WasLiveOrBefore now.base now.marks boot
known_by found now boot at (inl same) =
    inl (subst (λ (marks : List (Mark ℕ)). WasLive (at_base now.base) marks boot) same.marks.1
    (live_along (at_base now.base) found.marks same.marks.0 boot
    (subst (λ (b : Base). live_boot (standing (at_base b) found.marks).state ≡ boot) same.base at.live)))
known_by found now boot at (inr later) = inr (more_known boot (boots_of (standing_after found).state) (boots_of now.base.state) at.counted later.rises)

pub known_first : (f : First) (c : Celled) → KnowsFirst f (history_of c) → IsKnownFirst f (cell_in c)
known_first first.Now c h = tt
known_first (first.Boot boot) c (found, at) = known_by found (history_of c) boot at at.begins

pub live_on : (found h now : DomainHistory) (boot : Option ℕ) → WasLiveAt found boot h → Begins rising_number h now → WasLiveAt found boot now
live_on found h now boot at begins = record { begins = begins_through rising_number no_mark_lowers found h now at.begins begins; live = at.live; counted = at.counted }

pub knows_on : (f : First) (h now : DomainHistory) → Begins rising_number h now → KnowsFirst f h → KnowsFirst f now
knows_on first.Now h now begins known = tt
knows_on (first.Boot boot) h now begins (found, at) = (found, live_on found h now boot at begins)

-- a live boot stays numbered
pub counted_at : (s : Standing) (marks : List (Mark ℕ)) → IsCounted s → IsCounted (standing s marks)
counted_at s [] h = h
counted_at s (m ∷ marks) h = counted_at (after s m) marks (mark_counted s m h)
