-- Which boot a Destroy carries that had to wait: what a caller knows of it who saw the history before.
use Rattle.std.specs.Prelude.{◌≡◌, ◌⊎◌, ℕ, List, [], ◌∷◌, Option, None, Some}
use Rattle.domain_spec.specs.declared.core_step.First.{First}
use Rattle.domain_spec.specs.declared.core_step.First.TheVariants as first
use Rattle.domain_spec.specs.declared.mark.Mark.{Mark}
use Rattle.domain_spec.specs.declared.standing.Base.{Base}
use Rattle.domain_spec.specs.declared.standing.Standing.{Standing}
use Rattle.domain_spec.specs.Fold.{after, at_base, standing}
use Rattle.domain_spec.specs.Open.{IsKnownBoot}
use Rattle.domain_spec.specs.Reading.{boots_of, live_boot}

-- this boot is live in one of the states from here on through these marks; where it is none, one of
-- these states has no guest
abbrev pub WasLive : Standing → List (Mark ℕ) → Option ℕ → Type 0
WasLive s [] boot = live_boot s.state ≡ boot
WasLive s (m ∷ marks) boot = (live_boot s.state ≡ boot) ⊎ WasLive (after s m) marks boot

-- this boot was live in this chapter, or was numbered before it; where it is none, nothing is known
abbrev pub WasLiveOrBefore : Base → List (Mark ℕ) → Option ℕ → Type 0
WasLiveOrBefore b marks boot = WasLive (at_base b) marks boot ⊎ IsKnownBoot (boots_of b.state) boot

-- the boot that a call carries which is let in after these marks of a chapter: the live one, or for a
-- Destroy that waited the one of its first look
abbrev pub IsBootAt : First → Base → List (Mark ℕ) → Option ℕ → Type 0
IsBootAt first.Now b marks boot = boot ≡ live_boot (standing (at_base b) marks).state
IsBootAt (first.Boot kept) b marks boot = (boot ≡ kept) × WasLiveOrBefore b marks kept

-- the boot of a Destroy whose caller had seen so many marks of the chapter, or an earlier chapter, and
-- that was let in after these further ones
abbrev pub IsBootSince : Base → Option (List (Mark ℕ)) → List (Mark ℕ) → Option ℕ → Type 0
IsBootSince b (Some seen) since boot = WasLive (standing (at_base b) seen) since boot
IsBootSince b None marks boot = WasLiveOrBefore b marks boot
