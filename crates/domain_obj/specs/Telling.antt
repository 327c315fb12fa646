-- What ears heard is told to the domain, and they are given back.
use Rattle.std.specs.Prelude.{◌≡◌, ℕ, List, Option, None, Some}
use Rattle.domain_spec.specs.Types.reason
use Rattle.domain_spec.specs.declared.core_step.CoreStep.{CoreStep}
use Rattle.domain_spec.specs.declared.core_step.CoreStep.TheVariants as step
use Rattle.domain_spec.specs.declared.mark.Mark.{Mark}
use Rattle.domain_spec.specs.Reading.{is_live}
use Rattle.domain_core.specs.Celled.{Celled, KeepsOtherShares, standing_in}
use Rattle.domain_core.specs.Core.{with_ears}
use Rattle.domain_core.specs.OfTurns.{HasTurned, Turning}
use Rattle.domain_obj.specs.InTurn.{DomainPass}
use Rattle.domain_core.specs.Tickets.{IsHeardCounted}
use Rattle.domain_core.specs.OfTurns.{applies_now, event_marks, exit_marks}
use Rattle.monitor_link.specs.declared.link.Heard.{Heard}
use Rattle.monitor_link.specs.declared.link.Heard.TheVariants as heard
use Rattle.domain_obj.specs.Lending.{IsSilentTurn, with_out}
use Rattle.domain_obj.specs.declared.said.Told.{Told}
use Rattle.domain_obj.specs.declared.said.Told.TheVariants as told

-- what is told of what was heard: a lost link is an end for that reason, which ears cannot report themselves
abbrev pub told_of : Heard → Option Told
told_of (heard.Event e) = Some (told.Event e)
told_of heard.Lost = Some (told.End reason.Lost)
told_of (heard.Ended reason.Lost) = None
told_of (heard.Ended why) = Some (told.End why)
told_of other = None

-- an end is told only where the ears counted its cause
abbrev pub IsToldCounted : ℕ → ℕ → Option Told → Type 0
IsToldCounted ends faults (Some (told.End why)) = IsHeardCounted ends faults why
IsToldCounted ends faults other = Unit {0}

-- the step by which it applies, and the marks that this leaves
abbrev pub step_of : ℕ → Told → CoreStep ℕ
step_of boot (told.Event e) = step.Event boot e
step_of boot (told.End why) = step.Exit boot why

abbrev pub marks_of : Celled → ℕ → Told → List (Mark ℕ)
marks_of c boot (told.Event e) = event_marks (applies_now (standing_in c) (standing_in c).job boot) (record { boot = boot; event = e }) (standing_in c).state c.core.turning.listeners
marks_of c boot (told.End why) = exit_marks (is_live (standing_in c).state boot) boot why c.core.turning.listeners

-- what is told applies to the domain of this cell; where nothing is told it stays
abbrev pub Applies : ℕ → Option Told → Celled → Turning → Type 0
Applies boot None old new = new ≡ old.core.turning
Applies boot (Some t) old new = HasTurned old.core.turning new (step_of boot t) (marks_of old boot t)

-- it is told under this number
pub record TellsIn (n boot : ℕ) (t : Option Told) (old new : Celled) : Type 0 where
  pub applies : Applies boot t old new.core.turning
  pub out : new.out ≡ old.out
  pub others : KeepsOtherShares n old new

-- and then the ears are given back
pub record IsToldIn (n boot : ℕ) (t : Option Told) (old new : Celled) : Type 0 where
  pub between : Celled
  pub tells : TellsIn n boot t old between
  pub back : new.core.turning ≡ with_ears between.core.turning None
  pub out : new.out ≡ between.out
  pub others : KeepsOtherShares n between new

-- a turn in which it was told of this boot, and the ears were given back
pub record IsTold (boot : ℕ) (t : Option Told) (before after : DomainPass) : Type 0 where
  pub found : Celled
  pub left : Celled
  pub turn : IsSilentTurn found left before after
  pub told_in : IsToldIn before.number boot t found left
  pub share : after.share ≡ with_out before.share None
