-- What a boot's end and a guest's event leave of the share of each number.
use Rattle.std.specs.Prelude.{◌≡◌, ℕ, List, option_map}
use Rattle.domain_spec.specs.declared.core_step.CoreStep.{CoreStep}
use Rattle.domain_spec.specs.declared.core_step.CoreStep.TheVariants as step
use Rattle.domain_spec.specs.declared.mark.Mark.{Mark}
use Rattle.domain_spec.specs.Cell.{Cell, Share, share_of}
use Rattle.domain_spec.specs.Kept.{told_of}
use Rattle.domain_spec.specs.Turns.{IsTurn, Leads}
use Rattle.core_step_laws.specs.Shares.{AsksStay}

-- what ears hear
abbrev pub IsHeard : CoreStep ℕ → Type 0
IsHeard (step.Exit boot why) = Unit {0}
IsHeard (step.Event boot e) = Unit {0}
IsHeard other = ⊥

-- what its ears heard was told; all else stays
abbrev pub EarsTold : Share → Share → Type 0
EarsTold s t = t ≡ record s { ears = option_map told_of s.ears }

-- so it is for each number, where what is asked stays
abbrev pub HearingsKeep : Type 0
HearingsKeep =
    (c d : Cell) (t : CoreStep ℕ) (n : ℕ) (left : List (Mark ℕ)) → IsHeard t → IsTurn c t left → Leads c t left d → ((m : ℕ) → AsksStay m c d)
    → EarsTold (share_of c n) (share_of d n)
