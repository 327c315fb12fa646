-- What is left of the share of a number whose call gives up, or for which a chapter ends.
use Rattle.std.specs.Prelude.{◌≡◌, ◌⊎◌, ℕ, List, None}
use Rattle.domain_spec.specs.Types.{Call, RefusalCode, Who}
use Rattle.domain_spec.specs.declared.core_step.CoreStep.TheVariants as step
use Rattle.domain_spec.specs.declared.mark.Mark.{Mark}
use Rattle.domain_spec.specs.Cell.{Cell, Share, share_of}
use Rattle.domain_spec.specs.Kept.{left_queue}
use Rattle.domain_spec.specs.Turns.{IsTurn, Leads}
use Rattle.core_steps.specs.Refusing.{HasRefused}
use Rattle.core_steps.specs.Turning.{Takes, Turning}
use Rattle.core_step_laws.specs.Staying.{RestStays}

-- nobody waits by the number any more; all else stays
abbrev pub WaitsNoMore : Share → Share → Type 0
WaitsNoMore s t = t ≡ record s { waits = None }

-- so it is with each call that gives up
abbrev pub RefusalsKeep : Type 0
RefusalsKeep =
    (old new : Turning) (n : ℕ) (who : Who) (d : Call) (why : RefusalCode) → Takes old new (step.GiveUp n who d) (HasRefused n who d why)
    → WaitsNoMore (share_of old.cell n) (share_of new.cell n)

-- and where a number leaves the queue, and nothing else changes
abbrev pub LeaversKeep : Type 0
LeaversKeep = (c : Cell) (n : ℕ) (who : Who) → WaitsNoMore (share_of c n) (share_of (record c { queue = left_queue c.queue n who }) n)

-- a chapter ended: no call is open, before and after
pub record IsRotated (s t : Share) : Type 0 where
  pub rest : RestStays s t
  pub none_before : s.call ≡ None
  pub none_after : t.call ≡ None
  pub waits : (t.waits ≡ s.waits) ⊎ (t.waits ≡ None)

-- so it is with each chapter's end
abbrev pub ChaptersKeep : Type 0
ChaptersKeep =
    (c d : Cell) (n : ℕ) (who : Who) (left : List (Mark ℕ)) → IsTurn c (step.Rotate n who) left → Leads c (step.Rotate n who) left d
    → IsRotated (share_of c n) (share_of d n)
