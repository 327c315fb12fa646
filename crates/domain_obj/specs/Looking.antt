-- What a call needs that looks, and which boot it carries once it is admitted.
use Rattle.std.specs.Prelude.{◌≡◌, ℕ, Option}
use Rattle.history_spec.specs.Begins.{Begins}
use Rattle.domain_spec.specs.Types.{Call, Who}
use Rattle.domain_spec.specs.Types.call
use Rattle.domain_spec.specs.declared.core_step.First.{First}
use Rattle.domain_spec.specs.declared.core_step.First.TheVariants as first
use Rattle.domain_spec.specs.Cell.{share_of}
use Rattle.domain_spec.specs.Chapter.{rising_number}
use Rattle.domain_spec.specs.Open.{IsKnownBoot}
use Rattle.domain_spec.specs.Reading.{boots_of, live_boot}
use Rattle.domain_obj.specs.Running.{DomainHistory, standing_after}
use Rattle.domain_core.specs.Celled.{Celled, cell_in}
use Rattle.domain_core.specs.Meaning.{history_of}
use Rattle.domain_core.specs.Shares.{IsFree, KeepsFirst}

-- what a call that was excluded keeps for its next look: a Destroy the boot that was live at its first one
abbrev pub first_after : First → Call → Option ℕ → First
first_after (first.Boot kept) d boot = first.Boot kept
first_after first.Now call.Destroy boot = first.Boot boot
first_after first.Now d boot = first.Now

-- the boot was live at the end of the first history, which begins the second, and was numbered there
pub record WasLiveAt (found : DomainHistory) (boot : Option ℕ) (now : DomainHistory) : Type 0 where
  pub begins : Begins rising_number found now
  pub live : live_boot (standing_after found).state ≡ boot
  pub counted : IsKnownBoot (boots_of (standing_after found).state) boot

-- the boot that is kept was live in some history which begins this one
abbrev pub KnowsFirst : First → DomainHistory → Type 0
KnowsFirst first.Now now = Unit {0}
KnowsFirst (first.Boot boot) now = (found : DomainHistory) × WasLiveAt found boot now

-- nothing is open for the number, which waits as this caller or does not wait; and the boot that is kept is known
pub record MayLook (n : ℕ) (who : Who) (d : Call) (f : First) (c : Celled) : Type 0 where
  pub free : IsFree (share_of (cell_in c) n) who
  pub keeps : KeepsFirst (share_of (cell_in c) n) who d f
  pub known : KnowsFirst f (history_of c)
