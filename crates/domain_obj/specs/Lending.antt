-- The ears of the guest that is there, lent to a pass.
use Rattle.std.specs.Prelude.{◌≡◌, ℕ, [], false, Option, None, Some}
use Rattle.domain_spec.specs.Cell.{LentEars}
use Rattle.domain_core.specs.Celled.{CellShare, Celled, KeepsOtherShares, boot_to_lend, cell_share}
use Rattle.domain_core.specs.Meaning.{history_of}
use Rattle.domain_core.specs.Core.{with_ears}
use Rattle.domain_obj.specs.InTurn.{DomainPass}
use Rattle.domain_obj.specs.Running.{Goes}
use Rattle.domain_obj.specs.declared.lending.Lent.{Lent}
use Rattle.domain_core.specs.Linked.{ears_in}
use Rattle.monitor_link.specs.Views.{EarsView, ears_view}
use Rattle.monitor_link.specs.declared.link.Ears as ears
use Rattle.domain_obj.specs.declared.lending.Lent.TheVariants as lent

-- the ears of this boot are out for this number, and have told nothing yet
abbrev pub out_for : ℕ → ℕ → LentEars
out_for n boot = record { number = n; boot = boot; told = false }

-- what is kept for a number, where it has these ears out
abbrev pub with_out : CellShare → Option LentEars → CellShare
with_out s ears = record s { kept = record s.kept { ears = ears } }

-- the pass has the ears of this boot out, which have told nothing yet
abbrev pub IsListening : ℕ → DomainPass → Type 0
IsListening boot pass = pass.share.kept.ears ≡ Some (out_for pass.number boot)

-- the turn of a pass without a mark of its own, from this cell on
pub record IsSilentTurn (found left : Celled) (before after : DomainPass) : Type 0 where
  pub goes : Goes 1 [] before after
  pub fresh : before.spent ≡ false
  pub share_was : cell_share found before.number ≡ before.share
  pub share_is : after.share ≡ cell_share left before.number
  pub saw : after.seen ≡ history_of left

-- a turn in which the ears of this boot were lent, which may be; they are those of the cell
pub record IsLent (boot : ℕ) (its : EarsView) (before after : DomainPass) : Type 0 where
  pub found : Celled
  pub left : Celled
  pub turn : IsSilentTurn found left before after
  pub can : boot_to_lend found ≡ Some boot
  pub are_its : Some its ≡ ears_in found.link
  pub share : after.share ≡ with_out before.share (Some (out_for before.number boot))

-- a turn in which the history stayed, and what is kept for the pass
pub record IsStill (found : Celled) (before after : DomainPass) : Type 0 where
  pub goes : Goes 1 [] before after
  pub saw : after.seen ≡ history_of found
  pub share : after.share ≡ before.share

-- a turn in which no ears were available
pub record IsUnheard (before after : DomainPass) : Type 0 where
  pub found : Celled
  pub still : IsStill found before after
  pub none : boot_to_lend found ≡ None

-- a turn in which there was no memory to lend them
pub record IsUnlent (before after : DomainPass) : Type 0 where
  pub found : Celled
  pub still : IsStill found before after

module _ {E : Type 0} (g : ears.Ghosts E) where
  -- what a cell lends to this number: the ears of the boot that may be lent, or nothing where none may be
  abbrev pub LendsBy : ℕ → Celled → Celled → Lent E → Type 0
  LendsBy n old new (lent.Ears boot ears) = (boot_to_lend old ≡ Some boot) × (new.core.turning ≡ with_ears old.core.turning (Some (out_for n boot))) × (Some (ears_view g ears) ≡ ears_in old.link)
  LendsBy n old new lent.Nobody = (boot_to_lend old ≡ None) × (new.core.turning ≡ old.core.turning)
  LendsBy n old new lent.NoMemory = new.core.turning ≡ old.core.turning

  pub record LendsIn (n : ℕ) (old new : Celled) (result : Lent E) : Type 0 where
    pub by : LendsBy n old new result
    pub out : new.out ≡ old.out
    pub others : KeepsOtherShares n old new

  -- what the pass knows after such a turn
  abbrev pub HasLent : DomainPass → DomainPass → Lent E → Type 0
  HasLent before after (lent.Ears boot ears) = IsLent boot (ears_view g ears) before after
  HasLent before after lent.Nobody = IsUnheard before after
  HasLent before after lent.NoMemory = IsUnlent before after
