-- What the keeper answers an ask of a domain: the answer of the change, or the image, that is made of it.
use Rattle.std.specs.Prelude.{◌≡◌, ◌⊎◌, ℕ, Option, None, Some, Result}
use Rattle.virt_types.specs.declared.answer.Answer.{Answer}
use Rattle.virt_types.specs.declared.answer.Answer.TheVariants as answer
use Rattle.virt_types.specs.declared.ask.Ask.{Ask}
use Rattle.virt_types.specs.declared.ask.Ask.TheVariants as ask
use Rattle.virt_types.specs.Below.types_base.declared.caller.Front.{Front}
use Rattle.virt_types.specs.Below.types_base.declared.memory.Fault.{Fault}
use Rattle.virt_types.specs.Below.types_base.declared.memory.OrNoMemory.{OrNoMemory}
use Rattle.files_disk.specs.Telling.{Told}
use Rattle.store_spec.specs.declared.change.Change.{Change}
use Rattle.def_keeper.specs.declared.mark.StoreFault.{StoreFault}
use Rattle.def_keeper.specs.Keeper.{Keeping}
use Rattle.store_asks.specs.Asks.{change_answer, drop_of, image_answer, image_of, no_network, put_of}
use Rattle.store_asks.specs.Keeping.{IsChanged, IsWritten}

-- there was no memory for what the ask makes, and nothing was done
abbrev pub HasNone : {K : Type 0} → K → K → Answer → Type 0
HasNone old new a = (a ≡ answer.NoMemory) × (new ≡ old)

module _ {F : Type 0} (told : F → Told) (faults : F → ℕ) where
  -- the answer is that of this change, made by this number
  abbrev pub Changes : ℕ → Change → Keeping F → Keeping F → Answer → Type 0
  Changes number c old new a = (r : Result Front (OrNoMemory StoreFault)) × IsChanged told faults number c old new r × (a ≡ change_answer r)

  -- the answer is that of the keeper to this ask, asked by this number; commands and makes are not for the keeper, and no
  -- network is there to lease from
  abbrev pub HasAnswered : ℕ → Ask → Keeping F → Keeping F → Option Answer → Type 0
  HasAnswered number (ask.Put d autostart) old new (Some a) = Changes number (put_of d autostart) old new a ⊎ HasNone old new a
  HasAnswered number (ask.Drop uuid) old new (Some a) = Changes number (drop_of uuid) old new a
  HasAnswered number (ask.WriteImage name k running d bytes) old new (Some a) =
      ((r : Result (Unit {0}) Fault) × IsWritten told faults number name (image_of k d running bytes) old new r × (a ≡ image_answer r))
      ⊎ HasNone old new a
  HasAnswered number (ask.Lease network mac) old new (Some a) = (a ≡ answer.Refused no_network) × (new ≡ old)
  HasAnswered number (ask.Command c) old new None = new ≡ old
  HasAnswered number (ask.Make d boot) old new None = new ≡ old
  HasAnswered number a old new r = ⊥
