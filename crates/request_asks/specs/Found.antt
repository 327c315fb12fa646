-- What a request was found to ask, and what this left of the store's pass.
use Rattle.std.specs.Prelude.{◌≡◌, ◌⊎◌, ℕ, List, [], true, IfSome, Option, None, Some, Result}
use Rattle.files_disk.specs.Telling.{Told}
use Rattle.outcome_spec.specs.Asked.{Asks}
use Rattle.outcome_spec.specs.Restored.{IsNotRestored}
use Rattle.outcome_spec.specs.Shown.{IsShown, is_built, shown_by}
use Rattle.slot_holds.specs.Holds.{call_of}
use Rattle.outcome_spec.specs.Below.store_asks.Turning.{HasReadSaved, StorePass}
use Rattle.outcome_spec.specs.Below.store_asks.declared.restoring.SavedGuest.{SavedGuest}
use Rattle.virt_types.specs.Below.types_base.declared.memory.OrNoMemory.{OrNoMemory}
use Rattle.virt_types.specs.Below.types_base.declared.refusal.Refusal.{Refusal}
use Rattle.virt_types.specs.declared.request.Request.{Request}
use Rattle.virt_types.specs.declared.request.Request.TheVariants as request
use Rattle.request_asks.specs.Passes.{OfRows}
use Rattle.request_asks.specs.Plain.{plainly_asked}
use Rattle.request_asks.specs.Words.{IsTaskBy}
use Rattle.request_asks.specs.declared.asked.Asked.{Asked}
use Rattle.request_asks.specs.declared.asked.Asked.TheVariants as asked

-- nothing that a request says refuses it
pub record IsHeard (r : Request) : Type 0 where
  pub built : is_built r ≡ true
  pub shown : shown_by r ≡ None

-- a request that is refused by what it says asks nothing
abbrev pub AsksOnlyHeard : Asked → Request → Type 0
AsksOnlyHeard (asked.Refused why) r = Unit {0}
AsksOnlyHeard asked.NoMemory r = Unit {0}
AsksOnlyHeard other r = IsHeard r

-- what is asked is what outcomes say of the request, with the store's pass as it was before and is after
abbrev pub IsAsked : StorePass → StorePass → Asked → Request → Type 0
IsAsked before after (asked.Task hold task) r = OfRows before after (λ old new. Asks old new r (call_of hold) task)
IsAsked before after (asked.Refused why) r = IsShown r why
IsAsked before after (asked.NotRestored why front) (request.DomainRestore from) = OfRows before after (λ old new. IsNotRestored old new from front why)
IsAsked before after asked.Spent (request.DomainRestore from) = after.spent ≡ true
IsAsked before after asked.NoMemory r = Unit {0}
IsAsked before after plain r = plainly_asked r ≡ Some plain

-- words are drawn only for a task
abbrev pub IsMadeBy : StorePass → StorePass → List ℕ → Asked → Request → Type 0
IsMadeBy before after words (asked.Task hold task) r = IsTaskBy before after words r task
IsMadeBy before after words other r = words ≡ []

-- what was found out, with exactly these words drawn
pub record IsFound (before after : StorePass) (words : List ℕ) (r : Request) (a : Asked) : Type 0 where
  pub asks : IsAsked before after a r
  pub heard : AsksOnlyHeard a r
  pub plain : IfSome (plainly_asked r) (λ p. a ≡ p)
  pub made : IsMadeBy before after words a r

-- the image that a restore names
abbrev pub restored_from : Request → Option (List ℕ)
restored_from (request.DomainRestore from) = Some from
restored_from other = None

module _ {F : Type 0} (told : F → Told) (faults : F → ℕ) where
  -- in one turn the image was read, and the mark of that is all that was left
  abbrev pub HasReadOnce : List ℕ → StorePass → StorePass → Type 0
  HasReadOnce from before after = (saved : Result SavedGuest (OrNoMemory Refusal)) × HasReadSaved told faults from saved before after

  -- what a restore leaves of the store's pass
  abbrev pub RestoreLeaves : List ℕ → Asked → StorePass → StorePass → Type 0
  RestoreLeaves from (asked.Refused why) before after = after ≡ before
  RestoreLeaves from asked.Spent before after = after ≡ record before { spent = true }
  RestoreLeaves from asked.NoMemory before after = (after ≡ before) ⊎ HasReadOnce from before after
  RestoreLeaves from other before after = HasReadOnce from before after

  -- any other request leaves it the same
  abbrev pub Leaves : Option (List ℕ) → Asked → StorePass → StorePass → Type 0
  Leaves (Some from) a before after = RestoreLeaves from a before after
  Leaves None a before after = after ≡ before
