-- A turn in which an image is read for a restore. No public clause cites these.
use Rattle.std.specs.Prelude.{◌≡◌, ◌⊎◌, ℕ, List, [], Result, Ok, Err}
use Rattle.files_disk.specs.Telling.{Told}
use Rattle.outcome_spec.specs.Below.domain_requests.declared.task.Task.TheVariants as task
use Rattle.outcome_spec.specs.Asked.{claim_of}
use Rattle.outcome_spec.specs.Histories.{front_of}
use Rattle.slot_holds.specs.Holds.{call_of}
use Rattle.slot_holds.specs.declared.Hold.{Hold}
use Rattle.outcome_spec.specs.Below.store_asks.Turning.{EndsIn, HasReadSaved, StorePass}
use Rattle.outcome_spec.specs.Below.store_asks.declared.restoring.SavedGuest.{SavedGuest}
use Rattle.text_spec.specs.Fill.{IsFilledBy}
use Rattle.virt_types.specs.declared.call.Call.TheVariants as call
use Rattle.virt_types.specs.Below.types_base.declared.caller.Front.{Front}
use Rattle.virt_types.specs.Below.types_base.declared.domain_def.DomainDef.{DomainDef}
use Rattle.virt_types.specs.Below.types_base.declared.memory.OrNoMemory.{OrNoMemory}
use Rattle.virt_types.specs.Below.types_base.declared.memory.OrNoMemory.TheVariants as or
use Rattle.virt_types.specs.Below.types_base.declared.refusal.Refusal.{Refusal}
use Rattle.request_asks.specs.declared.asked.Asked.{Asked}
use Rattle.request_asks.specs.declared.asked.Asked.TheVariants as asked

-- the guest is to be restored, with what its definition lacked made of these words
pub record IsToRestore (words : List ℕ) (g : SavedGuest) (a : Asked) : Type 0 where
  pub hold : Hold
  pub definition : DomainDef
  pub filled : IsFilledBy words g.definition definition
  pub claims : call_of hold ≡ claim_of definition
  pub asks : a ≡ asked.Task hold (task.Run (call.Restore definition g.running g.state))

-- nothing is asked, and no word was drawn
abbrev pub IsOnly : List ℕ → Asked → Asked → Type 0
IsOnly words is a = (words ≡ []) × (a ≡ is)

-- what comes of a guest that was read
abbrev pub IsRestoredGuest : List ℕ → SavedGuest → Asked → Type 0
IsRestoredGuest words g a = IsToRestore words g a ⊎ IsOnly words asked.NoMemory a

-- what comes of a read whose mark is at this place
abbrev pub IsRestoredBy : List ℕ → Result SavedGuest (OrNoMemory Refusal) → Front → Asked → Type 0
IsRestoredBy words (Ok g) front a = IsRestoredGuest words g a
IsRestoredBy words (Err (or.Fault why)) front a = IsOnly words (asked.NotRestored why front) a
IsRestoredBy words (Err or.NoMemory) front a = IsOnly words asked.NoMemory a

-- the image was read, and its mark is the last one that the pass has seen, at this place
pub record HasRead {F : Type 0} (told : F → Told) (faults : F → ℕ) (from : List ℕ) (saved : Result SavedGuest (OrNoMemory Refusal)) (front : Front) (before after : StorePass) : Type 0 where
  pub read : HasReadSaved told faults from saved before after
  pub ends : EndsIn after.seen read.more
  pub place : front ≡ front_of after.seen
