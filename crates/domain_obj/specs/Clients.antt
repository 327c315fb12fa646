-- A client over a domain registers, takes what pends for it, and leaves, each in one turn of its pass.
use Rattle.std.specs.Prelude.{◌≡◌, ◌<◌, ◌≤◌, ◌+◌, ◌-◌, ◌++◌, ◌||◌, ℕ, List, [], ◌∷◌, drop, find, is_some, length, Bool, true, false, Some, Result, Ok, Err}
use Rattle.history_spec.specs.Begins.{Begins}
use Rattle.history_spec.specs.Chapter.{tagged}
use Rattle.virt_types.specs.Below.types_base.declared.memory.NoMemory.{NoMemory}
use Rattle.domain_spec.specs.Types.{Transition}
use Rattle.domain_spec.specs.declared.mark.Mark.{Mark}
use Rattle.domain_spec.specs.declared.mark.Mark.TheVariants as mark
use Rattle.domain_spec.specs.declared.standing.Registration.{Registration}
use Rattle.domain_spec.specs.Cell.{Taken, share_of}
use Rattle.domain_spec.specs.Chapter.{rising_number}
use Rattle.domain_spec.specs.Registrations.{is_numbered}
use Rattle.domain_spec.specs.TakeUp.{is_vacant}
use Rattle.domain_core.specs.Below.core_flight.Ledger.{with_marks}
use Rattle.domain_core.specs.Below.core_owed.Owing.{IsOrigin, Origin, owed_of}
use Rattle.domain_core.specs.Below.core_owed.Taking.{taken_by}
use Rattle.domain_core.specs.Celled.{CellShare, Celled, KeepsOtherShares, cell_in, cell_share}
use Rattle.domain_core.specs.Clients.{WatchesSo}
use Rattle.domain_core.specs.Meaning.{history_of}
use Rattle.domain_core.specs.OfShares.{with_its, without_its}
use Rattle.domain_core.specs.OfTurns.{WatchFault}
use Rattle.domain_core.specs.Below.core_steps.declared.watching.WatchFault.TheVariants as fault
use Rattle.domain_obj.specs.InTurn.{DomainPass}
use Rattle.domain_obj.specs.Running.{DomainHistory, Goes, standing_after}
use Rattle.domain_obj.specs.declared.clients.Took.{Took}

-- the pass, unless no ticket is left for it, has a registration of this client
abbrev pub HasRegistered : ℕ → DomainPass → Type 0
HasRegistered client pass = pass.spent ≡ false → is_some (taken_by pass.share.kept.registrations client) ≡ true

-- what is kept for a number, where this was taken for its registrations
abbrev pub with_takings : CellShare → List Taken → CellShare
with_takings s taken = record s { kept = record s.kept { registrations = taken } }

-- the marks by which a registration ends, where it is to: one that was cut has ended already
abbrev pub end_marks : Bool → Bool → ℕ → ℕ → List (Mark ℕ)
end_marks true false n client = mark.Unwatch n client ∷ []
end_marks end lost n client = []

-- what was taken for each registration, once so much was for this client's, or it is gone
abbrev pub takings_after : Bool → List Taken → ℕ → ℕ → List Taken
takings_after true before client taken = without_its before client
takings_after false before client taken = with_its before client (record { client = client; taken = taken } ∷ [])

-- all that pended for the registration was taken, then a loss that was due; where it is to end, it ended
pub record TakesIn (n client : ℕ) (end : Bool) (old new : Celled) (r : Registration) : Type 0 where
  pub found : find (is_numbered client) (cell_in old).registrations ≡ Some r
  pub numbered : r.number ≡ n
  pub history : history_of new ≡ with_marks (history_of old) (end_marks end r.is_lost n client)
  pub share :
      cell_share new n
      ≡ with_takings (cell_share old n) (takings_after (r.is_lost || end) (share_of (cell_in old) n).registrations client (r.taken + length r.pending))
  pub others : KeepsOtherShares n old new

-- so it was with the registration of this client, whose loss was due or not
pub record Settles (n client : ℕ) (end : Bool) (old new : Celled) (lost : Bool) : Type 0 where
  pub registration : Registration
  pub takes : TakesIn n client end old new registration
  pub lost_is : lost ≡ registration.is_lost

-- the history stays, and what is kept for each number
pub record StaysIn (n : ℕ) (old new : Celled) : Type 0 where
  pub history : history_of new ≡ history_of old
  pub share : cell_share new n ≡ cell_share old n
  pub others : KeepsOtherShares n old new

-- what a client is handed is what pended, and whether its loss was due; where there was no memory all stays
abbrev pub HandsOver : ℕ → ℕ → Bool → Celled → Celled → Result Took NoMemory → Type 0
HandsOver n client end old new (Ok took) = (r : Registration) × TakesIn n client end old new r × (took.events ≡ r.pending) × (took.is_lost ≡ r.is_lost)
HandsOver n client end old new (Err e) = StaysIn n old new

-- a turn of the pass in which all that pended for this client was taken, and then a loss that was due: that is what its
-- registration is owed by the history that was found, but for what was taken before. Where it is to end, or its loss was
-- told, the pass has it no more; else it stays, with all taken
pub record HasTakenEvents (client : ℕ) (end : Bool) (before after : DomainPass) (events : List Transition) (lost : Bool) : Type 0 where
  pub fresh : before.spent ≡ false
  pub found : DomainHistory
  pub since : Begins rising_number before.seen found
  pub goes : Goes 1 (tagged found.chapter (end_marks end lost before.number client)) before after
  pub saw : after.seen ≡ with_marks found (end_marks end lost before.number client)
  pub had : ℕ
  pub registered : taken_by before.share.kept.registrations client ≡ Some had
  pub origin : Origin
  pub is_origin : IsOrigin found.base found.marks before.number client origin
  pub counted : origin.at.taken ≤ had
  pub events_are : events ≡ drop (had - origin.at.taken) (owed_of origin).events
  pub lost_is : lost ≡ (owed_of origin).is_lost
  pub share :
      after.share ≡ with_takings before.share (takings_after (lost || end) before.share.kept.registrations client (had + length events))

-- a turn in which the history stayed, and what is kept for the pass
pub record IsUntaken (before after : DomainPass) : Type 0 where
  pub fresh : before.spent ≡ false
  pub goes : Goes 1 [] before after
  pub share : after.share ≡ before.share

-- what a client took; where there was no memory for it all stays
abbrev pub HasTaken : ℕ → Bool → DomainPass → DomainPass → Result Took NoMemory → Type 0
HasTaken client end before after (Ok took) = HasTakenEvents client end before after took.events took.is_lost
HasTaken client end before after (Err e) = IsUntaken before after

-- what it would have taken was dropped, and its registration ended
pub record HasDropped (client : ℕ) (before after : DomainPass) : Type 0 where
  pub events : List Transition
  pub lost : Bool
  pub taken : HasTakenEvents client true before after events lost

-- the client has a registration that did not end
abbrev pub IsRegisteredIn : DomainHistory → ℕ → Type 0
IsRegisteredIn h client = (number : ℕ) × (origin : Origin) × IsOrigin h.base h.marks number client origin

-- a turn in which a client registered, by its one mark, under the least number below 16 that has no registration
pub record HasRegisteredNow (client : ℕ) (before after : DomainPass) : Type 0 where
  pub fresh : before.spent ≡ false
  pub found : DomainHistory
  pub since : Begins rising_number before.seen found
  pub goes : Goes 1 (tagged found.chapter (mark.Watch before.number client ∷ [])) before after
  pub saw : after.seen ≡ with_marks found (mark.Watch before.number client ∷ [])
  pub domain : is_vacant (standing_after found).state ≡ false
  pub below : client < 16
  pub least : (k : ℕ) → k < client → IsRegisteredIn found k
  pub share : after.share ≡ with_takings before.share (before.share.kept.registrations ++ record { client = client; taken = 0 } ∷ [])

-- why a client could not register
abbrev pub IsWhyNot : DomainHistory → WatchFault → Type 0
IsWhyNot h fault.Vacant = is_vacant (standing_after h).state ≡ true
IsWhyNot h (fault.Full count) = (is_vacant (standing_after h).state ≡ false) × (count ≡ 16) × ((k : ℕ) → k < 16 → IsRegisteredIn h k)
IsWhyNot h fault.NoMemory = Unit {0}

-- what became of a client that wanted to register; but for a want of memory the history that was found says why not
abbrev pub HasWatched : DomainPass → DomainPass → Result ℕ WatchFault → Type 0
HasWatched before after (Ok client) = HasRegisteredNow client before after
HasWatched before after (Err why) = IsUntaken before after × IsWhyNot after.seen why

-- it registered in this cell, or not
pub record WatchesIn (n : ℕ) (old new : Celled) (result : Result ℕ WatchFault) : Type 0 where
  pub watches : WatchesSo n old.core.turning new.core.turning result
  pub out : new.out ≡ old.out
  pub others : KeepsOtherShares n old new
