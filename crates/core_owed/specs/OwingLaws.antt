-- Laws of what registrations are owed.
use Rattle.std.specs.Prelude.{◌≡◌, ◌≤◌, ℕ, ◌-◌, List, [], drop, Bool, Option, Some}
use Rattle.domain_spec.specs.Types.{DomainDef}
use Rattle.domain_spec.specs.declared.core_step.CoreStep.{CoreStep}
use Rattle.domain_spec.specs.declared.core_step.CoreStep.TheVariants as step
use Rattle.domain_spec.specs.declared.mark.Mark.{Mark}
use Rattle.domain_spec.specs.declared.mark.Mark.TheVariants as mark
use Rattle.domain_spec.specs.declared.standing.Base.{Base}
use Rattle.domain_spec.specs.declared.standing.Registration.{Registration}
use Rattle.domain_spec.specs.Cell.{Cell}
use Rattle.domain_spec.specs.Owed.{owed_since}
use Rattle.domain_spec.specs.Turns.{IsOpened, IsTurn, Leads}
use Rattle.core_owed.specs.Owing.{IsByWatch, IsOrigin, IsOwed, IsOwing, Origin, owed_of}

-- what a client takes, and a chapter's end, leave no mark
abbrev pub LeavesNone : CoreStep ℕ → List (Mark ℕ) → Type 0
LeavesNone (step.Take n client) left = left ≡ []
LeavesNone (step.Rotate n who) left = left ≡ []
LeavesNone other left = Unit {0}

-- where the store was opened nobody is registered
abbrev pub OpenedIsOwed : Type 0
OpenedIsOwed = (c : Cell) (stored : Option DomainDef) (autostart : Bool) → IsOpened c stored autostart → IsOwing c

-- each turn keeps what registrations are owed, a chapter's end too
abbrev pub TurnsKeepOwed : Type 0
TurnsKeepOwed = (c d : Cell) (t : CoreStep ℕ) (left : List (Mark ℕ)) → IsTurn c t left → Leads c t left d → LeavesNone t left → IsOwing c → IsOwing d

-- what pends is what is owed but for what was taken since; then a loss that is due
pub record Pends (o : Origin) (r : Registration) : Type 0 where
  pub counted : o.at.taken ≤ r.taken
  pub pending : r.pending ≡ drop (r.taken - o.at.taken) (owed_of o).events
  pub lost : r.is_lost ≡ (owed_of o).is_lost

abbrev pub PendingIsRest : Type 0
PendingIsRest = (b : Base) (marks : List (Mark ℕ)) (r : Registration) → IsOwed b marks r → (o : Origin) × IsOrigin b marks r.number r.client o × Pends o r

-- what is owed by a Watch is what is owed since its place
abbrev pub WatchIsOwedSince : Type 0
WatchIsOwedSince =
    (marks : List (Mark ℕ)) (number client : ℕ) (o : Origin) (h : IsByWatch marks number client o) → owed_since marks h.place ≡ Some (owed_of o)
