-- What the history of a domain owes each registration that its cell keeps.
use Rattle.std.specs.Prelude.{◌≡◌, ◌⊎◌, ℕ, ◌+◌, ◌==◌, List, [], ◌∷◌, ◌++◌, drop, false, find, length, slice_get, Some}
use Rattle.std.specs.List.{list_any}
use Rattle.domain_spec.specs.Types.{Transition}
use Rattle.domain_spec.specs.declared.mark.Mark.{Mark}
use Rattle.domain_spec.specs.declared.mark.Mark.TheVariants as mark
use Rattle.domain_spec.specs.declared.owed.Owed.{Owed}
use Rattle.domain_spec.specs.declared.standing.Base.{Base}
use Rattle.domain_spec.specs.declared.standing.Registration.{Registration}
use Rattle.domain_spec.specs.Cell.{Cell}
use Rattle.domain_spec.specs.Owed.{owed_at_base}
use Rattle.domain_spec.specs.Registrations.{is_numbered}

-- a registration as it was when it was made, or when the chapter began, and the marks since
pub record Origin : Type 0 where
  pub at : Registration
  pub since : List (Mark ℕ)

-- a registration as its Watch makes it: nothing was taken, and nothing pends
abbrev pub new_registration : ℕ → ℕ → Registration
new_registration number client = record { number = number; client = client; taken = 0; pending = []; is_lost = false }

-- no client registers under this number by these marks, or leaves
abbrev pub StaysOn : ℕ → List (Mark ℕ) → Type 0
StaysOn client [] = Unit {0}
StaysOn client (mark.Watch number other ∷ marks) = ((other == client) ≡ false) × StaysOn client marks
StaysOn client (mark.Unwatch number other ∷ marks) = ((other == client) ≡ false) × StaysOn client marks
StaysOn client (m ∷ marks) = StaysOn client marks

-- it was made in this chapter, by the Watch at this place
pub record IsByWatch (marks : List (Mark ℕ)) (number client : ℕ) (o : Origin) : Type 0 where
  pub place : ℕ
  pub watch : slice_get marks place ≡ Some (mark.Watch number client)
  pub since : o.since ≡ drop (place + 1) marks
  pub new : o.at ≡ new_registration number client

-- it was there when the chapter began
pub record IsByBase (b : Base) (marks : List (Mark ℕ)) (number client : ℕ) (o : Origin) : Type 0 where
  pub there : find (is_numbered client) b.registrations ≡ Some o.at
  pub numbered : o.at.number ≡ number
  pub since : o.since ≡ marks

-- where the registration of this client comes from that the pass of this number has: from its Watch in this
-- chapter, or from the base; since then none came in its place, and it did not leave
pub record IsOrigin (b : Base) (marks : List (Mark ℕ)) (number client : ℕ) (o : Origin) : Type 0 where
  pub by : IsByWatch marks number client o ⊎ IsByBase b marks number client o
  pub stays : StaysOn client o.since

-- what a registration of this origin is owed
abbrev pub owed_of : Origin → Owed
owed_of o = owed_at_base o.at o.since

-- these transitions, then what pends, and then a loss that is due
abbrev pub given_with : List Transition → Registration → Owed
given_with front r = record { events = front ++ r.pending; is_lost = r.is_lost }

-- what was taken for a registration since its origin, and then what pends for it, is what it is owed
pub record IsOwed (b : Base) (marks : List (Mark ℕ)) (r : Registration) : Type 0 where
  pub origin : Origin
  pub is_origin : IsOrigin b marks r.number r.client origin
  pub front : List Transition
  pub owed : owed_of origin ≡ given_with front r
  pub taken : r.taken ≡ origin.at.taken + length front

-- so it is with each of these
abbrev pub EachIsOwed : Base → List (Mark ℕ) → List Registration → Type 0
EachIsOwed b marks [] = Unit {0}
EachIsOwed b marks (r ∷ rs) = IsOwed b marks r × EachIsOwed b marks rs

-- no two registrations are one client's
abbrev pub AreApart : List Registration → Type 0
AreApart [] = Unit {0}
AreApart (r ∷ rs) = (list_any (is_numbered r.client) rs ≡ false) × AreApart rs

-- so it is with each of these registrations, of which no two are one client's
pub record AreOwed (b : Base) (marks : List (Mark ℕ)) (rs : List Registration) : Type 0 where
  pub apart : AreApart rs
  pub each : EachIsOwed b marks rs

-- so it is with the registrations of a cell
abbrev pub IsOwing : Cell → Type 0
IsOwing c = AreOwed c.base c.marks c.registrations
