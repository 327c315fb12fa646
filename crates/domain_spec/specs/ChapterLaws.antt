-- Laws of chapters: what is at a base is what was there when it was made.
use Rattle.std.specs.Prelude.{◌≡◌, ℕ, List, [], map, false, None, ◌∷◌, ◌==◌}
use Rattle.domain_spec.specs.declared.mark.Mark.{Mark}
use Rattle.domain_spec.specs.declared.mark.Mark.TheVariants as mark
use Rattle.domain_spec.specs.declared.owed.Owed.{Owed}
use Rattle.domain_spec.specs.declared.standing.Base.{Base}
use Rattle.domain_spec.specs.declared.standing.Client.{Client}
use Rattle.domain_spec.specs.declared.standing.Registration.{Registration}
use Rattle.domain_spec.specs.declared.standing.Standing.{Standing}
use Rattle.domain_spec.specs.Chapter.{next_base, rising_number}
use Rattle.domain_spec.specs.Fold.{after, at_base, registered, standing, transitions_of}
use Rattle.domain_spec.specs.Owed.{owed_at_base}
use Rattle.domain_spec.specs.Registrations.{cut_after, registrations_after, registrations_taken, with_pending}

-- a client, whenever its transitions came
abbrev pub as_before : Client → Client
as_before c = record c { before = c.total }

-- the registrations that are kept are those of the history, each with as many transitions
abbrev pub Agree : List Registration → Standing → Type 0
Agree rs s = registered rs ≡ map as_before s.clients

-- the registrations of a base are those of its chapter; each mark, and each taking, keeps it so
pub record RegistrationsAgree : Type 0 where
  pub first : (b : Base) → Agree b.registrations (at_base b)
  pub marked : (s : Standing) (rs : List Registration) (m : Mark ℕ) → Agree rs s → Agree (registrations_after rs m) (after s m)
  pub taken : (s : Standing) (rs : List Registration) (client : ℕ) → Agree rs s → Agree (registrations_taken rs client) s

-- what was there where a chapter ended is there where the next one begins
abbrev pub BaseKeeps : Type 0
BaseKeeps =
    (s : Standing) (rs : List Registration) → s.job ≡ None → s.lost ≡ None → Agree rs s
    → at_base (next_base s rs) ≡ record s { just_admitted = false; clients = map as_before s.clients }

-- the number that rises goes on from chapter to chapter
abbrev pub RisingGoesOn : Type 0
RisingGoesOn =
    (b : Base) (marks : List (Mark ℕ)) (rs : List Registration)
    → rising_number (next_base (standing (at_base b) marks) rs) [] ≡ rising_number b marks

-- one registration after a mark
abbrev pub one_after : Registration → Mark ℕ → Registration
one_after r (mark.Cut client total taken) = cut_after client total r
one_after r m = with_pending (transitions_of m) r

-- one registration after these marks
abbrev pub one_at : Registration → List (Mark ℕ) → Registration
one_at r [] = r
one_at r (m ∷ marks) = one_at (one_after r m) marks

-- what pends, and then a loss that is due
abbrev pub pending_of : Registration → Owed
pending_of r = record { events = r.pending; is_lost = r.is_lost }

-- its client does not leave by these marks
abbrev pub IsNotLeft : ℕ → List (Mark ℕ) → Type 0
IsNotLeft client [] = Unit {0}
IsNotLeft client (mark.Unwatch number other ∷ marks) = ((other == client) ≡ false) × IsNotLeft client marks
IsNotLeft client (m ∷ marks) = IsNotLeft client marks

-- what pends for a registration of a base, of which nothing was taken since, is what it is owed
abbrev pub PendingIsOwed : Type 0
PendingIsOwed = (r : Registration) (marks : List (Mark ℕ)) → IsNotLeft r.client marks → owed_at_base r marks ≡ pending_of (one_at r marks)
