-- A domain's registrations with their rings.
use Rattle.std.specs.Prelude.{◌≡◌, ℕ, ◌+◌, ◌<◌, ◌-◌, List, [], ◌∷◌, ◌++◌, find, is_some, length, map, Bool, true, false, Option, None, Some, if◌then◌else◌}
use Rattle.std.specs.List.{list_any}
use Rattle.domain_spec.specs.Types.{Transition}
use Rattle.domain_spec.specs.declared.mark.Mark.{Mark}
use Rattle.domain_spec.specs.declared.mark.Mark.TheVariants as mark
use Rattle.domain_spec.specs.declared.standing.Registration.{Registration}
use Rattle.domain_spec.specs.Registrations.{is_numbered, tells_loss, with_pending}
use Rattle.event_queue.specs.declared.cut.Cut.{Cut}
use Rattle.event_queue.specs.declared.taken.Taken.{Taken}
use Rattle.event_queue.specs.declared.taken.Taken.TheVariants as taken
use Rattle.event_queue.specs.Telling.{cuts_due, is_over, most_of, told}

-- a registration, and how many pended as it was cut
pub record Listening : Type 0 where
  pub kept : Registration
  pub lost : ℕ

-- so many pended as it was cut, which it is where these transitions are too many
abbrev pub lost_by : List Transition → Listening → ℕ
lost_by events l = if is_over (with_pending events l.kept) then most_of l.kept else l.lost

-- after these transitions
abbrev pub hears : List Transition → Listening → Listening
hears events l = record { kept = told events l.kept; lost = lost_by events l }

-- one that is new
abbrev pub new_listening : ℕ → ℕ → Listening
new_listening number client = record { kept = record { number = number; client = client; taken = 0; pending = []; is_lost = false }; lost = 0 }

-- it is this client's
abbrev pub is_of : ℕ → Listening → Bool
is_of client l = is_numbered client l.kept

-- the registrations alone
abbrev pub registrations : List Listening → List Registration
registrations ls = map (λ l. l.kept) ls

-- a client is registered
abbrev pub has_client : List Listening → ℕ → Bool
has_client ls client = list_any (is_of client) ls

-- no two registrations are one client's
abbrev pub AreApart : List Listening → Type 0
AreApart [] = Unit {0}
AreApart (l ∷ ls) = (has_client ls l.kept.client ≡ false) × AreApart ls

-- a client gets the least number below 16 that no registration has
pub record IsLeastFree (ls : List Listening) (client : ℕ) : Type 0 where
  pub below : client < 16
  pub free : has_client ls client ≡ false
  pub least : (n : ℕ) → n < client → has_client ls n ≡ true

-- each number below 16 has a registration
abbrev pub AreAllTaken : List Listening → Type 0
AreAllTaken ls = (n : ℕ) → n < 16 → has_client ls n ≡ true

-- all that pended was taken
abbrev pub emptied : Listening → Listening
emptied l = record l { kept = record l.kept { taken = l.kept.taken + length l.kept.pending; pending = [] } }

-- the client's registration, emptied
abbrev pub emptied_by : List Listening → ℕ → List Listening
emptied_by [] client = []
emptied_by (l ∷ ls) client = if is_of client l then emptied l ∷ ls else l ∷ emptied_by ls client

-- the client's registration is gone
abbrev pub left_by : List Listening → ℕ → List Listening
left_by [] client = []
left_by (l ∷ ls) client = if is_of client l then ls else l ∷ left_by ls client

-- the registration of this client
abbrev pub listening_of : List Listening → ℕ → Option Listening
listening_of ls client = find (is_of client) ls

-- how many pended as it was cut, where nothing pends any more
abbrev pub loss_told : Option Listening → Option ℕ
loss_told None = None
loss_told (Some l) = if tells_loss l.kept then Some l.lost else None

-- what pends for it
abbrev pub pending_of : Option Listening → List Transition
pending_of None = []
pending_of (Some l) = l.kept.pending

-- the client took what pended for it; a registration whose loss was told is gone
abbrev pub taken_by : List Listening → ℕ → List Listening
taken_by ls client = if is_some (loss_told (listening_of ls client)) then left_by ls client else emptied_by ls client

-- it is lost
abbrev pub is_lost : Option Listening → Bool
is_lost None = false
is_lost (Some l) = l.kept.is_lost

-- what pended was let go of, and then a loss that was due
abbrev pub dropped_by : List Listening → ℕ → List Listening
dropped_by ls client = if is_lost (listening_of ls client) then left_by ls client else emptied_by ls client

-- what a client is handed out: its loss where that is due and nothing pends, else all that pends
abbrev pub HandsOut : Option Listening → Taken → Type 0
HandsOut l (taken.Events events) = (loss_told l ≡ None) × (events ≡ pending_of l)
HandsOut l (taken.Lost count) = loss_told l ≡ Some count

-- the registrations of a domain, and the Cut marks that are due since the last transitions
pub record Registered : Type 0 where
  pub listeners : List Listening
  pub due : List (Mark ℕ)

-- the mark of a registration's end
abbrev pub cut_mark : Cut → Mark ℕ
cut_mark c = mark.Cut c.client c.total c.taken

-- the registrations after these transitions
abbrev pub heard : List Transition → List Listening → Registered
heard events ls = record { listeners = map (hears events) ls; due = cuts_due (map (with_pending events) (registrations ls)) }
