-- Which histories are legal: each mark is lawful after the marks before it.
use Rattle.std.specs.Prelude.{◌≡◌, ℕ, ◌+◌, ◌^◌, ◌<◌, ◌≤◌, ◌⊎◌, List, [], ◌∷◌, find, take, slice_get, true, false, Option, None, Some}
use Rattle.std.specs.List.{list_any}
use Rattle.domain_spec.specs.Types.reason
use Rattle.domain_spec.specs.declared.mark.Mark.{Mark}
use Rattle.domain_spec.specs.declared.mark.Mark.TheVariants as mark
use Rattle.domain_spec.specs.declared.standing.Client.{Client}
use Rattle.domain_spec.specs.declared.standing.Standing.{Standing}
use Rattle.domain_spec.specs.Exit.{event_transitions, exit_transitions}
use Rattle.domain_spec.specs.Fold.{after, is_client, standing}
use Rattle.domain_spec.specs.Lawful.{IsAdmitted, IsDone, IsEnded, IsLawfulRefusal, IsPhased, IsStarted, IsTakenUp}
use Rattle.domain_spec.specs.Reading.{is_live}

-- the registration of this client
abbrev pub client_named : List Client → ℕ → Option Client
client_named clients client = find (is_client client) clients

-- a registration is ended by the pass that made it
abbrev pub IsUnwatched : Option Client → ℕ → Type 0
IsUnwatched None number = ⊥
IsUnwatched (Some c) number = number ≡ c.number

-- 256 pended, or 2^62 had come, when the last mark brought one more
pub record IsCutOf (c : Client) (total taken : ℕ) : Type 0 where
  pub not_before : c.before ≤ total
  pub passed : total < c.total
  pub full : (total ≡ taken + 256) ⊎ (total ≡ 2 ^ 62)
  pub all : taken ≤ total

-- the registration is there, and is cut
abbrev pub IsCut : Option Client → ℕ → ℕ → Type 0
IsCut None total taken = ⊥
IsCut (Some c) total taken = IsCutOf c total taken

-- a client registers, leaves, or is cut
abbrev pub IsOfClient : List Client → Mark ℕ → Type 0
IsOfClient clients (mark.Watch number client) = list_any (is_client client) clients ≡ false
IsOfClient clients (mark.Unwatch number client) = IsUnwatched (client_named clients client) number
IsOfClient clients (mark.Cut client total taken) = IsCut (client_named clients client) total taken
IsOfClient clients other = ⊥

-- when one more mark is lawful, but for a loss that has to be marked
abbrev pub IsInOrder : Standing → Mark ℕ → Type 0
IsInOrder s (mark.Admit number who wanted c boot) = IsAdmitted s number who wanted c boot
IsInOrder s (mark.Done number who c boot asks answers r events) = IsDone s s.job number who c boot asks answers r events
IsInOrder s (mark.Refused number who c why held) = IsLawfulRefusal s who c why held
IsInOrder s (mark.Start number who c boot) = IsStarted s s.job number who c boot
IsInOrder s (mark.TakeUp number who c) = IsTakenUp s s.job number who c
IsInOrder s (mark.Phase number who p asks answers next events) = IsPhased s s.job s.operation number who p asks answers next events
IsInOrder s (mark.End number who r) = IsEnded s s.operation number who r
IsInOrder s (mark.Exit boot why events) = (is_live s.state boot ≡ true) × (events ≡ exit_transitions why)
IsInOrder s (mark.Event boot e events) = (is_live s.state boot ≡ true) × (s.job ≡ None) × (events ≡ event_transitions s.state e)
IsInOrder s other = IsOfClient s.clients other

-- where a monitor was lost, the end of its boot is the next mark
abbrev pub MarksLoss : Option ℕ → Mark ℕ → Type 0
MarksLoss None m = Unit {0}
MarksLoss (Some lost) (mark.Exit boot why events) = (boot ≡ lost) × (why ≡ reason.Lost)
MarksLoss (Some lost) m = ⊥

-- when one more mark is lawful
pub record IsLawful (s : Standing) (m : Mark ℕ) : Type 0 where
  pub in_order : IsInOrder s m
  pub loss : MarksLoss s.lost m

-- each mark is lawful after those before it
abbrev pub IsLegal : Standing → List (Mark ℕ) → Type 0
IsLegal s [] = Unit {0}
IsLegal s (m ∷ marks) = IsLawful s m × IsLegal (after s m) marks

-- there is a mark, and it is not lawful
abbrev pub IsUnlawful : Standing → Option (Mark ℕ) → Type 0
IsUnlawful s None = ⊥
IsUnlawful s (Some m) = IsLawful s m → ⊥

-- the first mark that is not lawful is at this place
pub record IsFirstFault (s : Standing) (marks : List (Mark ℕ)) (place : ℕ) : Type 0 where
  pub before : IsLegal s (take place marks)
  pub fault : IsUnlawful (standing s (take place marks)) (slice_get marks place)
