-- Laws of cuts: what the definitions of histories ask of them.
use Rattle.std.specs.Prelude.{◌≡◌, ℕ, List, [], ◌∷◌, length, map, false, None}
use Rattle.std.specs.List.{list_any}
use Rattle.domain_spec.specs.Types.{Transition}
use Rattle.domain_spec.specs.declared.mark.Mark.{Mark}
use Rattle.domain_spec.specs.declared.standing.Registration.{Registration}
use Rattle.domain_spec.specs.declared.standing.Standing.{Standing}
use Rattle.domain_spec.specs.ChapterLaws.{Agree}
use Rattle.domain_spec.specs.Fold.{after, with_more}
use Rattle.domain_spec.specs.Legal.{IsLegal}
use Rattle.domain_spec.specs.Registrations.{is_numbered, registrations_at, with_pending}
use Rattle.domain_spec.specs.Turns.{AllHaveRoom, AreCut}
use Rattle.event_queue.specs.Telling.{cuts_due, told}

-- no two registrations are one client's
abbrev pub AreDifferent : List Registration → Type 0
AreDifferent [] = Unit {0}
AreDifferent (r ∷ rs) = (list_any (is_numbered r.client) rs ≡ false) × AreDifferent rs

-- after transitions these cuts are due and no other, and after them each registration keeps what it can
pub record AreCutThen (rs : List Registration) (events : List Transition) : Type 0 where
  pub due : AreCut (map (with_pending events) rs) (cuts_due (map (with_pending events) rs))
  pub left : registrations_at (map (with_pending events) rs) (cuts_due (map (with_pending events) rs)) ≡ map (told events) rs
  pub room : AllHaveRoom (map (told events) rs)

-- of registrations that have room
abbrev pub CutsAreDue : Type 0
CutsAreDue = (rs : List Registration) (events : List Transition) → AreDifferent rs → AllHaveRoom rs → AreCutThen rs events

-- the marks of these cuts are lawful after a mark with these transitions, which is no client's own mark
abbrev pub CutsAreLawful : Type 0
CutsAreLawful =
    (s : Standing) (rs : List Registration) (m : Mark ℕ) (events : List Transition)
    → Agree rs s → AreDifferent rs → AllHaveRoom rs → (after s m).clients ≡ map (with_more (length events)) s.clients → (after s m).lost ≡ None
    → IsLegal (after s m) (cuts_due (map (with_pending events) rs))
