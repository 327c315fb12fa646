-- What is known of a row by its passes, one for each cell: what each has seen, and the marks that it left. A row only
-- grows from request to request, so what an outcome rests on is said of the row that comes back.
use Rattle.std.specs.Prelude.{◌≡◌, ℕ, true, Bool, List, [], ◌∷◌, Option, slice_get}
use Rattle.history_spec.specs.declared.history.History.{History}
use Rattle.history_spec.specs.Begins.{Begins, IsPrefix}
use Rattle.book_spec.specs.declared.list.ListMark.{ListMark}
use Rattle.book_spec.specs.Slots.{Slots}
use Rattle.domain_spec.specs.declared.mark.Mark.{Mark}
use Rattle.domain_spec.specs.declared.standing.Base.{Base}
use Rattle.domain_spec.specs.Chapter.{rising_number}
use Rattle.store_asks.specs.Below.def_keeper.declared.mark.StoreBase.{StoreBase}
use Rattle.store_asks.specs.Below.def_keeper.declared.mark.StoreMark.{StoreMark}

-- a pass of one cell: the history as it last saw it, its own marks with the numbers of their chapters, and whether no
-- ticket is left
pub record Known (B M : Type 0) : Type 0 where
  pub number : ℕ
  pub seen : History B M
  pub mine : List (ℕ × M)
  pub spent : Bool

-- what a pass of a domain knows
abbrev pub DomainPass : Type 0
DomainPass = Known Base (Mark ℕ)

-- the passes of a row: of the list of domains, of the store, and of the domain in each slot
pub record KnownRow : Type 0 where
  pub list : Known Slots ListMark
  pub store : Known StoreBase StoreMark
  pub domains : List DomainPass

-- the pass of the domain in this slot
abbrev pub pass_of : KnownRow → ℕ → Option DomainPass
pass_of row slot = slice_get row.domains slot

-- nothing of a base rises
abbrev pub level : {B M : Type 0} → B → List M → ℕ
level base marks = 0

-- a pass, and the same later: it saw more, left more marks, and stays spent once it is
pub record IsLater {B M : Type 0} (rising : B → List M → ℕ) (before after : Known B M) : Type 0 where
  pub number : after.number ≡ before.number
  pub seen : Begins rising before.seen after.seen
  pub mine : IsPrefix before.mine after.mine
  pub spent : before.spent ≡ true → after.spent ≡ true

-- of passes one by one
abbrev pub AreLater : List DomainPass → List DomainPass → Type 0
AreLater [] [] = Unit {0}
AreLater (p ∷ ps) (q ∷ qs) = IsLater rising_number p q × AreLater ps qs
AreLater ps qs = ⊥

-- a row, and the same later
pub record HasGone (before after : KnownRow) : Type 0 where
  pub list : IsLater level before.list after.list
  pub store : IsLater level before.store after.store
  pub domains : AreLater before.domains after.domains
