-- What asking the keeper in a turn of its own tells the pass that had the turn.
use Rattle.std.specs.Prelude.{◌≡◌, ◌⊎◌, ◌++◌, ℕ, List, [], ◌∷◌, Option, IfSome, Result, Err}
use Rattle.virt_types.specs.declared.answer.Answer.{Answer}
use Rattle.virt_types.specs.declared.answer.Answer.TheVariants as answer
use Rattle.virt_types.specs.declared.ask.Ask.{Ask}
use Rattle.virt_types.specs.declared.ask.Ask.TheVariants as ask
use Rattle.virt_types.specs.Below.types_base.declared.caller.Front.{Front}
use Rattle.virt_types.specs.Below.types_base.declared.memory.OrNoMemory.{OrNoMemory}
use Rattle.virt_types.specs.Below.types_base.declared.memory.OrNoMemory.TheVariants as or
use Rattle.store_spec.specs.declared.image.Image.{Image}
use Rattle.store_spec.specs.declared.image.ImageFault.{ImageFault}
use Rattle.virt_types.specs.Below.types_base.declared.refusal.Refusal.{Refusal}
use Rattle.history_spec.specs.Chapter.{tagged}
use Rattle.files_disk.specs.Telling.{Told}
use Rattle.turn_cell.specs.Passes.{Passed}
use Rattle.turn_cell.specs.Turning.{Went}
use Rattle.def_keeper.specs.declared.mark.StoreBase.{StoreBase}
use Rattle.def_keeper.specs.declared.mark.StoreAction.{StoreAction}
use Rattle.def_keeper.specs.declared.mark.StoreAction.TheVariants as action
use Rattle.def_keeper.specs.declared.mark.StoreMark.{StoreMark}
use Rattle.def_keeper.specs.Chapters.{by}
use Rattle.def_keeper.specs.Keeper.{Keeping}
use Rattle.def_keeper.specs.Marks.{StoreHistory}
use Rattle.def_keeper.specs.Turns.{meaning}
use Rattle.store_asks.specs.declared.restoring.SavedGuest.{SavedGuest}
use Rattle.store_asks.specs.Answers.{HasAnswered}
use Rattle.store_asks.specs.Keeping.{front_of}
use Rattle.store_asks.specs.Restoring.{IsToldOf, Reads, as_read}
use Rattle.store_asks.specs.Told.{IsActionOf}

-- a pass of the store's cell
abbrev pub StorePass : Type 0
StorePass = Passed StoreBase StoreMark (Unit {0})

-- what was only tried is no answer to anybody
abbrev pub IsTried : StoreAction → Type 0
IsTried (action.Tried c) = Unit {0}
IsTried other = ⊥

-- so of each of these marks
abbrev pub AreTried : List StoreMark → Type 0
AreTried [] = Unit {0}
AreTried (m ∷ ms) = IsTried m.action × AreTried ms

-- of these marks the last one gives this answer to the ask, and it alone is an answer
abbrev pub LastTells : ℕ → Ask → Front → Answer → List StoreMark → Type 0
LastTells number question front a more =
    (first : List StoreMark) × (d : StoreAction) × (more ≡ first ++ by number d ∷ []) × IsActionOf question front a d × AreTried first

-- where there was no memory none is an answer, and of a lease there is none
abbrev pub MarksTell : ℕ → Ask → Front → Answer → List StoreMark → Type 0
MarksTell number question front answer.NoMemory more = AreTried more
MarksTell number (ask.Lease network mac) front a more = more ≡ []
MarksTell number question front a more = LastTells number question front a more

-- the one mark says what was read, and what a restore is told of that; without memory there is none
abbrev pub ReadTells : ℕ → List ℕ → Result SavedGuest (OrNoMemory Refusal) → List StoreMark → Type 0
ReadTells number name result more =
    ((r : Result Image ImageFault) × (more ≡ by number (action.ImageRead name r) ∷ []) × IsToldOf (as_read r) result)
    ⊎ ((more ≡ []) × (result ≡ Err or.NoMemory))

-- a history ends with these marks
abbrev pub EndsIn : StoreHistory → List StoreMark → Type 0
EndsIn h more = (earlier : List StoreMark) × (h.marks ≡ earlier ++ more)

module _ {F : Type 0} (told : F → Told) (faults : F → ℕ) where
  -- a pass, after a turn in which the store was asked: what the store answered, and the marks that this left
  pub record HasAsked (question : Ask) (result : Option Answer) (before after : StorePass) : Type 0 where
    pub found : Keeping F
    pub left : Keeping F
    pub more : List StoreMark
    pub answered : HasAnswered told faults before.number question found left result
    pub seen : after.seen ≡ left.history
    pub ends : EndsIn after.seen more
    pub tells : IfSome result (λ a. MarksTell before.number question (front_of after.seen) a more)
    pub went : Went (meaning told) 1 (tagged after.seen.chapter more) before after

  -- a pass, after a turn in which an image was read for a restore
  pub record HasReadSaved (name : List ℕ) (result : Result SavedGuest (OrNoMemory Refusal)) (before after : StorePass) : Type 0 where
    pub found : Keeping F
    pub left : Keeping F
    pub more : List StoreMark
    pub read : Reads told faults before.number name found left result
    pub seen : after.seen ≡ left.history
    pub tells : ReadTells before.number name result more
    pub went : Went (meaning told) 1 (tagged after.seen.chapter more) before after
