-- What the keeper's history says of an ask: the answer is that of its last mark.
use Rattle.std.specs.Prelude.{◌≡◌, ◌++◌, ℕ, List, [], ◌∷◌, Result, Ok, Err}
use Rattle.virt_types.specs.declared.answer.Answer.{Answer}
use Rattle.virt_types.specs.declared.answer.Answer.TheVariants as answer
use Rattle.virt_types.specs.declared.answer.AnswerValue.TheVariants as given
use Rattle.virt_types.specs.declared.ask.Ask.{Ask}
use Rattle.virt_types.specs.declared.ask.Ask.TheVariants as ask
use Rattle.virt_types.specs.Below.types_base.declared.caller.Front.{Front}
use Rattle.virt_types.specs.Below.types_base.declared.memory.Failed.{Failed}
use Rattle.store_spec.specs.declared.change.Change.{Change}
use Rattle.def_keeper.specs.declared.mark.StoreAction.{StoreAction}
use Rattle.def_keeper.specs.declared.mark.StoreAction.TheVariants as action
use Rattle.def_keeper.specs.declared.mark.StoreFault.{StoreFault}
use Rattle.def_keeper.specs.declared.mark.StoreFault.TheVariants as store
use Rattle.def_keeper.specs.declared.mark.StoreMark.{StoreMark}
use Rattle.def_keeper.specs.Chapters.{by}
use Rattle.def_keeper.specs.Marks.{StoreHistory}
use Rattle.store_asks.specs.Asks.{drop_of, image_of, name_kept, put_of}
use Rattle.store_asks.specs.Keeping.{front_of}

-- the answer to a change that the keeper answered so, at this place of its history
abbrev pub told_change : Front → Result (Unit {0}) StoreFault → Answer
told_change front (Ok done) = answer.Ok (given.Front front)
told_change front (Err store.Device) = answer.Device
told_change front (Err (store.NameKept one two)) = answer.Refused name_kept

-- the history ends with the mark of this number that says what became of this change, and this is its answer
pub record Ended (number : ℕ) (c : Change) (a : Answer) (h : StoreHistory) : Type 0 where
  pub before : List StoreMark
  pub answered : Result (Unit {0}) StoreFault
  pub moment : ℕ
  pub is : h.marks ≡ before ++ by number (action.Changed c answered moment) ∷ []
  pub says : a ≡ told_change (front_of h) answered

-- a change has this answer in the last mark; without memory there may be none
abbrev pub ChangeTells : ℕ → Change → Answer → StoreHistory → Type 0
ChangeTells number c answer.NoMemory h = Unit {0}
ChangeTells number c a h = Ended number c a h

-- the answer to an image that the keeper answered so
abbrev pub told_image : Result (Unit {0}) Failed → Answer
told_image (Ok done) = answer.Ok given.Nothing
told_image (Err failed) = answer.Device

-- this is what the keeper did with this ask, and this is its answer, at this place of its history
abbrev pub IsActionOf : Ask → Front → Answer → StoreAction → Type 0
IsActionOf (ask.Put d autostart) front a (action.Changed c r moment) = (c ≡ put_of d autostart) × (a ≡ told_change front r)
IsActionOf (ask.Drop uuid) front a (action.Changed c r moment) = (c ≡ drop_of uuid) × (a ≡ told_change front r)
IsActionOf (ask.WriteImage name k running d bytes) front a (action.ImageWritten n i r) =
    (n ≡ name) × (i ≡ image_of k d running bytes) × (a ≡ told_image r)
IsActionOf other front a d = ⊥

-- the history ends with the mark of this number in which the ask has this answer
abbrev pub EndsWith : ℕ → Ask → Answer → StoreHistory → Type 0
EndsWith number question a h = (before : List StoreMark) × (d : StoreAction) × (h.marks ≡ before ++ by number d ∷ []) × IsActionOf question (front_of h) a d

-- an answer of the store is in its last mark; without memory there may be none, and there is none of a lease
abbrev pub Tells : ℕ → Ask → Answer → StoreHistory → Type 0
Tells number question answer.NoMemory h = Unit {0}
Tells number (ask.Lease network mac) a h = Unit {0}
Tells number question a h = EndsWith number question a h
