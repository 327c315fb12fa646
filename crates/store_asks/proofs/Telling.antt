-- A change is told by the last mark that it leaves.
use Rattle.std.proofs.Common.{◌≡◌, ◌⊎◌, ◌∙◌, ◌++◌, List, [], ◌∷◌, ℕ, Bool, Option, Result, Ok, Err, IfOk, inl, inr, ap, append_assoc, refl, sym}
use Rattle.virt_types.specs.declared.answer.Answer.{Answer}
use Rattle.virt_types.specs.declared.answer.Answer.TheVariants as answer
use Rattle.virt_types.specs.declared.answer.AnswerValue.TheVariants as given
use Rattle.virt_types.specs.declared.ask.Ask.TheVariants as ask
use Rattle.virt_types.specs.Below.types_base.declared.caller.Front.{Front}
use Rattle.virt_types.specs.Below.types_base.declared.domain_def.DomainDef.{DomainDef}
use Rattle.virt_types.specs.Below.types_base.declared.memory.OrNoMemory.{OrNoMemory}
use Rattle.virt_types.specs.Below.types_base.declared.memory.OrNoMemory.TheVariants as or
use Rattle.store_spec.specs.declared.change.Change.{Change}
use Rattle.store_spec.specs.Changes.{Definitions}
use Rattle.def_keeper.specs.declared.mark.DefKey.{DefKey}
use Rattle.def_keeper.specs.declared.mark.StoreAction.TheVariants as action
use Rattle.def_keeper.specs.declared.mark.StoreFault.{StoreFault}
use Rattle.def_keeper.specs.declared.mark.StoreFault.TheVariants as store
use Rattle.def_keeper.specs.declared.mark.StoreMark.{StoreMark}
use Rattle.def_keeper.specs.Calls.{HasLeft}
use Rattle.def_keeper.specs.Chapters.{by, with_marks}
use Rattle.def_keeper.specs.Marks.{StoreHistory}
use Rattle.store_asks.specs.Asks.{change_answer, drop_of, put_of}
use Rattle.store_asks.specs.Keeping.{front_of}
use Rattle.store_asks.specs.Told.{ChangeTells, Ended, Tells}

-- of marks that end with this one the history does
ending : (opened new : StoreHistory) (more first : List StoreMark) (x : StoreMark) → more ≡ first ++ x ∷ [] → new ≡ with_marks more opened → new.marks ≡ (opened.marks ++ first) ++ x ∷ []
ending opened new more first x is left = ap (λ (h : StoreHistory). h.marks) left ∙ (ap (λ ms. opened.marks ++ ms) is ∙ sym (append_assoc opened.marks first (x ∷ [])))

failing : (number : ℕ) (c : Change) (moment : ℕ) (opened new : StoreHistory) (more first : List StoreMark)
    → (more ≡ first ++ by number (action.Changed c (Err store.Device) moment) ∷ [])
    ⊎ (more ≡ first ++ by number (action.Tried c) ∷ by number (action.Changed c (Err store.Device) moment) ∷ [])
    → new ≡ with_marks more opened → Ended number c answer.Device new
failing number c moment opened new more first (inl is) left = record {
  before = opened.marks ++ first;
  answered = Err store.Device;
  moment = moment;
  is = ending opened new more first _ is left;
  says = refl;
}
failing number c moment opened new more first (inr is) left = record {
  before = opened.marks ++ (first ++ by number (action.Tried c) ∷ []);
  answered = Err store.Device;
  moment = moment;
  is = ending opened new more (first ++ by number (action.Tried c) ∷ []) _ (is ∙ sym (append_assoc first (by number (action.Tried c) ∷ []) _)) left;
  says = refl;
}

-- the last mark of a change gives its answer
pub change_tells : (number : ℕ) (c : Change) (doubt : Option DefKey) (map : Definitions) (moment : ℕ) (opened new : StoreHistory) (r : Result Front (OrNoMemory StoreFault))
    → IfOk r (λ front. front ≡ front_of new) → HasLeft number c doubt map moment opened new r → ChangeTells number c (change_answer r) new
change_tells number c doubt map moment opened new (Ok front) at left = record {
  before = opened.marks ++ left.1.0;
  answered = Ok tt;
  moment = moment;
  is = ending opened new left.0 left.1.0 _ left.1.2 left.2;
  says = ap (λ f. answer.Ok (given.Front f)) at;
}
change_tells number c doubt map moment opened new (Err (or.Fault store.Device)) at left = failing number c moment opened new left.0 left.1.0 left.1.2 left.2
change_tells number c doubt map moment opened new (Err (or.Fault (store.NameKept one two))) at left = record {
  before = opened.marks ++ [];
  answered = Err (store.NameKept one two);
  moment = moment;
  is = ending opened new left.0 [] _ left.1 left.2;
  says = refl;
}
change_tells number c doubt map moment opened new (Err or.NoMemory) at left = tt

-- so is that of a put, and of a drop
pub put_tells : (number : ℕ) (d : DomainDef) (autostart : Bool) (a : Answer) (h : StoreHistory) → ChangeTells number (put_of d autostart) a h → Tells number (ask.Put d autostart) a h
put_tells number d autostart (answer.Ok v) h ended = (ended.before, action.Changed (put_of d autostart) ended.answered ended.moment, ended.is, (refl, ended.says))
put_tells number d autostart (answer.Refused class) h ended = (ended.before, action.Changed (put_of d autostart) ended.answered ended.moment, ended.is, (refl, ended.says))
put_tells number d autostart (answer.Ended why) h ended = (ended.before, action.Changed (put_of d autostart) ended.answered ended.moment, ended.is, (refl, ended.says))
put_tells number d autostart answer.Lost h ended = (ended.before, action.Changed (put_of d autostart) ended.answered ended.moment, ended.is, (refl, ended.says))
put_tells number d autostart answer.Device h ended = (ended.before, action.Changed (put_of d autostart) ended.answered ended.moment, ended.is, (refl, ended.says))
put_tells number d autostart answer.NoMemory h ended = tt

pub drop_tells : (number : ℕ) (uuid : List ℕ) (a : Answer) (h : StoreHistory) → ChangeTells number (drop_of uuid) a h → Tells number (ask.Drop uuid) a h
drop_tells number uuid (answer.Ok v) h ended = (ended.before, action.Changed (drop_of uuid) ended.answered ended.moment, ended.is, (refl, ended.says))
drop_tells number uuid (answer.Refused class) h ended = (ended.before, action.Changed (drop_of uuid) ended.answered ended.moment, ended.is, (refl, ended.says))
drop_tells number uuid (answer.Ended why) h ended = (ended.before, action.Changed (drop_of uuid) ended.answered ended.moment, ended.is, (refl, ended.says))
drop_tells number uuid answer.Lost h ended = (ended.before, action.Changed (drop_of uuid) ended.answered ended.moment, ended.is, (refl, ended.says))
drop_tells number uuid answer.Device h ended = (ended.before, action.Changed (drop_of uuid) ended.answered ended.moment, ended.is, (refl, ended.says))
drop_tells number uuid answer.NoMemory h ended = tt
