-- What comes of an image that was read for a restore.
use Rattle.std.proofs.Common.{◌≡◌, ◌∙◌, ◌++◌, ℕ, List, [], ◌∷◌, true, None, Some, Result, Ok, Err, ap, inl, inr, refl, subst, sym}
use Rattle.outcome_spec.specs.Below.domain_requests.Requests.{IsUnnamed}
use Rattle.def_keeper.specs.Chapters.{by}
use Rattle.def_keeper.specs.declared.mark.StoreBase.{StoreBase}
use Rattle.def_keeper.specs.declared.mark.StoreAction.{StoreAction}
use Rattle.def_keeper.specs.declared.mark.StoreAction.TheVariants as action
use Rattle.def_keeper.specs.declared.mark.StoreMark.{StoreMark}
use Rattle.files_disk.specs.Telling.{Told}
use Rattle.history_spec.specs.Chapter.{tagged}
use Rattle.outcome_spec.specs.Marks.{HasLeft, StandsAt}
use Rattle.outcome_spec.specs.Restored.{IsNotRestored, IsWhy}
use Rattle.outcome_spec.specs.Rows.{Known, KnownRow}
use Rattle.outcome_spec.specs.Shown.{name_shown}
use Rattle.outcome_spec.specs.Below.store_asks.Restoring.{IsToldOf, as_read}
use Rattle.outcome_spec.specs.Below.store_asks.Turning.{EndsIn, HasReadSaved, ReadTells, StorePass}
use Rattle.outcome_spec.specs.Below.store_asks.declared.restoring.SavedGuest.{SavedGuest}
use Rattle.store_spec.specs.declared.image.Image.{Image}
use Rattle.store_spec.specs.declared.image.ImageFault.{ImageFault}
use Rattle.virt_types.specs.Name.{bad_place}
use Rattle.virt_types.specs.Below.types_base.declared.caller.Front.{Front}
use Rattle.virt_types.specs.Below.types_base.declared.memory.OrNoMemory.{OrNoMemory}
use Rattle.virt_types.specs.Below.types_base.declared.memory.OrNoMemory.TheVariants as or
use Rattle.virt_types.specs.Below.types_base.declared.refusal.Refusal.{Refusal}
use Rattle.virt_types.specs.declared.request.Request.TheVariants as request
use Rattle.request_asks.specs.Found.{IsFound, IsHeard, RestoreLeaves}
use Rattle.request_asks.specs.Passes.{known}
use Rattle.request_asks.specs.Said.{refused_by}
use Rattle.request_asks.specs.Turns.{HasRead, IsOnly, IsRestoredBy, IsToRestore}
use Rattle.request_asks.specs.Words.{HasReadGuest}
use Rattle.request_asks.specs.declared.asked.Asked.{Asked}
use Rattle.request_asks.specs.declared.asked.Asked.TheVariants as asked
use Rattle.request_asks.proofs.Marks.{left_one, stands_last}

abbrev StoreKnown : Type 0
StoreKnown = Known StoreBase StoreMark

-- ---- the name
heard : (from : List ℕ) → bad_place from ≡ None → IsHeard (request.DomainRestore from)
heard from good = record { built = refl; shown = ap (name_shown from) good }

pub unnamed_found : (from : List ℕ) (e : OrNoMemory Refusal) (pass : StorePass) → IsUnnamed from e → IsFound pass pass [] (request.DomainRestore from) (refused_by e)
unnamed_found from (or.Fault why) pass (at, bad, is) = record { asks = inl (ap (name_shown from) bad ∙ ap Some (sym is)); heard = tt; plain = tt; made = refl }
unnamed_found from or.NoMemory pass is = record { asks = tt; heard = tt; plain = tt; made = refl }

-- no ticket was left
pub spent_found : (from : List ℕ) (before after : StorePass) → bad_place from ≡ None → after ≡ record before { spent = true } → IsFound before after [] (request.DomainRestore from) asked.Spent
spent_found from before after good is = record { asks = ap (λ (p : StorePass). p.spent) is; heard = heard from good; plain = tt; made = refl }

-- ---- the mark
module _ {F : Type 0} (told : F → Told) (faults : F → ℕ) where
  -- the pass's own marks, where one was left
  mine_after : (from : List ℕ) (saved : Result SavedGuest (OrNoMemory Refusal)) (m : StoreMark) (before after : StorePass) (h : HasReadSaved told faults from saved before after) → h.more ≡ m ∷ [] → after.mine ≡ before.mine ++ (after.seen.chapter, m) ∷ []
  mine_after from saved m before after h one = subst (λ (more : List StoreMark). after.mine ≡ before.mine ++ tagged after.seen.chapter more) one h.went.mine

  -- by its number
  numbered : (from : List ℕ) (saved : Result SavedGuest (OrNoMemory Refusal)) (d : StoreAction) (before after : StorePass) (h : HasReadSaved told faults from saved before after) → h.more ≡ by before.number d ∷ [] → h.more ≡ by after.number d ∷ []
  numbered from saved d before after h one = one ∙ ap (λ (n : ℕ). by n d ∷ []) (sym h.went.same.number)

  left_read : (from : List ℕ) (saved : Result SavedGuest (OrNoMemory Refusal)) (d : StoreAction) (before after : StorePass) (h : HasReadSaved told faults from saved before after) → h.more ≡ by before.number d ∷ [] → HasLeft (known before) (known after) (by after.number d)
  left_read from saved d before after h one = left_one (known before) (known after) after.seen.chapter (by after.number d) (mine_after from saved (by after.number d) before after h (numbered from saved d before after h one))

  -- ---- a guest
  read_guest : (from : List ℕ) (g : SavedGuest) (before after : StorePass) (h : HasReadSaved told faults from (Ok g) before after) → ReadTells before.number from (Ok g) h.more → HasReadGuest before after from g
  read_guest from g before after h (inl (Ok i, one, tells)) = (i, left_read from (Ok g) (action.ImageRead from (Ok i)) before after h one, tells)
  read_guest from g before after h (inl (Err f, one, tells)) = absurd cc
  read_guest from g before after h (inr (none, tells)) = absurd cc

  restores : (words from : List ℕ) (g : SavedGuest) (a : Asked) (before after : StorePass) → bad_place from ≡ None → HasReadGuest before after from g → IsToRestore words g a → IsFound before after words (request.DomainRestore from) a
  restores words from g a before after good (i, left, is_saved) it = subst (IsFound before after words (request.DomainRestore from)) (sym it.asks) (record {
    asks = λ old new one other. (g, it.definition, (i, subst (λ (s : StoreKnown × StoreKnown). HasLeft s.0 s.1 (by s.1.number (action.ImageRead from (Ok i)))) (λ j. (sym one j, sym other j)) left, is_saved, (words, it.filled)), it.claims, refl);
    heard = heard from good;
    plain = tt;
    made = (g, it.definition, ((i, left, is_saved), it.filled), refl);
  })

  -- ---- no guest
  stands_read : (from : List ℕ) (saved : Result SavedGuest (OrNoMemory Refusal)) (front : Front) (d : StoreAction) (before after : StorePass) (h : HasRead told faults from saved front before after) → h.read.more ≡ by before.number d ∷ [] → StandsAt (known before) (known after) front (by after.number d)
  stands_read from saved front d before after h one =
      let is : h.read.more ≡ by after.number d ∷ [] = numbered from saved d before after h.read one in
      let ends : EndsIn after.seen (by after.number d ∷ []) = subst (λ (more : List StoreMark). EndsIn after.seen more) is h.ends in
      subst (λ (f : Front). StandsAt (known before) (known after) f (by after.number d)) (sym h.place)
      (stands_last (known before) (known after) ends.0 (by after.number d) (mine_after from saved (by after.number d) before after h.read is) ends.1)

  not_restored : (from : List ℕ) (why : Refusal) (front : Front) (r : Result Image ImageFault) (before after : StorePass) → StandsAt (known before) (known after) front (by after.number (action.ImageRead from r)) → IsWhy r why
      → (old new : KnownRow) → old.store ≡ known before → new.store ≡ known after → IsNotRestored old new from front why
  not_restored from why front r before after stands is old new one other = record {
    read = r;
    stands = subst (λ (s : StoreKnown × StoreKnown). StandsAt s.0 s.1 front (by s.1.number (action.ImageRead from r))) (λ j. (sym one j, sym other j)) stands;
    is = is;
  }

  why_not : (why : Refusal) (r : Result Image ImageFault) → IsToldOf (as_read r) (Err (or.Fault why)) → IsWhy r why
  why_not why (Ok i) tells = tells
  why_not why (Err f) tells = cc

  refuses : (from : List ℕ) (why : Refusal) (front : Front) (before after : StorePass) → bad_place from ≡ None → (h : HasRead told faults from (Err (or.Fault why)) front before after) → ReadTells before.number from (Err (or.Fault why)) h.read.more
      → IsFound before after [] (request.DomainRestore from) (asked.NotRestored why front)
  refuses from why front before after good h (inl (r, one, tells)) = record {
    asks = not_restored from why front r before after (stands_read from (Err (or.Fault why)) front (action.ImageRead from r) before after h one) (why_not why r tells);
    heard = heard from good;
    plain = tt;
    made = refl;
  }
  refuses from why front before after good h (inr (none, tells)) = absurd cc

  none_found : (words from : List ℕ) (a : Asked) (before after : StorePass) → IsOnly words asked.NoMemory a → IsFound before after words (request.DomainRestore from) a
  none_found words from a before after (none, is) = subst (IsFound before after words (request.DomainRestore from)) (sym is) (record { asks = tt; heard = tt; plain = tt; made = none })

  only_refuses : (words from : List ℕ) (why : Refusal) (front : Front) (a : Asked) (before after : StorePass) → IsOnly words (asked.NotRestored why front) a → IsFound before after [] (request.DomainRestore from) (asked.NotRestored why front) → IsFound before after words (request.DomainRestore from) a
  only_refuses words from why front a before after (none, is) found = subst (λ (x : List ℕ × Asked). IsFound before after x.0 (request.DomainRestore from) x.1) (λ j. (sym none j, sym is j)) found

  -- ---- whatever was read
  pub read_found : (words from : List ℕ) (saved : Result SavedGuest (OrNoMemory Refusal)) (front : Front) (a : Asked) (before after : StorePass) → bad_place from ≡ None → HasRead told faults from saved front before after → IsRestoredBy words saved front a
      → IsFound before after words (request.DomainRestore from) a
  read_found words from (Ok g) front a before after good h (inl it) = restores words from g a before after good (read_guest from g before after h.read h.read.tells) it
  read_found words from (Ok g) front a before after good h (inr only) = none_found words from a before after only
  read_found words from (Err (or.Fault why)) front a before after good h only = only_refuses words from why front a before after only (refuses from why front before after good h h.read.tells)
  read_found words from (Err or.NoMemory) front a before after good h only = none_found words from a before after only

  leaves_as : (from : List ℕ) (a is : Asked) (before after : StorePass) → a ≡ is → RestoreLeaves told faults from is before after → RestoreLeaves told faults from a before after
  leaves_as from a is before after same leaves = subst (λ (x : Asked). RestoreLeaves told faults from x before after) (sym same) leaves

  pub read_leaves : (words from : List ℕ) (saved : Result SavedGuest (OrNoMemory Refusal)) (front : Front) (a : Asked) (before after : StorePass) → HasRead told faults from saved front before after → IsRestoredBy words saved front a
      → RestoreLeaves told faults from a before after
  read_leaves words from (Ok g) front a before after h (inl it) = leaves_as from a _ before after it.asks (Ok g, h.read)
  read_leaves words from (Ok g) front a before after h (inr only) = leaves_as from a asked.NoMemory before after only.1 (inr (Ok g, h.read))
  read_leaves words from (Err (or.Fault why)) front a before after h only = leaves_as from a (asked.NotRestored why front) before after only.1 (Err (or.Fault why), h.read)
  read_leaves words from (Err or.NoMemory) front a before after h only = leaves_as from a asked.NoMemory before after only.1 (inr (Err or.NoMemory, h.read))

  pub unnamed_leaves : (from : List ℕ) (e : OrNoMemory Refusal) (pass : StorePass) → RestoreLeaves told faults from (refused_by e) pass pass
  unnamed_leaves from (or.Fault why) pass = refl
  unnamed_leaves from or.NoMemory pass = inl refl
