-- Changes that are made one after another in a store that was just opened.
use Rattle.std.proofs.Common.{◌≡◌, ◌∙◌, ◌++◌, ◌<◌, ◌≤◌, ◌&&◌, Bool, false, ℕ, List, [], ◌∷◌, Option, None, Some, Result, Ok, Err, append_assoc, append-nil, ap, arith, length, length-append, nat_le, is_none, refl, subst, sym}
use Rattle.std.specs.Prelude.{All, if◌then◌else◌}
use Rattle.std.specs.List.{AllZip}
use Rattle.std.proofs.lemmas.Bool.Decides.{nat_tests}
use Rattle.std.proofs.lemmas.List.Elements.{All-head, All-tail}
use Rattle.outside_spec.specs.Faults.{Rose}
use Rattle.virt_types.specs.Below.types_base.declared.memory.OrNoMemory.{OrNoMemory}
use Rattle.virt_types.specs.Below.types_base.declared.memory.OrNoMemory.TheVariants as or
use Rattle.files_disk.specs.Telling.{Told}
use Rattle.store_spec.specs.declared.change.Change.{Change}
use Rattle.store_spec.specs.declared.kind.BookKind.{BookKind}
use Rattle.store_spec.specs.Changes.{Definitions, after, changed, entry_of, is_of, kind_of}
use Rattle.def_keeper.specs.declared.mark.DefKey.{DefKey}
use Rattle.def_keeper.specs.declared.mark.StoreAction.TheVariants as action
use Rattle.def_keeper.specs.declared.mark.StoreFault.{StoreFault}
use Rattle.def_keeper.specs.declared.mark.StoreFault.TheVariants as store
use Rattle.def_keeper.specs.declared.mark.StoreMark.{StoreMark}
use Rattle.def_keeper.specs.Calls.{CanBeMade, HasDevice, HasLeft, Refuses}
use Rattle.def_keeper.specs.Chapters.{Settles, by, open_chapter, with_marks}
use Rattle.def_keeper.specs.Keeper.{Keeping}
use Rattle.def_keeper.specs.Marks.{StoreHistory}
use Rattle.def_keeper.proofs.Knowing.{opens_same}
use Rattle.def_map.specs.Map.{found}
use Rattle.driver_store.specs.Again.{HasPut, IsCauseOf, IsMarkOf, IsNotPut}
use Rattle.driver_store.specs.Faults.{of_change}

-- ---- lists
pub zip_push : {X Y : Type 0} (R : X → Y → Type 0) (xs : List X) (ys : List Y) (x : X) (y : Y) → AllZip R xs ys → R x y → AllZip R (xs ++ x ∷ []) (ys ++ y ∷ [])
zip_push R [] [] x y all r = (r, tt)
zip_push R [] (z ∷ ys) x y all r = absurd all
zip_push R (z ∷ xs) [] x y all r = absurd all
zip_push R (z ∷ xs) (w ∷ ys) x y all r = (all.0, zip_push R xs ys x y all.1 r)

pub zip_length : {X Y : Type 0} (R : X → Y → Type 0) (xs : List X) (ys : List Y) → AllZip R xs ys → length ys ≡ length xs
zip_length R [] [] all = refl
zip_length R [] (y ∷ ys) all = absurd all
zip_length R (x ∷ xs) [] all = absurd all
zip_length R (x ∷ xs) (y ∷ ys) all = let rest = zip_length R xs ys all.1 in omega (arith, rest)

-- what comes next is one of all
can_in : (xs rest : List Change) (c : Change) → All CanBeMade (xs ++ c ∷ rest) → CanBeMade c
can_in [] rest c all = All-head CanBeMade c rest all
can_in (x ∷ xs) rest c all = can_in xs rest c (All-tail CanBeMade x (xs ++ c ∷ rest) all)

pub can_next : (xs before rest again : List Change) (c : Change) → before ≡ c ∷ rest → xs ++ before ≡ again → All CanBeMade again → CanBeMade c
can_next xs before rest again c is whole all = can_in xs rest c (subst (All CanBeMade) (sym whole ∙ ap (λ (l : List Change). xs ++ l) is) all)

pub whole_next : (xs before rest again : List Change) (c : Change) → before ≡ c ∷ rest → xs ++ before ≡ again → (xs ++ c ∷ []) ++ rest ≡ again
whole_next xs before rest again c is whole = append_assoc xs (c ∷ []) rest ∙ (ap (λ (l : List Change). xs ++ l) (sym is) ∙ whole)

pub few_next : (xs before again : List Change) → xs ++ before ≡ again → length again < 4096 → length xs < 4096
few_next xs before again whole few = omega (arith, ap (λ (l : List Change). length l) whole, length-append xs before, few)

-- ---- maps
changed_alike : (c : Change) (m n : Definitions) (k : BookKind) (u : List ℕ) → m k u ≡ n k u → changed c m k u ≡ changed c n k u
unfolding changed
changed_alike c m n k u e = ap (λ x. if is_of c k u then entry_of c else x) e

after_last : (m : Definitions) (cs : List Change) (c : Change) (k : BookKind) (u : List ℕ) → after m (cs ++ c ∷ []) k u ≡ changed c (after m cs) k u
after_last m [] c k u = refl
after_last m (d ∷ cs) c k u = after_last (changed d m) cs c k u

-- ---- histories
none_more : (h : StoreHistory) → h ≡ with_marks [] h
none_more h = ap (λ (ms : List StoreMark). record h { marks = ms }) (sym (append-nil h.marks))

both_more : (h : StoreHistory) (xs ys : List StoreMark) → with_marks ys (with_marks xs h) ≡ with_marks (xs ++ ys) h
both_more h xs ys = ap (λ (ms : List StoreMark). record h { marks = ms }) (append_assoc h.marks xs ys)

not_long : (n : ℕ) (b : Bool) → n < 4096 → false ≡ (nat_le 4096 n && b)
not_long n b few = let no : nat_le 4096 n ≡ false = grind (arith, nat_tests, few) in rw no refl

-- so few marks were left that the chapter goes on
same_chapter : {F : Type 0} (told : Told) (old mid : Keeping F) (cs : List Change) → HasPut cs old mid → old.history.marks ≡ [] → length cs < 4096 → mid.history ≡ open_chapter told mid.map mid.doubt mid.history
same_chapter told old mid cs put none few =
    let marks : mid.history.marks ≡ old.history.marks ++ put.marks = ap (λ (h : StoreHistory). h.marks) put.history in
    let long : length mid.history.marks ≡ length cs = ap (λ (l : List StoreMark). length l) (marks ∙ ap (λ (l : List StoreMark). l ++ put.marks) none) ∙ zip_length IsMarkOf cs put.marks put.made in
    opens_same told mid.history mid.map mid.doubt false (not_long (length mid.history.marks) (is_none mid.doubt) (omega (arith, long, few))) refl

pub put_none : {F : Type 0} (k : Keeping F) → k.doubt ≡ None → HasPut [] k k
put_none k e = record { marks = []; made = tt; history = none_more k.history; map = λ x u. refl; doubt = e }

settled_none : (d : Option DefKey) (m : Definitions) (first : List StoreMark) → d ≡ None → Settles 0 d m first → first ≡ []
settled_none None m first e s = s
settled_none (Some key) m first e s = absurd cc

rose_later : (start before now : ℕ) → start ≤ before → Rose before now → Rose start now
rose_later start before now le rose = omega (arith, le, rose)

cause_of : (A : Type 0) (c : Change) (m : Definitions) (start before now : ℕ) (kind : BookKind) (e : OrNoMemory StoreFault) → start ≤ before → kind ≡ kind_of c → Refuses {A = A} c m (Err e)
    → HasDevice {A = A} before now (Err e) → IsCauseOf c m start now (of_change kind e)
cause_of A c m start before now kind (or.Fault store.Device) le k refused device = rose_later start before now le device
cause_of A c m start before now kind (or.Fault (store.NameKept one two)) le k refused device = (k, refused.1, refused.0)
cause_of A c m start before now kind or.NoMemory le k refused device = tt

module _ {F : Type 0} (A : Type 0) (told : Told) (moment : ℕ) (old mid new : Keeping F) (cs : List Change) (c : Change) where
  abbrev Left : Result A (OrNoMemory StoreFault) → Type 0
  Left r = HasLeft 0 c mid.doubt (found mid.map) moment (open_chapter told mid.map mid.doubt mid.history) new.history r

  -- the change was made, and left its mark after the others
  pub put_more : (a : A) → HasPut cs old mid → old.history.marks ≡ [] → length cs < 4096 → Left (Ok a)
      → ((k : BookKind) (u : List ℕ) → found new.map k u ≡ changed c (found mid.map) k u) → new.doubt ≡ None → HasPut (cs ++ c ∷ []) old new
  put_more a put none few left made doubt =
      let last : List StoreMark = by 0 (action.Changed c (Ok tt) moment) ∷ [] in
      let marks : left.0 ≡ last = left.1.2 ∙ ap (λ (l : List StoreMark). l ++ last) (settled_none mid.doubt (found mid.map) left.1.0 put.doubt left.1.1) in
      record {
        marks = put.marks ++ last;
        made = zip_push IsMarkOf cs put.marks c (by 0 (action.Changed c (Ok tt) moment)) put.made (moment, refl);
        history = left.2
            ∙ (ap (λ (l : List StoreMark). with_marks l (open_chapter told mid.map mid.doubt mid.history)) marks
            ∙ (ap (λ (h : StoreHistory). with_marks last h) (sym (same_chapter told old mid cs put none few) ∙ put.history)
            ∙ both_more old.history put.marks last));
        map = λ k u. made k u ∙ (changed_alike c (found mid.map) (after (found old.map) cs) k u (put.map k u) ∙ sym (after_last (found old.map) cs c k u));
        doubt = doubt;
      }

  -- the change was not made
  pub put_not : (faults : F → ℕ) (kind : BookKind) (e : OrNoMemory StoreFault) (before rest again : List Change) → before ≡ c ∷ rest → cs ++ before ≡ again → HasPut cs old mid → old.history.marks ≡ []
      → length cs < 4096 → Left (Err e) → faults old.files ≤ faults mid.files → kind ≡ kind_of c → Refuses {A = A} c (found mid.map) (Err e) → HasDevice {A = A} (faults mid.files) (faults new.files) (Err e)
      → IsNotPut faults again old new (of_change kind e)
  put_not faults kind e before rest again is whole put none few left le k refused device = record {
    first = cs;
    next = c;
    rest = rest;
    changes_are = sym whole ∙ ap (λ (l : List Change). cs ++ l) is;
    between = mid;
    put = put;
    cause = cause_of A c (found mid.map) (faults old.files) (faults mid.files) (faults new.files) kind e le k refused device;
    base = ap (λ (h : StoreHistory). h.base) left.2 ∙ (ap (λ (h : StoreHistory). h.base) (sym (same_chapter told old mid cs put none few)) ∙ ap (λ (h : StoreHistory). h.base) put.history);
  }
