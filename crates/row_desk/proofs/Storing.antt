-- What the marks of the store say goes on as its pass does.
use Rattle.std.proofs.Common.{◌≡◌, ◌≢◌, ◌∙◌, ◌++◌, ◌⊎◌, ℕ, Bool, true, false, List, [], ◌∷◌, Option, None, Some, Result, Ok, Err, ap, append-nil, append_assoc, arith, inl, inr, refl, subst, sym}
use Rattle.std.specs.Prelude.{◌<◌, ◌≤◌, ◌-◌, filter, length, not, slice_get, if◌then◌else◌}
use Rattle.std.proofs.Math.ListN.{get_or-append, length-append}
use Rattle.std.proofs.Math.Seq.{get_or-append_seam}
use Rattle.std.proofs.lemmas.List.{map-append}
use Rattle.std.proofs.lemmas.List.Elements.{filter-append}
use Rattle.std.proofs.lemmas.Option.{slice_get-get_or, slice_get_within}
use Rattle.history_spec.specs.Begins.{Begins, IsPrefix}
use Rattle.history_spec.specs.Chapter.{tagged}
use Rattle.virt_types.specs.Below.types_base.declared.caller.Front.{Front}
use Rattle.domain_spec.specs.Types.{Answer, Ask}
use Rattle.domain_spec.specs.Types.ask
use Rattle.domain_spec.specs.Types.answer
use Rattle.def_keeper.specs.declared.mark.StoreBase.{StoreBase}
use Rattle.def_keeper.specs.declared.mark.StoreAction.{StoreAction}
use Rattle.def_keeper.specs.declared.mark.StoreAction.TheVariants as action
use Rattle.def_keeper.specs.declared.mark.StoreMark.{StoreMark}
use Rattle.def_keeper.specs.Chapters.{by}
use Rattle.def_keeper.specs.Marks.{StoreHistory}
use Rattle.store_asks.specs.Keeping.{front_of}
use Rattle.store_asks.specs.Told.{IsActionOf}
use Rattle.store_asks.specs.Turning.{AreTried, EndsIn, IsTried, LastTells, MarksTell}
use Rattle.domain_obj.specs.OfCells.{told}
use Rattle.row_desk.specs.Asking.{IsForStore}
use Rattle.row_desk.specs.Stored.{AreStored, IsStored, answers_in, is_tried, stored_in}

-- ---- places in lists
get_front : {A : Type 0} (xs ys : List A) (k : ℕ) (x : A) → slice_get xs k ≡ Some x → slice_get (xs ++ ys) k ≡ Some x
get_front xs ys k x e =
    let lt = slice_get_within xs k x e in
    slice_get-get_or (xs ++ ys) k x (omega (arith, lt, length-append xs ys)) ∙ (ap Some (get_or-append xs ys x k lt) ∙ (sym (slice_get-get_or xs k x lt) ∙ e))

pub get_prefix : {A : Type 0} (xs ys : List A) (k : ℕ) (x : A) → slice_get xs k ≡ Some x → IsPrefix xs ys → slice_get ys k ≡ Some x
get_prefix xs ys k x e (more, is) = subst (λ (zs : List _). slice_get zs k ≡ Some x) is (get_front xs more k x e)

one_longer : {A : Type 0} (xs : List A) (x : A) → length (xs ++ x ∷ []) - 1 ≡ length xs
one_longer xs x = omega (arith, length-append xs (x ∷ []))

get_last : {A : Type 0} (xs : List A) (x : A) → slice_get (xs ++ x ∷ []) (length (xs ++ x ∷ []) - 1) ≡ Some x
get_last xs x =
    let at : slice_get (xs ++ x ∷ []) (length xs) ≡ Some x =
    slice_get-get_or (xs ++ x ∷ []) (length xs) x (omega (arith, length-append xs (x ∷ []))) ∙ ap Some (get_or-append_seam xs x [] x) in
    subst (λ (k : ℕ). slice_get (xs ++ x ∷ []) k ≡ Some x) (sym (one_longer xs x)) at

-- ---- which marks give an answer
tried_is : (d : StoreAction) → IsTried d → is_tried d ≡ true
tried_is (action.Tried c) it = refl
tried_is (action.Changed c r moment) it = absurd it
tried_is (action.ImageWritten name i r) it = absurd it
tried_is (action.ImageRead name r) it = absurd it

filter_out : (c : ℕ) (m : StoreMark) (ms : List StoreMark) → is_tried m.action ≡ true → answers_in (tagged c (m ∷ ms)) ≡ answers_in (tagged c ms)
filter_out c m ms e =
    let x : ℕ × StoreMark = (c, m) in
    subst (λ (b : Bool). (if not b then x ∷ answers_in (tagged c ms) else answers_in (tagged c ms)) ≡ answers_in (tagged c ms)) (sym e) refl

-- what was only tried gives no answer
pub tried_tell : (c : ℕ) (ms : List StoreMark) → AreTried ms → answers_in (tagged c ms) ≡ []
tried_tell c [] tried = refl
tried_tell c (m ∷ ms) tried = filter_out c m ms (tried_is m.action tried.0) ∙ tried_tell c ms tried.1

told_by : (q : Ask) (front : Front) (a : Answer) (d : StoreAction) → IsActionOf q front a d → is_tried d ≡ false
told_by (ask.Put x on) front a (action.Changed c r moment) it = refl
told_by (ask.Put x on) front a (action.Tried c) it = absurd it
told_by (ask.Put x on) front a (action.ImageWritten name i r) it = absurd it
told_by (ask.Put x on) front a (action.ImageRead name r) it = absurd it
told_by (ask.Drop uuid) front a (action.Changed c r moment) it = refl
told_by (ask.Drop uuid) front a (action.Tried c) it = absurd it
told_by (ask.Drop uuid) front a (action.ImageWritten name i r) it = absurd it
told_by (ask.Drop uuid) front a (action.ImageRead name r) it = absurd it
told_by (ask.WriteImage n k running x bytes) front a (action.ImageWritten name i r) it = refl
told_by (ask.WriteImage n k running x bytes) front a (action.Changed c r moment) it = absurd it
told_by (ask.WriteImage n k running x bytes) front a (action.Tried c) it = absurd it
told_by (ask.WriteImage n k running x bytes) front a (action.ImageRead name r) it = absurd it
told_by (ask.Lease network mac) front a d it = absurd it
told_by (ask.Command c) front a d it = absurd it
told_by (ask.Make x boot) front a d it = absurd it

filter_in : (c : ℕ) (m : StoreMark) → is_tried m.action ≡ false → answers_in (tagged c (m ∷ [])) ≡ (c, m) ∷ []
filter_in c m e =
    let x : ℕ × StoreMark = (c, m) in
    subst (λ (b : Bool). (if not b then x ∷ [] else []) ≡ x ∷ []) (sym e) refl

answers_more : (c : ℕ) (xs ys : List StoreMark) → answers_in (tagged c (xs ++ ys)) ≡ answers_in (tagged c xs) ++ answers_in (tagged c ys)
answers_more c xs ys =
    ap answers_in (map-append (λ (m : StoreMark). (c, m)) xs ys) ∙ filter-append (λ (m : ℕ × StoreMark). not (is_tried m.1.action)) (tagged c xs) (tagged c ys)

-- the last mark is the one that gives the answer
last_tells : (c : ℕ) (first : List StoreMark) (m : StoreMark) → AreTried first → is_tried m.action ≡ false → answers_in (tagged c (first ++ m ∷ [])) ≡ (c, m) ∷ []
last_tells c first m tried e =
    answers_more c first (m ∷ []) ∙ (ap (λ (l : List (ℕ × StoreMark)). l ++ answers_in (tagged c (m ∷ []))) (tried_tell c first tried) ∙ filter_in c m e)

-- ---- one ask
ends_so : (earlier more first marks : List StoreMark) (m : StoreMark) → marks ≡ earlier ++ more → more ≡ first ++ m ∷ [] → marks ≡ (earlier ++ first) ++ m ∷ []
ends_so earlier more first marks m is last = is ∙ (ap (λ (l : List StoreMark). earlier ++ l) last ∙ sym (append_assoc earlier first (m ∷ [])))

some_left : (xs marks : List StoreMark) (m : StoreMark) → marks ≡ xs ++ m ∷ [] → 0 < length marks
some_left xs marks m is = subst (λ (l : List StoreMark). 0 < length l) (sym is) (omega (arith, length-append xs (m ∷ [])))

stands_last : (xs marks : List StoreMark) (m : StoreMark) → marks ≡ xs ++ m ∷ [] → slice_get marks (length marks - 1) ≡ Some m
stands_last xs marks m is = subst (λ (l : List StoreMark). slice_get l (length l - 1) ≡ Some m) (sym is) (get_last xs m)

-- what the store answered, by the last mark of its turn
last_stored : (number : ℕ) (seen : StoreHistory) (q : Ask) (a : Answer) (more : List StoreMark) → EndsIn seen more → LastTells number q (front_of seen) a more
    → AreStored number seen ((q, a) ∷ []) (answers_in (tagged seen.chapter more))
last_stored number seen q a more (earlier, ends) (first, d, last, tells, tried) =
    let is : seen.marks ≡ (earlier ++ first) ++ by number d ∷ [] = ends_so earlier more first seen.marks (by number d) ends last in
    let one : IsStored number seen (q, a) (seen.chapter, by number d) = record {
      front = front_of seen;
      action = d;
      is = refl;
      answers = tells;
      so_far = omega arith;
      some = some_left (earlier ++ first) seen.marks (by number d) is;
      place = λ e. stands_last (earlier ++ first) seen.marks (by number d) is;
    } in
    subst (λ (l : List (ℕ × StoreMark)). AreStored number seen ((q, a) ∷ []) l)
    (sym (ap (λ (l : List StoreMark). answers_in (tagged seen.chapter l)) last ∙ last_tells seen.chapter first (by number d) tried (told_by q (front_of seen) a d tells)))
    (one, tt)

none_stored : (number : ℕ) (seen : StoreHistory) (more : List StoreMark) → answers_in (tagged seen.chapter more) ≡ [] → AreStored number seen [] (answers_in (tagged seen.chapter more))
none_stored number seen more is = subst (λ (l : List (ℕ × StoreMark)). AreStored number seen [] l) (sym is) tt

none_left : (c : ℕ) (more : List StoreMark) → more ≡ [] → answers_in (tagged c more) ≡ []
none_left c more is = ap (λ (l : List StoreMark). answers_in (tagged c l)) is

-- whatever the store was asked in a turn
pub asked_stored : (number : ℕ) (seen : StoreHistory) (q : Ask) (a : Answer) (more : List StoreMark) → IsForStore q → EndsIn seen more → MarksTell number q (front_of seen) a more
    → AreStored number seen (stored_in (told (q ∷ []) (a ∷ []))) (answers_in (tagged seen.chapter more))
asked_stored number seen (ask.Put x on) (answer.Ok v) more it ends tells = last_stored number seen (ask.Put x on) (answer.Ok v) more ends tells
asked_stored number seen (ask.Put x on) (answer.Refused class) more it ends tells = last_stored number seen (ask.Put x on) (answer.Refused class) more ends tells
asked_stored number seen (ask.Put x on) (answer.Ended why) more it ends tells = last_stored number seen (ask.Put x on) (answer.Ended why) more ends tells
asked_stored number seen (ask.Put x on) answer.Lost more it ends tells = last_stored number seen (ask.Put x on) answer.Lost more ends tells
asked_stored number seen (ask.Put x on) answer.Device more it ends tells = last_stored number seen (ask.Put x on) answer.Device more ends tells
asked_stored number seen (ask.Put x on) answer.NoMemory more it ends tells = none_stored number seen more (tried_tell seen.chapter more tells)
asked_stored number seen (ask.Drop uuid) (answer.Ok v) more it ends tells = last_stored number seen (ask.Drop uuid) (answer.Ok v) more ends tells
asked_stored number seen (ask.Drop uuid) (answer.Refused class) more it ends tells = last_stored number seen (ask.Drop uuid) (answer.Refused class) more ends tells
asked_stored number seen (ask.Drop uuid) (answer.Ended why) more it ends tells = last_stored number seen (ask.Drop uuid) (answer.Ended why) more ends tells
asked_stored number seen (ask.Drop uuid) answer.Lost more it ends tells = last_stored number seen (ask.Drop uuid) answer.Lost more ends tells
asked_stored number seen (ask.Drop uuid) answer.Device more it ends tells = last_stored number seen (ask.Drop uuid) answer.Device more ends tells
asked_stored number seen (ask.Drop uuid) answer.NoMemory more it ends tells = none_stored number seen more (tried_tell seen.chapter more tells)
asked_stored number seen (ask.WriteImage n k running x bytes) (answer.Ok v) more it ends tells = last_stored number seen (ask.WriteImage n k running x bytes) (answer.Ok v) more ends tells
asked_stored number seen (ask.WriteImage n k running x bytes) (answer.Refused class) more it ends tells = last_stored number seen (ask.WriteImage n k running x bytes) (answer.Refused class) more ends tells
asked_stored number seen (ask.WriteImage n k running x bytes) (answer.Ended why) more it ends tells = last_stored number seen (ask.WriteImage n k running x bytes) (answer.Ended why) more ends tells
asked_stored number seen (ask.WriteImage n k running x bytes) answer.Lost more it ends tells = last_stored number seen (ask.WriteImage n k running x bytes) answer.Lost more ends tells
asked_stored number seen (ask.WriteImage n k running x bytes) answer.Device more it ends tells = last_stored number seen (ask.WriteImage n k running x bytes) answer.Device more ends tells
asked_stored number seen (ask.WriteImage n k running x bytes) answer.NoMemory more it ends tells = none_stored number seen more (tried_tell seen.chapter more tells)
asked_stored number seen (ask.Lease network mac) (answer.Ok v) more it ends tells = none_stored number seen more (none_left seen.chapter more tells)
asked_stored number seen (ask.Lease network mac) (answer.Refused class) more it ends tells = none_stored number seen more (none_left seen.chapter more tells)
asked_stored number seen (ask.Lease network mac) (answer.Ended why) more it ends tells = none_stored number seen more (none_left seen.chapter more tells)
asked_stored number seen (ask.Lease network mac) answer.Lost more it ends tells = none_stored number seen more (none_left seen.chapter more tells)
asked_stored number seen (ask.Lease network mac) answer.Device more it ends tells = none_stored number seen more (none_left seen.chapter more tells)
asked_stored number seen (ask.Lease network mac) answer.NoMemory more it ends tells = none_stored number seen more (tried_tell seen.chapter more tells)
asked_stored number seen (ask.Command c) a more it ends tells = absurd it
asked_stored number seen (ask.Make x boot) a more it ends tells = absurd it

-- ---- one after the other
pub stored_more : (number : ℕ) (seen : StoreHistory) (ps qs : List (Ask × Answer)) (ms ks : List (ℕ × StoreMark))
    → AreStored number seen ps ms → AreStored number seen qs ks → AreStored number seen (ps ++ qs) (ms ++ ks)
stored_more number seen [] qs [] ks a b = b
stored_more number seen [] qs (m ∷ ms) ks a b = absurd a
stored_more number seen (p ∷ ps) qs [] ks a b = absurd a
stored_more number seen (p ∷ ps) qs (m ∷ ms) ks a b = (a.0, stored_more number seen ps qs ms ks a.1 b)

-- a place of a history stays where it is, while its chapter goes on
place_later : (number : ℕ) (s t : StoreHistory) (p : Ask × Answer) (m : ℕ × StoreMark) → Begins (λ (b : StoreBase) (l : List StoreMark). 0) s t → IsStored number s p m → IsStored number t p m
place_later number s t p m (inl same) it = record {
  front = it.front;
  action = it.action;
  is = it.is;
  answers = it.answers;
  so_far = subst (λ (c : ℕ). it.front.chapter ≤ c) same.chapter it.so_far;
  some = it.some;
  place = λ e. get_prefix s.marks t.marks (it.front.marks - 1) (by number it.action) (it.place (e ∙ sym same.chapter)) same.marks;
}
place_later number s t p m (inr later) it = record {
  front = it.front;
  action = it.action;
  is = it.is;
  answers = it.answers;
  so_far = omega (arith, it.so_far, later.chapter);
  some = it.some;
  place = λ e. absurd (omega (arith, it.so_far, later.chapter, e));
}

pub stored_later : (number : ℕ) (s t : StoreHistory) (ps : List (Ask × Answer)) (ms : List (ℕ × StoreMark)) → Begins (λ (b : StoreBase) (l : List StoreMark). 0) s t
    → AreStored number s ps ms → AreStored number t ps ms
stored_later number s t [] [] begins it = tt
stored_later number s t [] (m ∷ ms) begins it = absurd it
stored_later number s t (p ∷ ps) [] begins it = absurd it
stored_later number s t (p ∷ ps) (m ∷ ms) begins it = (place_later number s t p m begins it.0, stored_later number s t ps ms begins it.1)
