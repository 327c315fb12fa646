-- Where the last mark of a turn is.
use Rattle.std.proofs.Common.{◌≡◌, ◌⊎◌, inl, inr, ◌<◌, ◌≤◌, ℕ, zero, suc, ◌+◌, ◌-◌, List, [], ◌∷◌, ◌++◌, Bool, true, false, ◌||◌, Option, None, Some, slice_get, if◌then◌else◌, refl, sym, ap, ◌∙◌, subst, arith}
use Rattle.std.proofs.lemmas.Bool.Decides.{nat_tests}
use Rattle.std.specs.List.{list_any}
use Rattle.virt_types.specs.Below.types_base.declared.caller.Front.{Front}
use Rattle.history_spec.specs.Begins.{Begins}
use Rattle.history_spec.specs.Pass.{AreOf, IsOf, bears, own}
use Rattle.domain_core.specs.OfTurns.{is_of_pass, last_place}
use Rattle.domain_spec.specs.declared.mark.Mark.{Mark}
use Rattle.domain_spec.specs.declared.mark.Mark.TheVariants as mark
use Rattle.domain_core.specs.Celled.{Celled, cell_in}
use Rattle.domain_core.specs.Meaning.{history_of, meaning}
use Rattle.domain_obj.specs.InTurn.{DomainPass}
use Rattle.domain_obj.specs.Placing.{IsLastPlace, IsPlaced}
use Rattle.domain_obj.specs.Running.{DomainHistory}
use Rattle.domain_core.specs.OfShares.{whose}

-- the mark is the last one of a pass
abbrev pub IsLast : List (Mark ℕ) → Mark ℕ → Type 0
IsLast ms m = (0 < last_place ms) × (slice_get ms (last_place ms - 1) ≡ Some m)

-- one mark before

some_positive : (b : Bool) (n : ℕ) → 0 < (if b then n + 1 else 0) → b ≡ true
some_positive true n h = refl
some_positive false n h = absurd (grind (arith, h))

any_if_last : (ms : List (Mark ℕ)) → 0 < last_place ms → list_any is_of_pass ms ≡ true
any_if_last [] h = absurd (grind (arith, h))
any_if_last (m ∷ ms) h = some_positive (list_any is_of_pass (m ∷ ms)) (last_place ms) h

or_right : (a b : Bool) → b ≡ true → (a || b) ≡ true
or_right true b e = refl
or_right false b e = e

placed_one : (k : Mark ℕ) (ms : List (Mark ℕ)) → list_any is_of_pass (k ∷ ms) ≡ true → last_place (k ∷ ms) ≡ last_place ms + 1
placed_one k ms e = ap (λ (b : Bool). if b then last_place ms + 1 else 0) e

get_further : (k : Mark ℕ) (ms : List (Mark ℕ)) (n : ℕ) → 0 < n → slice_get (k ∷ ms) n ≡ slice_get ms (n - 1)
get_further k ms zero h = absurd (grind (arith, h))
get_further k ms (suc n) h = let e : n ≡ suc n - 1 = omega arith in ap (λ (i : ℕ). slice_get ms i) e

last_further : (k : Mark ℕ) (ms : List (Mark ℕ)) (m : Mark ℕ) → IsLast ms m → IsLast (k ∷ ms) m
last_further k ms m (some, there) =
    let place = placed_one k ms (or_right (is_of_pass k) (list_any is_of_pass ms) (any_if_last ms some)) in
    let back : last_place ms ≡ last_place (k ∷ ms) - 1 = grind (arith, place) in (
      grind (arith, place),
      ap (λ (i : ℕ). slice_get (k ∷ ms) i) (sym back) ∙ get_further k ms (last_place ms) some ∙ there,
    )

pub last_after : (before ms : List (Mark ℕ)) (m : Mark ℕ) → IsLast ms m → IsLast (before ++ ms) m
last_after [] ms m h = h
last_after (k ∷ before) ms m h = last_further k (before ++ ms) m (last_after before ms m h)

-- the last own mark

of_pass_if : (k : Mark ℕ) (n : ℕ) → whose k ≡ Some n → is_of_pass k ≡ true
of_pass_if (mark.Admit number who wanted d boot) n e = refl
of_pass_if (mark.Done number who d boot asks answers r events) n e = refl
of_pass_if (mark.Refused number who d why held) n e = refl
of_pass_if (mark.Start number who d boot) n e = refl
of_pass_if (mark.TakeUp number who d) n e = refl
of_pass_if (mark.Phase number who p asks answers next events) n e = refl
of_pass_if (mark.End number who r) n e = refl
of_pass_if (mark.Exit boot why events) n e = cc
of_pass_if (mark.Event boot x events) n e = cc
of_pass_if (mark.Watch number client) n e = refl
of_pass_if (mark.Unwatch number client) n e = refl
of_pass_if (mark.Cut client total taken) n e = cc

of_none_if : (k : Mark ℕ) → whose k ≡ None → is_of_pass k ≡ false
of_none_if (mark.Admit number who wanted d boot) e = cc
of_none_if (mark.Done number who d boot asks answers r events) e = cc
of_none_if (mark.Refused number who d why held) e = cc
of_none_if (mark.Start number who d boot) e = cc
of_none_if (mark.TakeUp number who d) e = cc
of_none_if (mark.Phase number who p asks answers next events) e = cc
of_none_if (mark.End number who r) e = cc
of_none_if (mark.Exit boot why events) e = refl
of_none_if (mark.Event boot x events) e = refl
of_none_if (mark.Watch number client) e = cc
of_none_if (mark.Unwatch number client) e = cc
of_none_if (mark.Cut client total taken) e = refl

-- whether a mark bears the number, or belongs to nobody
owner : (n : ℕ) (o : Option ℕ) → IsOf n o → ((o ≡ None) × (bears n o ≡ false)) ⊎ ((o ≡ Some n) × (bears n o ≡ true))
owner n None h = inl (refl, refl)
owner n (Some k) h = inr (ap Some h, grind (arith, nat_tests, h))

own_more : (n : ℕ) (k : Mark ℕ) (ms : List (Mark ℕ)) → bears n (whose k) ≡ true → own whose n (k ∷ ms) ≡ k ∷ own whose n ms
own_more n k ms e = ap (λ (b : Bool). if b then k ∷ own whose n ms else own whose n ms) e

own_same : (n : ℕ) (k : Mark ℕ) (ms : List (Mark ℕ)) → bears n (whose k) ≡ false → own whose n (k ∷ ms) ≡ own whose n ms
own_same n k ms e = ap (λ (b : Bool). if b then k ∷ own whose n ms else own whose n ms) e

cons_nil : {A : Type 0} (x : A) (xs : List A) → x ∷ xs ≡ [] → ⊥
cons_nil x xs e = cc

or_none : (a b : Bool) → a ≡ false → b ≡ false → (a || b) ≡ false
or_none a b e f = ap (λ (x : Bool). x || b) e ∙ f

-- without an own mark no mark is of a pass
none_by : (n : ℕ) (k : Mark ℕ) (ms : List (Mark ℕ)) → own whose n (k ∷ ms) ≡ [] → (own whose n ms ≡ [] → list_any is_of_pass ms ≡ false) → ((whose k ≡ None) × (bears n (whose k) ≡ false)) ⊎ ((whose k ≡ Some n) × (bears n (whose k) ≡ true)) → list_any is_of_pass (k ∷ ms) ≡ false
none_by n k ms e rest (inl (nobody, f)) = or_none (is_of_pass k) (list_any is_of_pass ms) (of_none_if k nobody) (rest (sym (own_same n k ms f) ∙ e))
none_by n k ms e rest (inr (its, f)) = absurd (cons_nil k (own whose n ms) (sym (own_more n k ms f) ∙ e))

none_own : (n : ℕ) (ms : List (Mark ℕ)) → AreOf whose n ms → own whose n ms ≡ [] → list_any is_of_pass ms ≡ false
none_own n [] of e = refl
none_own n (k ∷ ms) of e = none_by n k ms e (λ f. none_own n ms of.1 f) (owner n (whose k) of.0)

place_none : (ms : List (Mark ℕ)) → list_any is_of_pass ms ≡ false → last_place ms ≡ 0
place_none [] e = refl
place_none (m ∷ ms) e = ap (λ (b : Bool). if b then last_place ms + 1 else 0) e

last_only : (n : ℕ) (k : Mark ℕ) (ms : List (Mark ℕ)) → AreOf whose n ms → whose k ≡ Some n → own whose n ms ≡ [] → IsLast (k ∷ ms) k
last_only n k ms of its none =
    let at : last_place ms ≡ 0 = place_none ms (none_own n ms of none) in
    let place : last_place (k ∷ ms) ≡ last_place ms + 1 = placed_one k ms (ap (λ (b : Bool). b || list_any is_of_pass ms) (of_pass_if k n its)) in
    let first : last_place (k ∷ ms) - 1 ≡ 0 = grind (arith, place, at) in (grind (arith, place), ap (λ (i : ℕ). slice_get (k ∷ ms) i) first)

head_is : {A : Type 0} (x y : A) (xs ys : List A) → x ∷ xs ≡ y ∷ ys → x ≡ y
head_is x y xs ys e = cc

tail_is : {A : Type 0} (x y : A) (xs ys : List A) → x ∷ xs ≡ y ∷ ys → xs ≡ ys
tail_is x y xs ys e = cc

last_its : (n : ℕ) (k : Mark ℕ) (ms xs : List (Mark ℕ)) (m : Mark ℕ) → AreOf whose n ms → whose k ≡ Some n → k ∷ own whose n ms ≡ xs ++ m ∷ [] → ((ys : List (Mark ℕ)) → own whose n ms ≡ ys ++ m ∷ [] → IsLast ms m) → IsLast (k ∷ ms) m
last_its n k ms [] m of its e rest = subst (λ (x : Mark ℕ). IsLast (k ∷ ms) x) (head_is k m (own whose n ms) [] e) (last_only n k ms of its (tail_is k m (own whose n ms) [] e))
last_its n k ms (x ∷ xs) m of its e rest = last_further k ms m (rest xs (tail_is k x (own whose n ms) (xs ++ m ∷ []) e))

last_by : (n : ℕ) (k : Mark ℕ) (ms xs : List (Mark ℕ)) (m : Mark ℕ) → AreOf whose n ms → own whose n (k ∷ ms) ≡ xs ++ m ∷ [] → ((ys : List (Mark ℕ)) → own whose n ms ≡ ys ++ m ∷ [] → IsLast ms m)
    → ((whose k ≡ None) × (bears n (whose k) ≡ false)) ⊎ ((whose k ≡ Some n) × (bears n (whose k) ≡ true)) → IsLast (k ∷ ms) m
last_by n k ms xs m of e rest (inl (nobody, f)) = last_further k ms m (rest xs (sym (own_same n k ms f) ∙ e))
last_by n k ms xs m of e rest (inr (its, f)) = last_its n k ms xs m of its (sym (own_more n k ms f) ∙ e) rest

pub last_own : (n : ℕ) (ms xs : List (Mark ℕ)) (m : Mark ℕ) → AreOf whose n ms → own whose n ms ≡ xs ++ m ∷ [] → IsLast ms m
last_own n [] [] m of e = cc
last_own n [] (x ∷ xs) m of e = cc
last_own n (k ∷ ms) xs m of e = last_by n k ms xs m of.1 e (λ ys f. last_own n ms ys m of.1 f) (owner n (whose k) of.0)

-- the place of the last own mark of a turn

le_self : (n : ℕ) → n ≤ n
le_self n = omega arith

pub placed_last : (after : DomainPass) (n : ℕ) (new : Celled) (old left xs : List (Mark ℕ)) (m : Mark ℕ) (place : Front) → after.seen ≡ history_of new → (cell_in new).marks ≡ old ++ left → AreOf whose n left → own whose n left ≡ xs ++ m ∷ [] → IsLastPlace place new
    → IsPlaced place new.core.turning.chapter m after
placed_last after n new old left xs m place saw marks of e at =
    let last : IsLast (old ++ left) m = last_after old left m (last_own n left xs m of e) in
    let seen_marks : after.seen.marks ≡ old ++ left = ap (λ (h : DomainHistory). h.marks) saw ∙ marks in
    let place_is : place.marks ≡ last_place (old ++ left) = at.marks ∙ ap last_place marks in
    record {
      chapter_is = at.chapter;
      so_far = subst (λ (c : ℕ). new.core.turning.chapter ≤ c) (sym (ap (λ (h : DomainHistory). h.chapter) saw)) (le_self new.core.turning.chapter);
      some = subst (λ (k : ℕ). 0 < k) (sym place_is) last.0;
      there = λ same. ap (λ (ms : List (Mark ℕ)). slice_get ms (place.marks - 1)) seen_marks ∙ ap (λ (k : ℕ). slice_get (old ++ left) (k - 1)) place_is ∙ last.1;
    }

-- it is still there when the pass has seen more

get_prefix : (ms more : List (Mark ℕ)) (i : ℕ) (m : Mark ℕ) → slice_get ms i ≡ Some m → slice_get (ms ++ more) i ≡ Some m
get_prefix [] more i m e = cc
get_prefix (k ∷ ms) more zero m e = e
get_prefix (k ∷ ms) more (suc i) m e = get_prefix ms more i m e

pub placed_later : (before after : DomainPass) (place : Front) (chapter : ℕ) (m : Mark ℕ) → Begins meaning.rising before.seen after.seen → IsPlaced place chapter m before → IsPlaced place chapter m after
placed_later before after place chapter m (inl same) at = record {
  chapter_is = at.chapter_is;
  so_far = subst (λ (c : ℕ). chapter ≤ c) same.chapter at.so_far;
  some = at.some;
  there = λ e. subst (λ (ms : List (Mark ℕ)). slice_get ms (place.marks - 1) ≡ Some m) same.marks.1 (get_prefix before.seen.marks same.marks.0 (place.marks - 1) m (at.there (e ∙ sym same.chapter)));
}
placed_later before after place chapter m (inr later) at = record {
  chapter_is = at.chapter_is;
  so_far = grind (arith, at.so_far, later.chapter);
  some = at.some;
  there = λ e. absurd (grind (arith, at.so_far, later.chapter, e));
}
