-- Tries, one more and acknowledged.
use Rattle.std.proofs.Common.{◌≡◌, ⊎_elim, ◌<◌, ◌≤◌, ◌++◌, Bool, true, false, ◌||◌, List, [], ◌∷◌, ℕ, zero, suc, None, Some, map, length, take, drop, refl, sym, ◌∙◌, ap, append_assoc, arith}
use Rattle.std.specs.List.{list_any}
use Rattle.std.proofs.lemmas.Bool.Decides.{leb_tells}
use Rattle.store_spec.specs.declared.change.Change.{Change}
use Rattle.store_spec.specs.Changes.{Definitions, after, changed}
use Rattle.store_spec.specs.Prefix.{Try, is_acknowledged, is_by}
use Rattle.def_keeper.specs.declared.mark.StoreMark.{StoreMark}
use Rattle.def_keeper.specs.Keeping.{after_all}
use Rattle.def_keeper.specs.Marks.{acknowledged_by, acknowledged_in, changes_of, tries_in, try_of}

-- a change that was tried and not acknowledged
abbrev pub tried : Change → Try
tried c = record { change = c; acknowledged = None }

-- a change that was acknowledged at a moment
abbrev pub done : Change → ℕ → Try
done c at = record { change = c; acknowledged = Some at }

or_false : (a b : Bool) → a ≡ false → b ≡ false → (a || b) ≡ false
or_false true b x y = cc
or_false false b x y = y

both_false : (a b : Bool) → (a || b) ≡ false → (a ≡ false) × (b ≡ false)
both_false true b is = cc
both_false false b is = (refl, is)

any_more : (t : ℕ) (tries : List Try) (x : Try) → list_any (is_acknowledged t) tries ≡ false → is_acknowledged t x ≡ false → list_any (is_acknowledged t) (tries ++ x ∷ []) ≡ false
any_more t [] x none not = or_false (is_acknowledged t x) false not refl
any_more t (y ∷ ys) x none not = let both = both_false (is_acknowledged t y) (list_any (is_acknowledged t) ys) none in
    or_false (is_acknowledged t y) (list_any (is_acknowledged t) (ys ++ x ∷ [])) both.0 (any_more t ys x both.1 not)

-- one try more that is not acknowledged by then
pub none_more : (t count : ℕ) (tries : List Try) (x : Try) → list_any (is_acknowledged t) (drop count tries) ≡ false → is_acknowledged t x ≡ false → list_any (is_acknowledged t) (drop count (tries ++ x ∷ [])) ≡ false
none_more t zero tries x none not = any_more t tries x none not
none_more t (suc zero) [] x none not = refl
none_more t (suc (suc n)) [] x none not = refl
none_more t (suc n) (y ∷ ys) x none not = none_more t n ys x none not

-- another last try that is not acknowledged by then
pub none_other : (t count : ℕ) (tries : List Try) (x y : Try) → list_any (is_acknowledged t) (drop count (tries ++ x ∷ [])) ≡ false → is_acknowledged t y ≡ false → list_any (is_acknowledged t) (drop count (tries ++ y ∷ [])) ≡ false
none_other t zero [] x y none not = or_false (is_acknowledged t y) false not refl
none_other t (suc zero) [] x y none not = refl
none_other t (suc (suc n)) [] x y none not = refl
none_other t zero (z ∷ zs) x y none not = let both = both_false (is_acknowledged t z) (list_any (is_acknowledged t) (zs ++ x ∷ [])) none in
    or_false (is_acknowledged t z) (list_any (is_acknowledged t) (zs ++ y ∷ [])) both.0 (none_other t zero zs x y both.1 not)
none_other t (suc n) (z ∷ zs) x y none not = none_other t n zs x y none not

-- nothing comes after all of them
pub none_left : (t count : ℕ) (tries : List Try) → length tries ≤ count → list_any (is_acknowledged t) (drop count tries) ≡ false
none_left t zero [] le = refl
none_left t (suc n) [] le = refl
none_left t zero (x ∷ xs) le = absurd (omega (arith, le))
none_left t (suc n) (x ∷ xs) le = none_left t n xs (omega (arith, le))

-- another last try of the same change makes the same map
pub same_changes : (count : ℕ) (tries : List Try) (x y : Try) → x.change ≡ y.change → changes_of (take count (tries ++ x ∷ [])) ≡ changes_of (take count (tries ++ y ∷ []))
same_changes zero [] x y same = refl
same_changes (suc zero) [] x y same = ap (λ (c : Change). c ∷ []) same
same_changes (suc (suc n)) [] x y same = ap (λ (c : Change). c ∷ []) same
same_changes zero (z ∷ zs) x y same = refl
same_changes (suc n) (z ∷ zs) x y same = ap (λ (cs : List Change). z.change ∷ cs) (same_changes n zs x y same)

-- a moment later than now is not acknowledged yet
pub not_yet : (t at : ℕ) → t < at → is_by t (Some at) ≡ false
not_yet t at lt = ⊎_elim (λ yes. absurd (omega (arith, lt, yes.1))) (λ is. is.0) (leb_tells at t)

pub changes_more : (tries : List Try) (x : Try) → changes_of (tries ++ x ∷ []) ≡ changes_of tries ++ x.change ∷ []
changes_more [] x = refl
changes_more (y ∷ ys) x = ap (λ (cs : List Change). y.change ∷ cs) (changes_more ys x)

pub after_more : (map : Definitions) (cs : List Change) (c : Change) → after map (cs ++ c ∷ []) ≡ changed c (after map cs)
after_more map [] c = refl
after_more map (d ∷ ds) c = after_more (changed d map) ds c

-- the map after one try more
pub after_try : (base : Definitions) (tries : List Try) (x : Try) → after_all base (tries ++ x ∷ []) ≡ changed x.change (after_all base tries)
after_try base tries x = ap (λ (cs : List Change). after base cs) (changes_more tries x) ∙ after_more base (changes_of tries) x.change

-- marks more
pub tries_more : (ms ns : List StoreMark) → tries_in (ms ++ ns) ≡ tries_in ms ++ tries_in ns
tries_more [] ns = refl
tries_more (m ∷ ms) ns = ap (λ (l : List Try). try_of m.action ++ l) (tries_more ms ns) ∙ sym (append_assoc (try_of m.action) (tries_in ms) (tries_in ns))

pub acknowledged_more : (ms ns : List StoreMark) → acknowledged_in (ms ++ ns) ≡ acknowledged_in ms ++ acknowledged_in ns
acknowledged_more [] ns = refl
acknowledged_more (m ∷ ms) ns = ap (λ (l : List Change). acknowledged_by m.action ++ l) (acknowledged_more ms ns) ∙ sym (append_assoc (acknowledged_by m.action) (acknowledged_in ms) (acknowledged_in ns))
