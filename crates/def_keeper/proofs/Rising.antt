-- Names in order: what comes before a name in a list of all.
use Rattle.std.proofs.Common.{◌≡◌, ⊎_elim, ◌<◌, ◌≤◌, ◌+◌, ◌++◌, ◌||◌, Bool, true, false, cond, List, [], ◌∷◌, ℕ, Option, None, Some, All, bytes_eq, count_by, get_or, length, take, drop, refl, sym, ◌∙◌, ap, subst, arith}
use Rattle.std.specs.Cmp.{IsStrictWeakOrder}
use Rattle.std.specs.Cmp.Lexicographic.{slice_cmp, nat_list_cmp_total}
use Rattle.std.specs.List.{AllByRecursion}
use Rattle.std.specs.List.Sorted.{IsStrictlySortedBy}
use Rattle.std.specs.Ordering.{is_eq, is_lt, nat_cmp, ordering_reverse}
use Rattle.std.specs.declared.cmp.Ordering.{Ordering}
use Rattle.std.specs.declared.cmp.Ordering.TheVariants.{Less, Equal, Greater}
use Rattle.std.proofs.lemmas.Bool.{cases_lt}
use Rattle.std.proofs.lemmas.List.{get_or-take, get_or_default, length-take, take-append-drop}
use Rattle.std.proofs.lemmas.List.Elements.{All-head, All-tail}
use Rattle.std.proofs.lemmas.List.Folds.{Any-from_list_any, list_any_at}
use Rattle.std.proofs.lemmas.List.Sorted.{ranks_by, sorted_far}
use Rattle.std.proofs.lemmas.List.Sums.{sum_by-append, sum_by-cons}
use Rattle.std.proofs.lemmas.Map.Text.{is_eq-slice_cmp}
use Rattle.files_disk.specs.Telling.{Lists, times}
use Rattle.store_spec.specs.Directory.{Directory}
use Rattle.store_spec.proofs.Operating.{bytes_eq_same}
use Rattle.store_spec.proofs.Stands.{eq_of}
use Rattle.def_keeper.specs.Opening.{AreRising, ComesBefore, IsInOrder, is_listed}

true_false : true ≡ false → ⊥
true_false e = cc

-- a listed name is counted
any_counted : (x : List ℕ) (names : List (List ℕ)) → is_listed x names ≡ true → 1 ≤ count_by (bytes_eq x) names
any_counted x [] is = absurd (true_false (sym is))
any_counted x (n ∷ names) is =
    subst (λ (c : ℕ). 1 ≤ c) (sym (sum_by-cons (λ y. cond (bytes_eq x y) 1 0) n names)) (by (any_counted x names) (bytes_eq x n) is)
  where
    by : (is_listed x names ≡ true → 1 ≤ count_by (bytes_eq x) names) → (b : Bool) → (b || is_listed x names) ≡ true → 1 ≤ cond b 1 0 + count_by (bytes_eq x) names
    by rec true is = omega arith
    by rec false is = let e : 1 ≤ count_by (bytes_eq x) names = rec is in omega (arith, e)

at_most_one : (o : Option (List ℕ)) → times o ≤ 1
at_most_one None = omega arith
at_most_one (Some x) = omega arith

-- so it isn't there twice
not_twice : (d : Directory) (names : List (List ℕ)) (i : ℕ) (n : List ℕ) → Lists d names → take (i + 1) names ≡ take i names ++ n ∷ [] → is_listed n (take i names) ≡ true → ⊥
not_twice d names i n lists cut is =
    let f : List ℕ → ℕ = λ y. cond (bytes_eq n y) 1 0 in
    let whole : count_by (bytes_eq n) names ≡ count_by (bytes_eq n) (take (i + 1) names) + count_by (bytes_eq n) (drop (i + 1) names) =
    ap (λ (l : List (List ℕ)). count_by (bytes_eq n) l) (sym (take-append-drop (i + 1) names)) ∙ sum_by-append f (take (i + 1) names) (drop (i + 1) names) in
    let front : count_by (bytes_eq n) (take (i + 1) names) ≡ count_by (bytes_eq n) (take i names) + count_by (bytes_eq n) (n ∷ []) =
    ap (λ (l : List (List ℕ)). count_by (bytes_eq n) l) cut ∙ sum_by-append f (take i names) (n ∷ []) in
    let last : 1 ≤ count_by (bytes_eq n) (n ∷ []) = any_counted n (n ∷ []) (ap (λ (b : Bool). b || false) (bytes_eq_same n n refl)) in
    let first : 1 ≤ count_by (bytes_eq n) (take i names) = any_counted n (take i names) is in
    let once : count_by (bytes_eq n) names ≤ 1 = omega (arith, lists n, at_most_one (d n)) in
    omega (arith, whole, front, last, first, once)

order : IsStrictWeakOrder (λ (x y : List ℕ). is_lt (slice_cmp nat_cmp x y))
order = ranks_by nat_list_cmp_total (λ (x : List ℕ). x)

-- a name that isn't after another, and isn't that one, comes before it
less_of : (m n : List ℕ) → is_lt (slice_cmp nat_cmp n m) ≡ false → (m ≡ n → ⊥) → ComesBefore m n
less_of m n not apart = by (slice_cmp nat_cmp m n) refl
  where
    by : (o : Ordering) → slice_cmp nat_cmp m n ≡ o → slice_cmp nat_cmp m n ≡ Less
    by Less is = is
    by Equal is = absurd (apart (eq_of m n (sym (is_eq-slice_cmp m n) ∙ ap is_eq is)))
    by Greater is = absurd (true_false (sym (ap is_lt (nat_list_cmp_total.antisymm n m ∙ ap ordering_reverse is)) ∙ not))

-- in a list of all names in order, an earlier one comes before
pub before_this : (d : Directory) (names : List (List ℕ)) (i : ℕ) (n m : List ℕ) → Lists d names → IsInOrder names → i < length names → n ≡ get_or names i n
    → take (i + 1) names ≡ take i names ++ n ∷ [] → is_listed m (take i names) ≡ true → ComesBefore m n
before_this d names i n m lists sorted within here cut is =
    let a = Any-from_list_any (bytes_eq m) (take i names) is in
    let j = a.0 in
    let x = a.1 in
    let same : m ≡ x = eq_of m x a.4 in
    let inside : j < i = omega (arith, a.2, length-take i names) in
    let there : get_or names j n ≡ x = get_or_default names j n x (omega (arith, inside, within)) ∙ sym (get_or-take i names j x inside) ∙ a.3 in
    let far : is_lt (slice_cmp nat_cmp (get_or names i n) (get_or names j n)) ≡ false = sorted_far (λ (y z : List ℕ). is_lt (slice_cmp nat_cmp y z)) order names sorted j i n (omega (arith, inside)) within in
    less_of m n ((λ k. is_lt (slice_cmp nat_cmp (here k) ((same ∙ sym there) k))) ∙ far)
    (λ twice. not_twice d names i n lists cut (subst (λ (y : List ℕ). is_listed y (take i names) ≡ true) twice is))

-- and one that comes before is an earlier one
pub listed_before : (names : List (List ℕ)) (i : ℕ) (n m : List ℕ) → IsInOrder names → i < length names → n ≡ get_or names i n → is_listed m names ≡ true → ComesBefore m n → is_listed m (take i names) ≡ true
listed_before names i n m sorted within here is less =
    let a = Any-from_list_any (bytes_eq m) names is in
    let j = a.0 in
    let x = a.1 in
    let same : m ≡ x = eq_of m x a.4 in
    ⊎_elim
    (λ (inside : j < i). list_any_at (bytes_eq m) (take i names) j x (omega (arith, inside, within, length-take i names))
    (ap (bytes_eq m) (get_or-take i names j x inside ∙ a.3) ∙ a.4))
    (λ (past : i ≤ j).
    let there : get_or names j n ≡ x = get_or_default names j n x a.2 ∙ a.3 in
    let far : is_lt (slice_cmp nat_cmp (get_or names j n) (get_or names i n)) ≡ false = sorted_far (λ (y z : List ℕ). is_lt (slice_cmp nat_cmp y z)) order names sorted i j n past a.2 in
    absurd (true_false (sym (ap is_lt less) ∙ (λ k. is_lt (slice_cmp nat_cmp ((same ∙ sym there) k) (here k))) ∙ far)))
    (cases_lt j i)

all_more : (P : List ℕ → Type 0) (ks : List (List ℕ)) (k : List ℕ) → AllByRecursion P ks → P k → AllByRecursion P (ks ++ k ∷ [])
all_more P [] k all here = (here, tt)
all_more P (q ∷ ks) k all here = (all.0, all_more P ks k all.1 here)

-- a name after all others
pub rising_more : (ks : List (List ℕ)) (k : List ℕ) → AreRising ks → All (λ q. ComesBefore q k) ks → AreRising (ks ++ k ∷ [])
unfolding IsStrictlySortedBy
rising_more [] k rising all = (tt, tt)
rising_more (q ∷ ks) k rising all =
    (all_more (λ y. ComesBefore q y) ks k rising.0 (All-head (λ y. ComesBefore y k) q ks all), rising_more ks k rising.1 (All-tail (λ y. ComesBefore y k) q ks all))
