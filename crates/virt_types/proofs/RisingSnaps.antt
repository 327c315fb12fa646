-- Lists of snapshots by rising name, around one of them.
use Rattle.std.proofs.Common.{◌≡◌, ℕ, suc, ◌+◌, ◌≤◌, Bool, true, false, cond, List, [], ◌∷◌, ◌++◌, Option, None, Some, not, map, take, drop, length, arith, refl, ap, ◌∙◌, sym, subst}
use Rattle.std.specs.Cmp.{IsStrictWeakOrder}
use Rattle.std.specs.Cmp.Lexicographic.{slice_cmp}
use Rattle.std.specs.List.{filter, insert, position_or_len}
use Rattle.std.specs.Option.{option_or}
use Rattle.std.proofs.Common.{Ordering, Less, Equal, Greater}
use Rattle.std.specs.Ordering.{is_eq, is_lt, nat_cmp, ordering_reverse}
use Rattle.std.proofs.lemmas.Cmp.{nat_list_cmp_total}
use Rattle.std.proofs.lemmas.List.Elements.{filter-append}
use Rattle.std.proofs.lemmas.List.MinMax.{ranks_by}
use Rattle.std.proofs.lemmas.Map.Text.{is_eq-slice_cmp}
use Rattle.std.proofs.lemmas.Slice.Eq.{bytes_eq-Decides}
use Rattle.virt_types.specs.declared.domain.Snap.{Snap}
use Rattle.virt_types.specs.Snapshots.{IsRising, NoneBefore, is_before, is_named, snapshot_named, with_snapshot}

pub is_order : IsStrictWeakOrder is_before
is_order = ranks_by nat_list_cmp_total (λ name. name)

true_unless : (b : Bool) → (b ≡ false → ⊥) → b ≡ true
true_unless true f = refl
true_unless false f = absurd (f refl)

false_unless : (b : Bool) → (b ≡ true → ⊥) → b ≡ false
false_unless true f = absurd (f refl)
false_unless false f = refl

-- before one that is not greater
pub before_later : (a b c : List ℕ) → is_before a b ≡ true → is_before c b ≡ false → is_before a c ≡ true
before_later a b c ab cb = true_unless (is_before a c) (λ ac. cc (ab, is_order.chain a c b ac cb))

-- not greater than one that is before
pub earlier_before : (a b c : List ℕ) → is_before b a ≡ false → is_before b c ≡ true → is_before a c ≡ true
earlier_before a b c ba bc = true_unless (is_before a c) (λ ac. cc (bc, is_order.chain b a c ba ac))

none_from : (a b : List ℕ) (xs : List Snap) → is_before b a ≡ false → NoneBefore b xs → NoneBefore a xs
none_from a b [] e h = tt
none_from a b (s ∷ xs) e h = (is_order.chain s.name b a h.0 e, none_from a b xs e h.1)

pub none_middle : (a : List ℕ) (l : List Snap) (k : Snap) (r : List Snap) → NoneBefore a (l ++ k ∷ r) → is_before k.name a ≡ false
none_middle a [] k r h = h.0
none_middle a (s ∷ l) k r h = none_middle a l k r h.1

none_with : (a : List ℕ) (new : Snap) (xs : List Snap) → is_before new.name a ≡ false → NoneBefore a xs → NoneBefore a (with_snapshot xs new)
none_with a new [] e h = (e, tt)
none_with a new (s ∷ xs) e h =
    elim (is_before new.name s.name) as (λ b. NoneBefore a (cond b (new ∷ s ∷ xs) (s ∷ with_snapshot xs new))) [
      | true ↦ (e, h)
      | false ↦ (h.0, none_with a new xs e h.1)
    ]

rising_cases : (new s : Snap) (xs : List Snap) (b : Bool) → is_before new.name s.name ≡ b → IsRising (s ∷ xs) → IsRising (with_snapshot xs new) → IsRising (cond b (new ∷ s ∷ xs) (s ∷ with_snapshot xs new))
rising_cases new s xs true e h u =
    let after : is_before s.name new.name ≡ false = is_order.one_way new.name s.name e in
    ((after, none_from new.name s.name xs after h.0), h)
rising_cases new s xs false e h u = (none_with s.name new xs e h.0, u)

-- the list with a new snapshot rises too
pub rising_with : (xs : List Snap) (new : Snap) → IsRising xs → IsRising (with_snapshot xs new)
rising_with [] new h = (tt, tt)
rising_with (s ∷ xs) new h = rising_cases new s xs (is_before new.name s.name) refl h (rising_with xs new h.1)

left_cases : (b : Bool) (new s : Snap) (t u m v : List Snap) → v ≡ u ++ m → cond b (new ∷ s ∷ (t ++ m)) (s ∷ v) ≡ cond b (new ∷ s ∷ t) (s ∷ u) ++ m
left_cases true new s t u m v e = refl
left_cases false new s t u m v e = ap (λ z. s ∷ z) e

-- a new one before k goes to its left
pub with_left : (new k : Snap) (l r : List Snap) → is_before new.name k.name ≡ true → with_snapshot (l ++ k ∷ r) new ≡ with_snapshot l new ++ k ∷ r
with_left new k [] r e = rw (e)
with_left new k (s ∷ l) r e = left_cases (is_before new.name s.name) new s l (with_snapshot l new) (k ∷ r) _ (with_left new k l r e)

with_later : (new s : Snap) (xs : List Snap) → is_before new.name s.name ≡ false → with_snapshot (s ∷ xs) new ≡ s ∷ with_snapshot xs new
with_later new s xs e = rw (e)

-- another goes to its right
pub with_right : (new k : Snap) (l r : List Snap) → is_before new.name k.name ≡ false → IsRising (l ++ k ∷ r) → with_snapshot (l ++ k ∷ r) new ≡ l ++ k ∷ with_snapshot r new
with_right new k [] r e h = with_later new k r e
with_right new k (s ∷ l) r e h =
    with_later new s (l ++ k ∷ r) (is_order.chain new.name k.name s.name e (none_middle s.name l k r h.0)) ∙ ap (λ z. s ∷ z) (with_right new k l r e h.1)

none_left : (a : List ℕ) (l m : List Snap) → NoneBefore a (l ++ m) → NoneBefore a l
none_left a [] m h = tt
none_left a (s ∷ l) m h = (h.0, none_left a l m h.1)

pub rising_left : (l m : List Snap) → IsRising (l ++ m) → IsRising l
rising_left [] m h = tt
rising_left (s ∷ l) m h = (none_left s.name l m h.0, rising_left l m h.1)

pub rising_right : (l m : List Snap) → IsRising (l ++ m) → IsRising m
rising_right [] m h = h
rising_right (s ∷ l) m h = rising_right l m h.1

irreflexive : (a : List ℕ) → is_before a a ≡ true → ⊥
irreflexive a e = cc (e, is_order.one_way a a e)

same_name : (name : List ℕ) (s : Snap) → is_named name s ≡ true → s.name ≡ name
same_name name s e = (bytes_eq-Decides s.name name).0 e

-- a name that is before another, or after it, is not it
unlike_before : (name : List ℕ) (s : Snap) → is_before name s.name ≡ true → is_named name s ≡ false
unlike_before name s e = false_unless (is_named name s) (λ n. irreflexive name (subst (λ z. is_before name z ≡ true) (same_name name s n) e))

unlike_behind : (name : List ℕ) (s : Snap) → is_before s.name name ≡ true → is_named name s ≡ false
unlike_behind name s e = false_unless (is_named name s) (λ n. irreflexive name (subst (λ z. is_before z name ≡ true) (same_name name s n) e))

none_named : (name a : List ℕ) (xs : List Snap) → is_before name a ≡ true → NoneBefore a xs → snapshot_named xs name ≡ None
none_named name a [] e h = refl
none_named name a (s ∷ xs) e h = rw (unlike_before name s (before_later name a s.name e h.0), none_named name a xs e h.1)

-- a name before that of k is found to its left
pub named_left : (name : List ℕ) (k : Snap) (l r : List Snap) → is_before name k.name ≡ true → IsRising (l ++ k ∷ r) → snapshot_named (l ++ k ∷ r) name ≡ snapshot_named l name
named_left name k [] r e h = rw (unlike_before name k e, none_named name k.name r e h.0)
named_left name k (s ∷ l) r e h = ap (λ z. cond (is_named name s) (Some s) z) (named_left name k l r e h.1)

-- one after it, to its right
pub named_right : (name : List ℕ) (k : Snap) (l r : List Snap) → is_before k.name name ≡ true → IsRising (l ++ k ∷ r) → snapshot_named (l ++ k ∷ r) name ≡ snapshot_named r name
named_right name k [] r e h = rw (unlike_behind name k e)
named_right name k (s ∷ l) r e h = rw (unlike_behind name s (earlier_before s.name k.name name (none_middle s.name l k r h.0) e)) (named_right name k l r e h.1)

named_middle_cases : (b : Bool) (s k : Snap) (o o' : Option Snap) → o' ≡ option_or o (Some k) → cond b (Some s) o' ≡ option_or (cond b (Some s) o) (Some k)
named_middle_cases true s k o o' e = refl
named_middle_cases false s k o o' e = e

-- one that is neither is that of k, which comes after others of this name
pub named_middle : (name : List ℕ) (k : Snap) (l r : List Snap) → is_named name k ≡ true → snapshot_named (l ++ k ∷ r) name ≡ option_or (snapshot_named l name) (Some k)
named_middle name k [] r e = rw (e)
named_middle name k (s ∷ l) r e = named_middle_cases (is_named name s) s k _ _ (named_middle name k l r e)

tie_cases : (o : Ordering) (p : Ordering) → o ≡ ordering_reverse p → is_lt o ≡ false → is_lt p ≡ false → is_eq o ≡ true
tie_cases Less p e f g = cc (f)
tie_cases Equal p e f g = refl
tie_cases Greater Less e f g = cc (g)
tie_cases Greater Equal e f g = cc (e)
tie_cases Greater Greater e f g = cc (e)

pub tie_named : (name : List ℕ) (k : Snap) → is_before name k.name ≡ false → is_before k.name name ≡ false → is_named name k ≡ true
tie_named name k e f = sym (is_eq-slice_cmp k.name name) ∙ tie_cases (slice_cmp nat_cmp k.name name) (slice_cmp nat_cmp name k.name) (nat_list_cmp_total.antisymm k.name name) f e

none_skip : (a : List ℕ) (l : List Snap) (k : Snap) (r : List Snap) → NoneBefore a (l ++ k ∷ r) → NoneBefore a (l ++ r)
none_skip a [] k r h = h.1
none_skip a (s ∷ l) k r h = (h.0, none_skip a l k r h.1)

pub rising_skip : (l : List Snap) (k : Snap) (r : List Snap) → IsRising (l ++ k ∷ r) → IsRising (l ++ r)
rising_skip [] k r h = h.1
rising_skip (s ∷ l) k r h = (none_skip s.name l k r h.0, rising_skip l k r h.1)

none_filter : (a : List ℕ) (p : Snap → Bool) (xs : List Snap) → NoneBefore a xs → NoneBefore a (filter p xs)
none_filter a p [] h = tt
none_filter a p (s ∷ xs) h =
    elim (p s) as (λ b. NoneBefore a (cond b (s ∷ filter p xs) (filter p xs))) [
      | true ↦ (h.0, none_filter a p xs h.1)
      | false ↦ none_filter a p xs h.1
    ]

-- a part of a rising list rises
pub rising_filter : (p : Snap → Bool) (xs : List Snap) → IsRising xs → IsRising (filter p xs)
rising_filter p [] h = tt
rising_filter p (s ∷ xs) h =
    elim (p s) as (λ b. IsRising (cond b (s ∷ filter p xs) (filter p xs))) [
      | true ↦ (none_filter s.name p xs h.0, rising_filter p xs h.1)
      | false ↦ rising_filter p xs h.1
    ]

none_map : (a : List ℕ) (f : Snap → Snap) → ((s : Snap) → (f s).name ≡ s.name) → (xs : List Snap) → NoneBefore a xs → NoneBefore a (map f xs)
none_map a f same [] h = tt
none_map a f same (s ∷ xs) h = (ap (λ z. is_before z a) (same s) ∙ h.0, none_map a f same xs h.1)

-- what keeps names keeps a list rising
pub rising_map : (f : Snap → Snap) → ((s : Snap) → (f s).name ≡ s.name) → (xs : List Snap) → IsRising xs → IsRising (map f xs)
rising_map f same [] h = tt
rising_map f same (s ∷ xs) h = (subst (λ z. NoneBefore z (map f xs)) (sym (same s)) (none_map s.name f same xs h.0), rising_map f same xs h.1)

-- the last of a rising list goes to its end
pub with_last : (xs : List Snap) (new : Snap) (m : List Snap) → IsRising (xs ++ new ∷ m) → with_snapshot xs new ≡ xs ++ new ∷ []
with_last [] new m h = refl
with_last (s ∷ xs) new m h = with_later new s xs (none_middle s.name xs new m h.0) ∙ ap (λ z. s ∷ z) (with_last xs new m h.1)

pub rising_joined : (l : List Snap) (k : Snap) (r m : List Snap) → IsRising ((l ++ k ∷ r) ++ m) → IsRising (r ++ m)
rising_joined [] k r m h = h.1
rising_joined (s ∷ l) k r m h = rising_joined l k r m h.1

pub filter_around : (p : Snap → Bool) (l : List Snap) (k : Snap) (r : List Snap) → filter p (l ++ k ∷ r) ≡ filter p l ++ cond (p k) (k ∷ filter p r) (filter p r)
filter_around p [] k r = refl
filter_around p (s ∷ l) k r =
    elim (p s) as (λ b. cond b (s ∷ filter p (l ++ k ∷ r)) (filter p (l ++ k ∷ r)) ≡ cond b (s ∷ filter p l) (filter p l) ++ cond (p k) (k ∷ filter p r) (filter p r)) [
      | true ↦ ap (λ z. s ∷ z) (filter_around p l k r)
      | false ↦ filter_around p l k r
    ]

-- one more
pub length_with : (xs : List Snap) (new : Snap) → length (with_snapshot xs new) ≡ length xs + 1
length_with [] new = omega arith
length_with (s ∷ xs) new =
    elim (is_before new.name s.name) as (λ b. length (cond b (new ∷ s ∷ xs) (s ∷ with_snapshot xs new)) ≡ length (s ∷ xs) + 1) [
      | true ↦ omega arith
      | false ↦ omega (arith, length_with xs new)
    ]

-- one taken out from between others that were looked through
pub filter_cut : (p : Snap → Bool) (l : List Snap) (k : Snap) (r : List Snap) → p k ≡ false → filter p (l ++ k ∷ r) ≡ filter p l ++ filter p r
filter_cut p l k r e = filter_around p l k r ∙ ap (λ b. filter p l ++ cond b (k ∷ filter p r) (filter p r)) e

pub filter_kept : (p : Snap → Bool) (l : List Snap) (k : Snap) (r : List Snap) → p k ≡ true → filter p (l ++ k ∷ r) ≡ filter p l ++ k ∷ filter p r
filter_kept p l k r e = filter_around p l k r ∙ ap (λ b. filter p l ++ cond b (k ∷ filter p r) (filter p r)) e

pub rising_cut : (p : Snap → Bool) (l : List Snap) (k : Snap) (r : List Snap) → IsRising (l ++ k ∷ r) → IsRising (filter p l ++ filter p r)
rising_cut p l k r h = subst IsRising (filter-append p l r) (rising_filter p (l ++ r) (rising_skip l k r h))

pub rising_kept : (p : Snap → Bool) (l : List Snap) (k : Snap) (r : List Snap) → p k ≡ true → IsRising (l ++ k ∷ r) → IsRising (filter p l ++ k ∷ filter p r)
rising_kept p l k r e h = subst IsRising (filter_kept p l k r e) (rising_filter p (l ++ k ∷ r) h)

-- no more than there were
pub length_filter_le : (p : Snap → Bool) (xs : List Snap) → length (filter p xs) ≤ length xs
length_filter_le p [] = omega arith
length_filter_le p (s ∷ xs) =
    elim (p s) as (λ b. length (cond b (s ∷ filter p xs) (filter p xs)) ≤ length (s ∷ xs)) [
      | true ↦ omega (arith, length_filter_le p xs)
      | false ↦ omega (arith, length_filter_le p xs)
    ]

at_place : (b : Bool) (n : ℕ) (new s : Snap) (xs ys : List Snap) → take n xs ++ new ∷ drop n xs ≡ ys → take (cond (not b) (1 + n) 0) (s ∷ xs) ++ new ∷ drop (cond (not b) (1 + n) 0) (s ∷ xs) ≡ cond b (new ∷ s ∷ xs) (s ∷ ys)
at_place true n new s xs ys e = refl
at_place false n new s xs ys e =
    let more : suc n ≡ 1 + n = omega arith in
    subst (λ m. take m (s ∷ xs) ++ new ∷ drop m (s ∷ xs) ≡ s ∷ ys) more (ap (λ z. s ∷ z) e)

-- the same by the place before the first greater name
pub with_snapshot_at : (xs : List Snap) (new : Snap) → insert xs (position_or_len (λ s. is_lt (slice_cmp nat_cmp new.name s.name)) xs) new ≡ with_snapshot xs new
with_snapshot_at [] new = refl
with_snapshot_at (s ∷ xs) new = at_place (is_before new.name s.name) _ new s xs _ (with_snapshot_at xs new)
