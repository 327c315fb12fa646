-- Lists of callers of which no two are one.
use Rattle.std.proofs.Common.{◌≡◌, ◌++◌, ◌∷◌, ◌≤◌, ◌<◌, [], List, ℕ, zero, suc, Bool, true, false, ◌||◌, not, cond, length, take, get_or, refl, arith, ◌∙◌}
use Rattle.std.specs.List.{filter}
use Rattle.std.proofs.lemmas.List.Filters.{length-filter_both}
use Rattle.domain_spec.specs.Open.{AreDistinct, is_among, is_same_who}
use Rattle.domain_spec.specs.Types.{Who}
use Rattle.job_rules.specs.Waiting.{without}

-- neither of two tests passes where their choice doesn't
neither : (a b : Bool) → (a || b) ≡ false → (a ≡ false) × (b ≡ false)
neither true b e = absurd (grind arith)
neither false b e = (refl, e)

neither_back : (a b : Bool) → a ≡ false → b ≡ false → (a || b) ≡ false
neither_back a b e f = grind arith

-- to be one caller goes both ways
same_who-sym : (a b : Who) → is_same_who a b ≡ is_same_who b a
same_who-sym a b = grind arith

none_more : (cs : List Who) (c who : Who) → is_among cs c ≡ false → is_same_who c who ≡ false → is_among (cs ++ who ∷ []) c ≡ false
none_more [] c who none other = neither_back (is_same_who c who) false other refl
none_more (d ∷ ds) c who none other =
    let parts = neither (is_same_who c d) (is_among ds c) none in
    neither_back (is_same_who c d) (is_among (ds ++ who ∷ []) c) parts.0 (none_more ds c who parts.1 other)

-- one more caller, who is none of them
pub distinct_more : (cs : List Who) (who : Who) → AreDistinct cs → is_among cs who ≡ false → AreDistinct (cs ++ who ∷ [])
distinct_more [] who apart other = (refl, tt)
distinct_more (c ∷ cs) who apart other =
    let parts = neither (is_same_who who c) (is_among cs who) other in
    (none_more cs c who apart.0 (same_who-sym c who ∙ parts.0), distinct_more cs who apart.1 parts.1)

none_at : (cs : List Who) (c : Who) (i : ℕ) (d : Who) → is_among cs c ≡ false → i < length cs → is_same_who c (get_or cs i d) ≡ false
none_at [] c i d none within = absurd (omega (arith, within))
none_at (x ∷ xs) c zero d none within = (neither (is_same_who c x) (is_among xs c) none).0
none_at (x ∷ xs) c (suc i) d none within =
    none_at xs c i d (neither (is_same_who c x) (is_among xs c) none).1 (omega (arith, within))

none_before : (cs : List Who) (i : ℕ) (d : Who) → AreDistinct cs → i < length cs → is_among (take i cs) (get_or cs i d) ≡ false
none_before [] i d apart within = absurd (omega (arith, within))
none_before (x ∷ xs) zero d apart within = refl
none_before (x ∷ xs) (suc i) d apart within =
    let below : i < length xs = omega (arith, within) in
    neither_back (is_same_who (get_or xs i d) x) (is_among (take i xs) (get_or xs i d))
    (same_who-sym (get_or xs i d) x ∙ none_at xs x i d apart.0 below) (none_before xs i d apart.1 below)

none_left : (cs : List Who) (test : Who → Bool) (c : Who) → is_among cs c ≡ false → is_among (filter test cs) c ≡ false
none_left [] test c none = refl
none_left (x ∷ xs) test c none =
    let parts = neither (is_same_who c x) (is_among xs c) none in
    let rest = none_left xs test c parts.1 in
    elim (test x) as (λ passes. is_among (cond passes (x ∷ filter test xs) (filter test xs)) c ≡ false)
    [ true ↦ neither_back (is_same_who c x) (is_among (filter test xs) c) parts.0 rest | false ↦ rest ]

-- the caller at a place is none of those that are left of the ones before it
pub other_than_left : (cs : List Who) (i : ℕ) (d who : Who) → AreDistinct cs → i < length cs → is_among (without (take i cs) who) (get_or cs i d) ≡ false
other_than_left cs i d who apart within =
    none_left (take i cs) (λ caller. not (is_same_who who caller)) (get_or cs i d) (none_before cs i d apart within)

-- who is left are no more than who were there
pub left_is_less : (cs : List Who) (who : Who) → length (without cs who) ≤ length cs
left_is_less cs who =
    omega (arith, length-filter_both (λ caller. not (is_same_who who caller)) (λ caller. not (not (is_same_who who caller))) (λ _. refl) cs)
