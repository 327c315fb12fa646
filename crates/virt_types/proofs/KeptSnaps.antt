-- Lists of snapshots of which some stay, by flags.
use Rattle.std.proofs.Common.{◌≡◌, ℕ, ◌+◌, ◌-◌, ◌<◌, ◌≤◌, Bool, true, false, cond, Option, List, [], ◌∷◌, ◌++◌, not, map, drop, take, filter, get_or, length, arith, refl, ap, ◌∙◌, sym, subst}
use Rattle.std.proofs.lemmas.Grind.{common_steps}
use Rattle.virt_types.specs.declared.domain.Snap.{Snap}
use Rattle.virt_types.specs.Snapshots.{IsRising, NoneBefore, is_before, is_child, kept_by, with_parent}
use Rattle.virt_types.proofs.RisingSnaps.{rising_map}
use Rattle.virt_types.proofs.SnapAt.{IsAround}

-- no more than there were
pub length_kept_le : (flags : List Bool) (xs : List Snap) → length (kept_by xs flags) ≤ length xs
length_kept_le flags [] = omega arith
length_kept_le [] (s ∷ xs) = omega arith
length_kept_le (b ∷ flags) (s ∷ xs) =
    elim b as (λ b. length (cond b (s ∷ kept_by xs flags) (kept_by xs flags)) ≤ length (s ∷ xs)) [
      | true ↦ omega (arith, length_kept_le flags xs)
      | false ↦ omega (arith, length_kept_le flags xs)
    ]

none_kept : (a : List ℕ) (flags : List Bool) (xs : List Snap) → NoneBefore a xs → NoneBefore a (kept_by xs flags)
none_kept a flags [] h = tt
none_kept a [] (s ∷ xs) h = h
none_kept a (true ∷ flags) (s ∷ xs) h = (h.0, none_kept a flags xs h.1)
none_kept a (false ∷ flags) (s ∷ xs) h = none_kept a flags xs h.1

-- what stays of a rising list rises
pub rising_kept_by : (flags : List Bool) (xs : List Snap) → IsRising xs → IsRising (kept_by xs flags)
rising_kept_by flags [] h = tt
rising_kept_by [] (s ∷ xs) h = h
rising_kept_by (true ∷ flags) (s ∷ xs) h = (none_kept s.name flags xs h.0, rising_kept_by flags xs h.1)
rising_kept_by (false ∷ flags) (s ∷ xs) h = rising_kept_by flags xs h.1

-- without flags each stays
pub kept_all : (xs : List Snap) → kept_by xs [] ≡ xs
kept_all [] = refl
kept_all (s ∷ xs) = refl

-- first those of one list have their flags, and then those of the other
pub kept_append : (xs ys : List Snap) (flags : List Bool) → kept_by (xs ++ ys) flags ≡ kept_by xs flags ++ kept_by ys (drop (length xs) flags)
kept_append [] ys flags = refl
kept_append (s ∷ xs) ys [] = ap (λ z. s ∷ (xs ++ z)) (sym (kept_all ys))
kept_append (s ∷ xs) ys (true ∷ flags) = ap (λ z. s ∷ z) (kept_append xs ys flags)
kept_append (s ∷ xs) ys (false ∷ flags) = kept_append xs ys flags

-- flags that say for each whether it stays
pub kept_filter : (p : Snap → Bool) (xs : List Snap) → kept_by xs (map p xs) ≡ filter p xs
kept_filter p [] = refl
kept_filter p (s ∷ xs) = ap (λ z. cond (p s) (s ∷ z) z) (kept_filter p xs)

-- what stays, by flags, of a part of the tree
pub record IsKept (flags : List Bool) (d after : List Snap) : Type 0 where
  pub is : after ≡ kept_by d flags
  pub rising : IsRising after

is_kept : {d l r after : List Snap} {k : Snap} (flags : List Bool) → IsAround d l k r → after ≡ kept_by (l ++ k ∷ r) flags → IsKept flags d after
is_kept {d} {l} {r} {after} {k} flags f e =
    record { is = e ∙ ap (λ z. kept_by z flags) (sym f.is); rising = subst IsRising (sym e) (rising_kept_by flags (l ++ k ∷ r) f.rising) }

no_flags : (rest : List Bool) → length rest < 1 → rest ≡ []
no_flags [] h = refl
no_flags (b ∷ rest) h = absurd (omega arith)

rest_of : (b : Bool) (rest : List Bool) → take (length (b ∷ rest) - 1) (drop 1 (b ∷ rest)) ≡ rest
rest_of b rest = grind (arith, common_steps)

split_flags : (rest : List Bool) (b : Bool) → 1 ≤ length rest → get_or rest 0 false ≡ b → rest ≡ b ∷ take (length rest - 1) (drop 1 rest)
split_flags [] b some e = absurd (omega arith)
split_flags (x ∷ rest) b some e = ap (λ z. z ∷ rest) e ∙ ap (λ z. b ∷ z) (sym (rest_of x rest))

kept_around : (flags rest : List Bool) (l r left : List Snap) (k : Snap) → left ≡ kept_by l flags → rest ≡ drop (length l) flags → left ++ kept_by (k ∷ r) rest ≡ kept_by (l ++ k ∷ r) flags
kept_around flags rest l r left k first is = ap (λ z. z ++ kept_by (k ∷ r) rest) first ∙ ap (λ z. kept_by l flags ++ kept_by (k ∷ r) z) is ∙ sym (kept_append l (k ∷ r) flags)

-- the flags end before this snapshot
pub kept_end : {d l r left : List Snap} {k : Snap} (flags rest : List Bool) → IsAround d l k r → left ≡ kept_by l flags → rest ≡ drop (length l) flags → length rest < 1 → IsKept flags d (left ++ k ∷ r)
kept_end {d} {l} {r} {left} {k} flags rest f first is end =
    is_kept flags f (ap (λ z. left ++ kept_by (k ∷ r) z) (sym (no_flags rest end)) ∙ kept_around flags rest l r left k first is)

-- this snapshot stays
pub kept_stays : {d l r left right : List Snap} {k : Snap} (flags rest : List Bool) → IsAround d l k r → left ≡ kept_by l flags → rest ≡ drop (length l) flags → 1 ≤ length rest → get_or rest 0 false ≡ true
    → right ≡ kept_by r (take (length rest - 1) (drop 1 rest)) → IsKept flags d (left ++ k ∷ right)
kept_stays {d} {l} {r} {left} {right} {k} flags rest f first is some stays behind =
    is_kept flags f (ap (λ z. left ++ k ∷ z) behind ∙ ap (λ z. left ++ kept_by (k ∷ r) z) (sym (split_flags rest true some stays)) ∙ kept_around flags rest l r left k first is)

-- this snapshot goes
pub kept_goes : {d l r left right : List Snap} {k : Snap} (flags rest : List Bool) → IsAround d l k r → left ≡ kept_by l flags → rest ≡ drop (length l) flags → 1 ≤ length rest → get_or rest 0 false ≡ false
    → right ≡ kept_by r (take (length rest - 1) (drop 1 rest)) → IsKept flags d (left ++ right)
kept_goes {d} {l} {r} {left} {right} {k} flags rest f first is some goes behind =
    is_kept flags f (ap (λ z. left ++ z) behind ∙ ap (λ z. left ++ kept_by (k ∷ r) z) (sym (split_flags rest false some goes)) ∙ kept_around flags rest l r left k first is)

name_stays : (b : Bool) (s : Snap) (parent : Option (List ℕ)) → (cond b (record s { parent = parent }) s).name ≡ s.name
name_stays true s parent = refl
name_stays false s parent = refl

map_around : (f : Snap → Snap) (l r : List Snap) (k : Snap) → map f (l ++ k ∷ r) ≡ map f l ++ f k ∷ map f r
map_around f [] r k = refl
map_around f (s ∷ l) r k = ap (λ z. f s ∷ z) (map_around f l r k)

-- children that get another parent stay where they are
pub rising_adopted : {d l r left right : List Snap} {k own : Snap} (name : List ℕ) (parent : Option (List ℕ)) → IsAround d l k r
    → left ≡ map (with_parent name parent) l → own ≡ with_parent name parent k → right ≡ map (with_parent name parent) r → IsRising (left ++ own ∷ right)
rising_adopted {d} {l} {r} {left} {right} {k} {own} name parent f before at behind =
    let is : left ++ own ∷ right ≡ map (with_parent name parent) (l ++ k ∷ r) =
    ap (λ z. z ++ own ∷ right) before ∙ ap (λ z. map (with_parent name parent) l ++ z ∷ right) at ∙ ap (λ z. map (with_parent name parent) l ++ with_parent name parent k ∷ z) behind ∙ sym (map_around (with_parent name parent) l r k) in
    subst IsRising (sym is) (rising_map (with_parent name parent) (λ s. name_stays (is_child name s) s parent) (l ++ k ∷ r) f.rising)
