-- Lists of snapshots of which one is deleted.
use Rattle.std.proofs.Common.{◌≡◌, ◌∙◌, ℕ, zero, suc, ◌+◌, ◌<◌, ◌≤◌, List, [], ◌∷◌, ◌++◌, Bool, true, false, cond, if◌then◌else◌, not, ◌||◌, Option, None, Some, is_some, bytes_eq, map, option_map, take, drop, length, slice_get, refl, sym, ap, arith}
use Rattle.std.specs.List.{count_by, filter}
use Rattle.std.proofs.Math.ListN.{drop_of_length-le}
use Rattle.std.proofs.Math.Seq.{take-suc}
use Rattle.std.proofs.lemmas.List.Sums.{length-filter}
use Rattle.std.proofs.lemmas.Option.{get_or_from_slice_get, slice_get-map, slice_get_within}
use Rattle.virt_types.specs.Snapshots.{kept_by}
use Rattle.virt_types.proofs.KeptSnaps.{kept_filter}
use Rattle.domain_spec.specs.Types.{Snap}
use Rattle.domain_spec.specs.Snapshots.{comes_from, free_number, is_met, is_parent, numbered_name, parent_of, snapshot_named, without_snapshot}
use Rattle.snapshot_core.specs.declared.deletion.Others.TheVariants as others
use Rattle.snapshot_core.specs.Deletion.{FitsOthers}

one_longer : (b : Bool) (s : Snap) (xs ys : List Snap) → length xs ≤ length ys → length (cond b (s ∷ xs) xs) ≤ length (cond b (s ∷ ys) ys)
one_longer true s xs ys h = omega (arith, h)
one_longer false s xs ys h = h

not_longer : (b : Bool) (s : Snap) (xs ys : List Snap) → length xs ≤ length ys → length xs ≤ length (cond b (s ∷ ys) ys)
not_longer true s xs ys h = omega (arith, h)
not_longer false s xs ys h = h

passes_left : (b : Bool) (p : Snap → Bool) (s : Snap) (left xs : List Snap) → length (filter p left) ≤ length (filter p xs) → length (filter p (cond b (s ∷ left) left)) ≤ length (filter p (s ∷ xs))
passes_left true p s left xs h = one_longer (p s) s (filter p left) (filter p xs) h
passes_left false p s left xs h = not_longer (p s) s (filter p left) (filter p xs) h

pass_left : (p q : Snap → Bool) (xs : List Snap) → length (filter p (filter q xs)) ≤ length (filter p xs)
pass_left p q [] = omega arith
pass_left p q (s ∷ xs) = passes_left (q s) p s (filter q xs) xs (pass_left p q xs)

-- of fewer snapshots no more are children
pub count_left : (p q : Snap → Bool) (xs : List Snap) → count_by p (filter q xs) ≤ count_by p xs
count_left p q xs = omega (arith, length-filter p xs, length-filter p (filter q xs), pass_left p q xs)

-- the flags of one snapshot more
pub flag_more : (f : Snap → Bool) (xs : List Snap) (n : ℕ) (s : Snap) → slice_get xs n ≡ Some s → take (n + 1) (map f xs) ≡ take n (map f xs) ++ f s ∷ []
flag_more f xs n s e =
    let at : slice_get (map f xs) n ≡ Some (f s) = slice_get-map f xs n ∙ ap (option_map f) e in
    let within = slice_get_within (map f xs) n (f s) at in
    let more : n + 1 ≡ suc n = omega arith in
    ap (λ m. take m (map f xs)) more ∙ take-suc (map f xs) n (f s) within
    ∙ ap (λ b. take n (map f xs) ++ b ∷ []) (get_or_from_slice_get (map f xs) n (f s) (f s) at)

-- a copy is there for each child that stays
pub enough_copies :
    (copies : List (Option (List ℕ))) (snaps : List Snap) (name : List ℕ) (children : Bool) (q : Snap → Bool) → FitsOthers (others.Adopted copies) snaps name children
    → count_by (λ snap. is_parent snap.parent name) (filter q snaps) ≤ length copies
enough_copies copies snaps name true q h = absurd h
enough_copies copies snaps name false q h = omega (arith, h.1, count_left (λ snap. is_parent snap.parent name) q snaps)

-- those stay whose flag is set
pub flagged_stay :
    (flags : List Bool) (snaps : List Snap) (name : List ℕ) (children : Bool) → FitsOthers (others.Flagged flags) snaps name children
    → kept_by snaps flags ≡ without_snapshot snaps name children
flagged_stay flags snaps name true h = ap (kept_by snaps) h ∙ kept_filter (λ snap. not (comes_from snaps name snap)) snaps
flagged_stay flags snaps name false h = absurd h

-- a step on the way
drop_more : (xs : List Snap) (n : ℕ) → n < length xs → (x : Snap) × (drop n xs ≡ x ∷ drop (n + 1) xs)
drop_more [] n lt = absurd (omega arith)
drop_more (x ∷ xs) zero lt = (x, refl)
drop_more (x ∷ xs) (suc n) lt =
    let below : n < length xs = omega arith in
    let more : suc n + 1 ≡ suc (n + 1) = omega arith in
    let rest = drop_more xs n below in
    (rest.0, rest.1 ∙ ap (λ m. rest.0 ∷ drop m (x ∷ xs)) (sym more))

pub none_met : (steps snaps : List Snap) (name : List ℕ) → is_met steps snaps name None ≡ false
none_met [] snaps name = refl
none_met (s ∷ steps) snaps name = refl

met_by :
    (snaps : List Snap) (name parent : List ℕ) (steps : ℕ) → steps < length snaps
    → is_met (drop steps snaps) snaps name (Some parent) ≡ (bytes_eq parent name || is_met (drop (steps + 1) snaps) snaps name (parent_of (snapshot_named snaps parent)))
met_by snaps name parent steps lt =
    let more = drop_more snaps steps lt in
    ap (λ left. is_met left snaps name (Some parent)) more.1

pub met_here : (snaps : List Snap) (name parent : List ℕ) (steps : ℕ) → steps < length snaps → bytes_eq parent name ≡ true → is_met (drop steps snaps) snaps name (Some parent) ≡ true
met_here snaps name parent steps lt e = met_by snaps name parent steps lt ∙ ap (λ b. b || is_met (drop (steps + 1) snaps) snaps name (parent_of (snapshot_named snaps parent))) e

pub met_further :
    (snaps : List Snap) (name parent : List ℕ) (steps : ℕ) → steps < length snaps → bytes_eq parent name ≡ false
    → is_met (drop steps snaps) snaps name (Some parent) ≡ is_met (drop (steps + 1) snaps) snaps name (parent_of (snapshot_named snaps parent))
met_further snaps name parent steps lt e = met_by snaps name parent steps lt ∙ ap (λ b. b || is_met (drop (steps + 1) snaps) snaps name (parent_of (snapshot_named snaps parent))) e

pub free_end : (snaps : List Snap) (tried n : ℕ) → length snaps ≤ tried → free_number (drop tried snaps) snaps n ≡ n
free_end snaps tried n le = ap (λ left. free_number left snaps n) (drop_of_length-le snaps le)

free_if : (b : Bool) (n m : ℕ) → b ≡ false → (if b then m else n) ≡ n
free_if true n m e = cc
free_if false n m e = refl

pub free_here : (steps snaps : List Snap) (n : ℕ) → is_some (snapshot_named snaps (numbered_name n)) ≡ false → free_number steps snaps n ≡ n
free_here [] snaps n e = refl
free_here (s ∷ steps) snaps n e = free_if (is_some (snapshot_named snaps (numbered_name n))) n _ e

pub free_further :
    (snaps : List Snap) (tried n : ℕ) → tried < length snaps → is_some (snapshot_named snaps (numbered_name n)) ≡ true
    → free_number (drop tried snaps) snaps n ≡ free_number (drop (tried + 1) snaps) snaps (n + 1)
free_further snaps tried n lt e =
    let more = drop_more snaps tried lt in
    ap (λ left. free_number left snaps n) more.1 ∙ ap (λ b. if b then free_number (drop (tried + 1) snaps) snaps (n + 1) else n) e

pub is_there : (xs : List Snap) (n : ℕ) → n < length xs → slice_get xs n ≡ None → ⊥
is_there [] n lt e = absurd (omega arith)
is_there (x ∷ xs) zero lt e = cc
is_there (x ∷ xs) (suc n) lt e = let below : n < length xs = omega arith in is_there xs n below e
