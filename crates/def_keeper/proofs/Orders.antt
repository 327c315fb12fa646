-- The names of files in order.
use Rattle.std.proofs.Common.{◌≡◌, ◌<◌, ◌+◌, String, cond, List, [], ◌∷◌, ℕ, None, Some, Result, Ok, Err, IfOk, bytes_eq, length, map, refl, suc, ◌∙◌, ap, arith}
use Rattle.std.specs.String.{string_bytes}
use Rattle.std.specs.Cmp.Lexicographic.{slice_cmp}
use Rattle.std.specs.List.Sorted.{IsPermutation, IsSorted}
use Rattle.std.specs.Ordering.{is_lt, nat_cmp}
use Rattle.std.proofs.lemmas.List.{get_or-map}
use Rattle.std.proofs.lemmas.List.Sorted.{sum_by-IsPermutation}
use Rattle.files_disk.specs.Telling.{IsListed, Told}
use Rattle.def_keeper.specs.Opening.{IsInOrder}

long : {Z : Type 0} (ss : List (String Z)) → length (map string_bytes ss) ≡ length ss
long [] = refl
long (s ∷ ss) = ap suc (long ss)

-- strings in order have bytes in order
pub order_of : {Z : Type 0} (ss : List (String Z)) → IsSorted (λ a b. slice_cmp nat_cmp (string_bytes a) (string_bytes b)) ss → IsInOrder (map string_bytes ss)
order_of [] sorted k d least lt = absurd (omega (arith, lt))
order_of (s ∷ ss) sorted k d least lt =
    let xs = s ∷ ss in
    let within : k + 1 < length xs = omega (arith, lt, long xs) in
    (λ i. is_lt (slice_cmp nat_cmp (get_or-map string_bytes xs (k + 1) s d within i) (get_or-map string_bytes xs k s d (omega (arith, within)) i)))
    ∙ sorted k s least within

-- other orders of a list list the same
pub listed_so : (told : Told) (xs ys : List (List ℕ)) → IsPermutation xs ys → IsListed told xs → IsListed told ys
listed_so None xs ys moved lists = tt
listed_so (Some os) xs ys moved lists = λ n. sum_by-IsPermutation (λ x. cond (bytes_eq n x) 1 0) xs ys moved ∙ lists n

pub map_ok : {A E : Type 0} {P Q : A → Type 0} (r : Result A E) → ((x : A) → P x → Q x) → IfOk r P → IfOk r Q
map_ok (Ok x) f p = f x p
map_ok (Err e) f p = tt
