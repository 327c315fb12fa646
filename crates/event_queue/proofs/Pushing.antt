-- What a ring keeps of several transitions.
use Rattle.std.proofs.Common.{◌≡◌, ℕ, ◌+◌, ◌-◌, ◌<◌, ◌≤◌, ◌^◌, List, [], ◌∷◌, ◌++◌, Bool, true, false, not, ◌&&◌, ◌||◌, Option, None, Some, is_some, unwrap_or, if◌then◌else◌, refl, sym, ap, ◌∙◌, arith, length, take, append_assoc, append-nil, length-append, min, nat_le, nat_lt}
use Rattle.std.proofs.lemmas.Bool.Decides.{nat_tests}
use Rattle.std.proofs.lemmas.List.{take-append-le}
use Rattle.std.proofs.Math.Seq.{take-append_seam, take-length}
use Rattle.domain_spec.specs.Types.{Transition}
use Rattle.event_queue.specs.Ring.{Ring, after_all, after_push, extended_by, filled_by, is_full, most_pending, push_by, pushed_all}

-- a ring that has ended keeps no more
ended_all : (r : Ring) (ts : List Transition) (count : ℕ) → r.ended ≡ Some count → pushed_all r ts ≡ r
ended_all r [] count e = refl
ended_all r (t ∷ ts) count e =
    let same : after_push r t ≡ r = ap (λ (o : Option ℕ). push_by r t o) e in
    ap (λ (x : Ring). pushed_all x ts) same ∙ ended_all r ts count e

record Holds (r : Ring) : Type 0 where
  pending : length r.pending ≤ 256
  came : r.taken + length r.pending ≤ 2 ^ 62

full_is : (r : Ring) → Holds r → is_full r ≡ true → length r.pending ≡ most_pending r
full_is r h e = grind (arith, nat_tests, h.pending, h.came, e)

not_full : (r : Ring) → Holds r → is_full r ≡ false → length r.pending < most_pending r
not_full r h e = grind (arith, nat_tests, h.pending, h.came, e)

-- a list that is cut where it is full already
cut_full : (p : List Transition) (t : Transition) (ts : List Transition) (n : ℕ) → length p ≡ n → take n (p ++ t ∷ ts) ≡ p
cut_full p t ts n e = ap (λ (k : ℕ). take k (p ++ t ∷ ts)) (sym e) ∙ take-append_seam p (t ∷ ts)

over_by : (n m k : ℕ) (b : Bool) → n ≡ m → 0 < k → nat_lt m (n + k) ≡ b → b ≡ true
over_by n m k true e some f = refl
over_by n m k false e some f = grind (arith, nat_tests, e, some, f)

push_by_full : (r : Ring) (t : Transition) (b : Bool) → is_full r ≡ b → r.ended ≡ None → after_push r t ≡ (if b then record r { ended = Some (length r.pending) } else record r { pending = r.pending ++ t ∷ [] })
push_by_full r t b e none = ap (λ (o : Option ℕ). push_by r t o) none ∙ ap (λ (c : Bool). if c then record r { ended = Some (length r.pending) } else record r { pending = r.pending ++ t ∷ [] }) e

-- what a ring that has not ended keeps of these
abbrev KeepsAll : List Transition → Ring → Type 0
KeepsAll ts r = pushed_all r ts ≡ filled_by r (r.pending ++ ts) (nat_lt (most_pending r) (length r.pending + length ts))

push_one : (ts : List Transition) (t : Transition) (r : Ring) (full : Bool) → is_full r ≡ full → Holds r → r.ended ≡ None
    → ((next : Ring) → Holds next → next.ended ≡ None → KeepsAll ts next) → KeepsAll (t ∷ ts) r
push_one ts t r true is h none rest =
    let at : length r.pending ≡ most_pending r = full_is r h is in
    let over : nat_lt (most_pending r) (length r.pending + length (t ∷ ts)) ≡ true = over_by (length r.pending) (most_pending r) (length (t ∷ ts)) (nat_lt (most_pending r) (length r.pending + length (t ∷ ts))) at (omega arith) refl in
    let ended : Ring = record r { ended = Some (length r.pending) } in
    rw (push_by_full r t true is none, over)
    (ended_all ended ts (length r.pending) refl
    ∙ ap (λ (n : ℕ). record r { ended = Some n }) at
    ∙ ap (λ (p : List Transition). record r { pending = p; ended = Some (most_pending r) }) (sym (cut_full r.pending t ts (most_pending r) at)))
push_one ts t r false is h none rest =
    let room = not_full r h is in
    let next : Ring = record r { pending = r.pending ++ t ∷ [] } in
    let count : length (r.pending ++ t ∷ []) ≡ length r.pending + 1 = length-append r.pending (t ∷ []) in
    let holds : Holds next = record { pending = omega (arith, count, room); came = omega (arith, count, room) } in
    rw (push_by_full r t false is none)
    (rest next holds none
    ∙ ap (λ (p : List Transition). filled_by r p (nat_lt (most_pending r) (length (r.pending ++ t ∷ []) + length ts))) (append_assoc r.pending (t ∷ []) ts)
    ∙ ap (λ (n : ℕ). filled_by r (r.pending ++ t ∷ ts) (nat_lt (most_pending r) n)) (let e : length (r.pending ++ t ∷ []) + length ts ≡ length r.pending + length (t ∷ ts) = omega (arith, count) in e))

all_pushed : (ts : List Transition) (r : Ring) → Holds r → r.ended ≡ None → KeepsAll ts r
all_pushed [] r h none =
    let within : nat_lt (most_pending r) (length r.pending + 0) ≡ false = grind (arith, nat_tests, h.pending, h.came) in
    rw (within) (ap (λ (p : List Transition). record r { pending = p }) (sym (append-nil r.pending)))
all_pushed (t ∷ ts) r h none = push_one ts t r (is_full r) refl h none (all_pushed ts)

pushes_by : (r : Ring) (ts : List Transition) (ended : Option ℕ) → r.ended ≡ ended → Holds r → pushed_all r ts ≡ extended_by r ts ended
pushes_by r ts None e h = all_pushed ts r h e
pushes_by r ts (Some count) e h = ended_all r ts count e

none_by : (r : Ring) (ts : List Transition) (ended : Option ℕ) → r.ended ≡ ended → is_some ended ≡ true → r ≡ extended_by r ts ended
none_by r ts None e some = cc
none_by r ts (Some count) e some = refl

-- a ring that has ended is as it was
pub pushes_none : (r : Ring) (ts : List Transition) → is_some r.ended ≡ true → r ≡ after_all r ts
pushes_none r ts e = none_by r ts r.ended refl e

-- what a ring keeps of several transitions
pub pushes_all : (r : Ring) (ts : List Transition) → length r.pending ≤ 256 → r.taken + length r.pending ≤ 2 ^ 62 → pushed_all r ts ≡ after_all r ts
pushes_all r ts pending came = pushes_by r ts r.ended refl (record { pending = pending; came = came })
