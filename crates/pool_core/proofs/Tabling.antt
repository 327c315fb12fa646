-- The first entry that passes, found by its place.
use Rattle.std.proofs.Common.{◌≡◌, ℕ, ◌<◌, ◌≤◌, Bool, true, false, cond, ltb, List, [], ◌∷◌, length, ◌++◌, bytes_eq, get_or, set, find, position, Option, None, Some, Result, Ok, Err, is_some, zero, suc, refl, sym, ap, ◌∙◌, subst, ⊎_elim, arith}
use Rattle.std.specs.List.{remove, position_or_len}
use Rattle.std.specs.Option.{unwrap_or}
use Rattle.std.proofs.lemmas.Bool.{cases_Bool, cases_lt, cond-true, lt-ltb, le-ltb, ltb-true, false≢true}
use Rattle.std.proofs.lemmas.List.Quantifiers.{position-Some}
use Rattle.std.proofs.lemmas.Option.{none-some}
use Rattle.std.proofs.lemmas.List.Sums.{fails_before_first}
use Rattle.book_spec.specs.declared.pool_book.Pool.{Pool}
use Rattle.uuid.specs.Text.{hyphenated_text, lower}
use Rattle.virt_types.specs.Below.types_base.declared.storage_def.PoolDef.{PoolDef}
use Rattle.virt_types.specs.Below.types_base.declared.refusal.Refusal.{Refusal}
use Rattle.virt_types.specs.Below.types_base.declared.storage_def.VolDef.{VolDef}
use Rattle.virt_types.specs.Below.types_base.declared.memory.OrNoMemory.{OrNoMemory}
use Rattle.book_spec.specs.Volumes.{with_volume, with_dropped}
use Rattle.book_spec.specs.declared.pool_book.PoolCall.{PoolCall}
use Rattle.pool_core.specs.Answers.{OnDone, TakesEffect}
use Rattle.std.proofs.lemmas.List.{set-get_or}
use Rattle.book_spec.specs.declared.pool_book.PoolAnswer.{PoolAnswer}
use Rattle.book_spec.specs.declared.pool_book.PoolAnswer.TheVariants.{Done, Refused}
use Rattle.book_spec.specs.declared.pool_book.PoolCall.TheVariants as call
use Rattle.book_spec.specs.Pools.{Pools, has, identifier, name_of, pool_of, new_pool, with_changed, without, uuid_of}
use Rattle.book_spec.specs.PoolCalls.{answer, pools_after, made, dropped, in_active, is_inactive, list_full, no_pool, defined, if_inactive, pool_exists, newly_defined, redefined, with_def, with_pool}

module _ {X : Type 0} (p : X → Bool) where
  pub record IsAt (xs : List X) (i : ℕ) (d : X) : Type 0 where
    pub within : i < length xs
    pub here : p (get_or xs i d) ≡ true
    pub before : (k : ℕ) → k < i → p (get_or xs k d) ≡ false

  pub is_at : (xs : List X) (i : ℕ) (d : X) → position p xs ≡ Some i → IsAt xs i d
  is_at xs i d is = let found = position-Some p xs i d is in record { within = found.0; here = found.1; before = found.2 }

  pub tail_at : (x : X) (xs : List X) (i : ℕ) (d : X) → IsAt (x ∷ xs) (suc i) d → IsAt xs i d
  tail_at x xs i d at = record { within = omega (arith, at.within); here = at.here; before = λ k h. at.before (suc k) (omega (arith, h)) }

  pub find_by : (xs : List X) (i : ℕ) (d : X) → IsAt xs i d → find p xs ≡ Some (get_or xs i d)
  find_by [] i d at = absurd (omega (arith, at.within))
  find_by (x ∷ xs) zero d at = ap (λ (b : Bool). cond b (Some x) (find p xs)) at.here
  find_by (x ∷ xs) (suc i) d at = ap (λ (b : Bool). cond b (Some x) (find p xs)) (at.before 0 (omega arith)) ∙ find_by xs i d (tail_at x xs i d at)

  pub find-at : (xs : List X) (i : ℕ) (d : X) → position p xs ≡ Some i → find p xs ≡ Some (get_or xs i d)
  find-at xs i d is = find_by xs i d (is_at xs i d is)

  -- none passes
  pub AllFail : List X → Type 0
  AllFail xs = (k : ℕ) (d : X) → k < length xs → p (get_or xs k d) ≡ false

  pub tail_fails : (x : X) (xs : List X) → AllFail (x ∷ xs) → AllFail xs
  unfolding AllFail
  tail_fails x xs all k d h = all (suc k) d (omega (arith, h))

  pub find_fails : (xs : List X) → AllFail xs → find p xs ≡ None
  unfolding AllFail
  find_fails [] all = refl
  find_fails (x ∷ xs) all = ap (λ (b : Bool). cond b (Some x) (find p xs)) (all 0 x (omega arith)) ∙ find_fails xs (tail_fails x xs all)

  pub none_at : (xs : List X) → position p xs ≡ None → AllFail xs
  unfolding AllFail
  none_at xs none k d within =
      let n : ℕ = position_or_len p xs in
      ⊎_elim
      (λ (lt : n < length xs). absurd (none-some n (sym none ∙ cond-true (ltb n (length xs)) (Some n) None (lt-ltb n (length xs) lt))))
      (λ (le : length xs ≤ n). fails_before_first p xs k d (omega (arith, within, le)))
      (cases_lt n (length xs))

  pub find-none_at : (xs : List X) → position p xs ≡ None → find p xs ≡ None
  find-none_at xs none = find_fails xs (none_at xs none)

module _ (key : Pool → List ℕ) (bytes : List ℕ) where
  changed_by : (change : Pool → Pool) (ns : Pools) (i : ℕ) (d : Pool) → IsAt (has key bytes) ns i d → with_changed key bytes change ns ≡ set ns i (change (get_or ns i d))
  unfolding with_changed
  changed_by change [] i d at = absurd (omega (arith, at.within))
  changed_by change (n ∷ ns) zero d at = ap (λ (b : Bool). cond b (change n ∷ ns) (n ∷ with_changed key bytes change ns)) at.here
  changed_by change (n ∷ ns) (suc i) d at = ap (λ (b : Bool). cond b (change n ∷ ns) (n ∷ with_changed key bytes change ns)) (at.before 0 (omega arith)) ∙ ap (λ (rest : Pools). n ∷ rest) (changed_by change ns i d (tail_at (has key bytes) n ns i d at))

  -- the entry in that place is changed
  pub changed-at : (change : Pool → Pool) (ns : Pools) (i : ℕ) (d : Pool) → position (has key bytes) ns ≡ Some i → with_changed key bytes change ns ≡ set ns i (change (get_or ns i d))
  changed-at change ns i d is = changed_by change ns i d (is_at (has key bytes) ns i d is)

  changed_fails : (change : Pool → Pool) (ns : Pools) → AllFail (has key bytes) ns → with_changed key bytes change ns ≡ ns
  unfolding with_changed AllFail
  changed_fails change [] all = refl
  changed_fails change (n ∷ ns) all = ap (λ (b : Bool). cond b (change n ∷ ns) (n ∷ with_changed key bytes change ns)) (all 0 n (omega arith)) ∙ ap (λ (rest : Pools). n ∷ rest) (changed_fails change ns (tail_fails (has key bytes) n ns all))

  -- where there is none nothing changes
  pub changed-none : (change : Pool → Pool) (ns : Pools) → position (has key bytes) ns ≡ None → with_changed key bytes change ns ≡ ns
  changed-none change ns none = changed_fails change ns (none_at (has key bytes) ns none)

  pub pool-at : (ns : Pools) (i : ℕ) (d : Pool) → position (has key bytes) ns ≡ Some i → pool_of key bytes ns ≡ Some (get_or ns i d)
  unfolding pool_of
  pool-at ns i d is = find-at (has key bytes) ns i d is

  pub pool-none : (ns : Pools) → position (has key bytes) ns ≡ None → pool_of key bytes ns ≡ None
  unfolding pool_of
  pool-none ns none = find-none_at (has key bytes) ns none

module _ (uuid : List ℕ) where
  without_by : (ns : Pools) (i : ℕ) (d : Pool) → IsAt (has uuid_of uuid) ns i d → without uuid ns ≡ remove ns i
  unfolding without
  without_by [] i d at = absurd (omega (arith, at.within))
  without_by (n ∷ ns) zero d at = ap (λ (b : Bool). cond b ns (n ∷ without uuid ns)) at.here
  without_by (n ∷ ns) (suc i) d at = ap (λ (b : Bool). cond b ns (n ∷ without uuid ns)) (at.before 0 (omega arith)) ∙ ap (λ (rest : Pools). n ∷ rest) (without_by ns i d (tail_at (has uuid_of uuid) n ns i d at))

  pub without-at : (ns : Pools) (i : ℕ) (d : Pool) → position (has uuid_of uuid) ns ≡ Some i → without uuid ns ≡ remove ns i
  without-at ns i d is = without_by ns i d (is_at (has uuid_of uuid) ns i d is)

  without_fails : (ns : Pools) → AllFail (has uuid_of uuid) ns → without uuid ns ≡ ns
  unfolding without AllFail
  without_fails [] all = refl
  without_fails (n ∷ ns) all = ap (λ (b : Bool). cond b ns (n ∷ without uuid ns)) (all 0 n (omega arith)) ∙ ap (λ (rest : Pools). n ∷ rest) (without_fails ns (tail_fails (has uuid_of uuid) n ns all))

  pub without-none : (ns : Pools) → position (has uuid_of uuid) ns ≡ None → without uuid ns ≡ ns
  without-none ns none = without_fails ns (none_at (has uuid_of uuid) ns none)

-- the same, as the table's calls see it: a slice of the entries, and the place that was found there
module _ (key : Pool → List ℕ) (bytes : List ℕ) (ns view slice : Pools) (o : Option ℕ) (sliced : slice ≡ ns) (viewed : ns ≡ view) (found : o ≡ position (has key bytes) slice) where
  abbrev place : (r : Option ℕ) → o ≡ r → position (has key bytes) ns ≡ r
  place r is = ap (position (has key bytes)) (sym sliced) ∙ (sym found ∙ is)

  pub change_seen : (change : Pool → Pool) (i : ℕ) (now new : Pool) → o ≡ Some i → now ≡ get_or ns i now → new ≡ change now → set ns i new ≡ with_changed key bytes change view
  change_seen change i now new is there changed = ap (set ns i) (changed ∙ ap change there) ∙ (sym (changed-at key bytes change ns i now (place (Some i) is)) ∙ ap (with_changed key bytes change) viewed)

  pub none_seen : (change : Pool → Pool) → o ≡ None → view ≡ with_changed key bytes change view
  none_seen change is = subst (λ (x : Pools). x ≡ with_changed key bytes change x) viewed (sym (changed-none key bytes change ns (place None is)))

  pub pool_seen : (i : ℕ) (now : Pool) → o ≡ Some i → now ≡ get_or ns i now → pool_of key bytes view ≡ Some now
  pool_seen i now is there = ap (pool_of key bytes) (sym viewed) ∙ (pool-at key bytes ns i now (place (Some i) is) ∙ ap Some (sym there))

  pub no_pool_seen : o ≡ None → pool_of key bytes view ≡ None
  no_pool_seen is = ap (pool_of key bytes) (sym viewed) ∙ pool-none key bytes ns (place None is)

  pub done_seen : (change : Pool → Pool) (i : ℕ) (now new : Pool) (t : Result Unit (OrNoMemory Refusal)) → o ≡ Some i → now ≡ get_or ns i now → OnDone change t now new → OnDone (with_changed key bytes change) t view (set ns i new)
  done_seen change i now new (Ok done) is there changed = change_seen change i now new is there changed
  done_seen change i now new (Err e) is there same = ap (set ns i) (same ∙ there) ∙ (set-get_or ns i now ∙ viewed)

module _ (uuid : List ℕ) (ns view slice : Pools) (o : Option ℕ) (sliced : slice ≡ ns) (viewed : ns ≡ view) (found : o ≡ position (has uuid_of uuid) slice) where
  pub removed_seen : (i : ℕ) (d : Pool) (left : Pools) → o ≡ Some i → left ≡ remove ns i → left ≡ without uuid view
  removed_seen i d left is was = was ∙ (sym (without-at uuid ns i d (place uuid_of uuid ns view slice o sliced viewed found (Some i) is)) ∙ ap (without uuid) viewed)

  pub none_removed : o ≡ None → view ≡ without uuid view
  none_removed is = subst (λ (x : Pools). x ≡ without uuid x) viewed (sym (without-none uuid ns (place uuid_of uuid ns view slice o sliced viewed found None is)))

-- what defining a pool makes of the book
pub with_pool-some : (def : PoolDef) (ns : Pools) (uuid : List ℕ) (n : Pool) → uuid ≡ identifier def → pool_of uuid_of uuid ns ≡ Some n → with_changed uuid_of uuid (with_def def) ns ≡ with_pool def ns
with_pool-some def ns uuid n is = subst (λ (u : List ℕ). pool_of uuid_of u ns ≡ Some n → with_changed uuid_of u (with_def def) ns ≡ with_pool def ns) (sym is)
    (λ at. sym (ap (λ (o : Option Pool). cond (is_some o) (with_changed uuid_of (identifier def) (with_def def) ns) (ns ++ new_pool def ∷ [])) at))

pub with_pool-none : (def : PoolDef) (ns : Pools) (uuid : List ℕ) → uuid ≡ identifier def → pool_of uuid_of uuid ns ≡ None → ns ++ new_pool def ∷ [] ≡ with_pool def ns
with_pool-none def ns uuid is = subst (λ (u : List ℕ). pool_of uuid_of u ns ≡ None → ns ++ new_pool def ∷ [] ≡ with_pool def ns) (sym is)
    (λ at. sym (ap (λ (o : Option Pool). cond (is_some o) (with_changed uuid_of (identifier def) (with_def def) ns) (ns ++ new_pool def ∷ [])) at))

-- what one test finds, another that finds nothing does not pass
fails_at : {X : Type 0} → (X → Bool) → Option X → Type 0
fails_at q None = Unit {0}
fails_at q (Some z) = q z ≡ false

passes_not : {X : Type 0} (p q : X → Bool) (xs : List X) (x : X) → find p xs ≡ Some x → find q xs ≡ None → q x ≡ false
unfolding fails_at
passes_not p q [] x is none = absurd (none-some x is)
passes_not p q (y ∷ ys) x is none = ⊎_elim
    (λ (is_so : q y ≡ true). absurd (none-some y (sym none ∙ ap (λ (b : Bool). cond b (Some y) (find q ys)) is_so)))
    (λ (not_so : q y ≡ false). ⊎_elim
    (λ (here : p y ≡ true). subst (fails_at q) (sym (ap (λ (b : Bool). cond b (Some y) (find p ys)) here) ∙ is) not_so)
    (λ (after : p y ≡ false). passes_not p q ys x (sym (ap (λ (b : Bool). cond b (Some y) (find p ys)) after) ∙ is) (sym (ap (λ (b : Bool). cond b (Some y) (find q ys)) not_so) ∙ none))
    (cases_Bool (p y)))
    (cases_Bool (q y))

is_done : PoolAnswer → Bool
is_done Done = true
is_done (Refused r) = false

pub not_done : {P : Type 0} (r : Refusal) → Refused r ≡ Done → P
unfolding is_done
not_done r is = absurd (false≢true (ap is_done is))

-- a pool that is new and may be defined has room
room_by : (def : PoolDef) (ns : Pools) (o : Option Pool) → pool_of name_of def.name ns ≡ o → pool_of uuid_of (identifier def) ns ≡ None → defined (identifier def) ns o None ≡ Done → length ns < 64
unfolding pool_of
room_by def ns (Some n) found none done =
    let apart : bytes_eq (uuid_of n) (identifier def) ≡ false = passes_not (has name_of def.name) (has uuid_of (identifier def)) ns n found none in
    let other : Refusal = pool_exists (hyphenated_text lower (uuid_of n)) in
    not_done other (sym (ap (λ (b : Bool). cond b (if_inactive (identifier def) (Some n)) (Refused other)) apart) ∙ done)
room_by def ns None found none done = ⊎_elim
    (λ (room : ltb (length ns) 64 ≡ true). ltb-true (length ns) 64 room)
    (λ (full : ltb (length ns) 64 ≡ false). not_done (list_full 64) (sym (ap (λ (b : Bool). cond b Done (Refused (list_full 64))) full) ∙ done))
    (cases_Bool (ltb (length ns) 64))

pub has-room : (def : PoolDef) (ns : Pools) (uuid : List ℕ) → uuid ≡ identifier def → pool_of uuid_of uuid ns ≡ None → answer (call.Define def) ns ≡ Done → length ns < 64
unfolding answer
has-room def ns uuid is none done =
    let gone : pool_of uuid_of (identifier def) ns ≡ None = ap (λ (u : List ℕ). pool_of uuid_of u ns) (sym is) ∙ none in
    room_by def ns (pool_of name_of def.name ns) refl gone (ap (defined (identifier def) ns (pool_of name_of def.name ns)) (sym gone) ∙ done)

-- what a call on the volumes of a pool answers, by what is there
module _ (uuid : List ℕ) (given : Pool → PoolAnswer) (ps : Pools) where
  pub in_absent : pool_of uuid_of uuid ps ≡ None → in_active uuid given (pool_of uuid_of uuid ps) ≡ Refused (no_pool uuid)
  in_absent none = ap (in_active uuid given) none

  pub in_inactive : (p : Pool) → pool_of uuid_of uuid ps ≡ Some p → p.active ≡ false → in_active uuid given (pool_of uuid_of uuid ps) ≡ Refused is_inactive
  in_inactive p there not_so = ap (in_active uuid given) there ∙ ap (λ (b : Bool). cond b (given p) (Refused is_inactive)) not_so

  pub in_given : (p : Pool) → pool_of uuid_of uuid ps ≡ Some p → p.active ≡ true → in_active uuid given (pool_of uuid_of uuid ps) ≡ given p
  in_given p there is_so = ap (in_active uuid given) there ∙ ap (λ (b : Bool). cond b (given p) (Refused is_inactive)) is_so

-- what is found twice is the same
pub same_one : (x y : Pool) (o : Option Pool) → o ≡ Some x → o ≡ Some y → x ≡ y
same_one x y o is also = ap (λ (p : Option Pool). unwrap_or p x) (sym is ∙ also)

-- what defining a pool answers, by what is there
module _ (def : PoolDef) (ns : Pools) where
  pub define-named : (n : Pool) → pool_of name_of def.name ns ≡ Some n → answer (call.Define def) ns ≡ redefined (identifier def) n
  unfolding answer
  define-named n is = ap (λ (o : Option Pool). defined (identifier def) ns o (pool_of uuid_of (identifier def) ns)) is

  pub define-other : (n : Pool) → pool_of name_of def.name ns ≡ None → pool_of uuid_of (identifier def) ns ≡ Some n → answer (call.Define def) ns ≡ Refused (pool_exists (name_of n))
  unfolding answer
  define-other n none is = λ i. defined (identifier def) ns (none i) (is i)

  define-new : pool_of name_of def.name ns ≡ None → pool_of uuid_of (identifier def) ns ≡ None → answer (call.Define def) ns ≡ newly_defined ns
  unfolding answer
  define-new none neither = λ i. defined (identifier def) ns (none i) (neither i)

  pub define-room : pool_of name_of def.name ns ≡ None → pool_of uuid_of (identifier def) ns ≡ None → length ns < 64 → answer (call.Define def) ns ≡ Done
  define-room none neither room = define-new none neither ∙ ap (λ (b : Bool). cond b Done (Refused (list_full 64))) (lt-ltb (length ns) 64 room)

  pub define-full : pool_of name_of def.name ns ≡ None → pool_of uuid_of (identifier def) ns ≡ None → 64 ≤ length ns → answer (call.Define def) ns ≡ Refused (list_full 64)
  define-full none neither full = define-new none neither ∙ ap (λ (b : Bool). cond b Done (Refused (list_full 64))) (le-ltb (length ns) 64 full)

-- what a call on volumes answers and changes
pub answer-make : (uuid : List ℕ) (def : VolDef) (ps : Pools) → answer (call.MakeVolume uuid def) ps ≡ in_active uuid (made def) (pool_of uuid_of uuid ps)
unfolding answer
answer-make uuid def ps = refl

pub answer-drop : (uuid name : List ℕ) (ps : Pools) → answer (call.DropVolume uuid name) ps ≡ in_active uuid (dropped name) (pool_of uuid_of uuid ps)
unfolding answer
answer-drop uuid name ps = refl

pub effect-make : (uuid : List ℕ) (def : VolDef) (t : Result Unit (OrNoMemory Refusal)) (old new : Pools) → OnDone (with_changed uuid_of uuid (with_volume def)) t old new → TakesEffect (call.MakeVolume uuid def) t old new
unfolding pools_after
effect-make uuid def (Ok done) old new is = is
effect-make uuid def (Err e) old new is = is

pub effect-drop : (uuid name : List ℕ) (t : Result Unit (OrNoMemory Refusal)) (old new : Pools) → OnDone (with_changed uuid_of uuid (with_dropped name)) t old new → TakesEffect (call.DropVolume uuid name) t old new
unfolding pools_after
effect-drop uuid name (Ok done) old new is = is
effect-drop uuid name (Err e) old new is = is

pub effect-none : (c : PoolCall) (e : OrNoMemory Refusal) (old : Pools) → TakesEffect c (Err e) old old
effect-none c e old = refl
