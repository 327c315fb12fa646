-- The volumes of a pool, and the bytes that they take together.
use Rattle.std.proofs.Common.{◌≡◌, ℕ, ◌+◌, ◌<◌, ◌≤◌, Bool, cond, ltb, List, [], ◌∷◌, ◌++◌, length, get_or, position, is_some, Option, None, Some, zero, suc, refl, sym, ap, ◌∙◌, arith}
use Rattle.std.specs.List.{remove}
use Rattle.std.proofs.lemmas.Bool.{cond-true, cond-false, lt-ltb, le-ltb}
use Rattle.std.proofs.lemmas.List.Sums.{sum_by-remove, sum_by_push}
use Rattle.virt_types.specs.Below.types_base.declared.storage_def.VolDef.{VolDef}
use Rattle.book_spec.specs.declared.pool_book.Pool.{Pool}
use Rattle.book_spec.specs.declared.pool_book.PoolAnswer.{PoolAnswer}
use Rattle.book_spec.specs.declared.pool_book.PoolAnswer.TheVariants.{Done, Refused}
use Rattle.book_spec.specs.PoolCalls.{made, fits, dropped, no_volume, volume_exists, too_large, list_full}
use Rattle.book_spec.specs.Volumes.{is_named, volume_of, allocated, allocated_with, without_volume}
use Rattle.pool_core.proofs.Tabling.{IsAt, is_at, tail_at, find-at, find-none_at}

-- a volume more
pub allocated-more : (vs : List VolDef) (v : VolDef) → allocated (vs ++ v ∷ []) ≡ allocated vs + v.allocation
unfolding allocated
allocated-more vs v = sum_by_push (λ (w : VolDef). w.allocation) vs v

pub allocated-none : allocated [] ≡ 0
unfolding allocated
allocated-none = refl

module _ (name : List ℕ) where
  -- the volume in that place is taken out
  without_by : (vs : List VolDef) (i : ℕ) (d : VolDef) → IsAt (is_named name) vs i d → without_volume name vs ≡ remove vs i
  unfolding without_volume
  without_by [] i d at = absurd (omega (arith, at.within))
  without_by (v ∷ vs) zero d at = ap (λ (b : Bool). cond b vs (v ∷ without_volume name vs)) at.here
  without_by (v ∷ vs) (suc i) d at = ap (λ (b : Bool). cond b vs (v ∷ without_volume name vs)) (at.before 0 (omega arith)) ∙ ap (λ (rest : List VolDef). v ∷ rest) (without_by vs i d (tail_at (is_named name) v vs i d at))

  pub without-at : (vs : List VolDef) (i : ℕ) (d : VolDef) → position (is_named name) vs ≡ Some i → without_volume name vs ≡ remove vs i
  without-at vs i d is = without_by vs i d (is_at (is_named name) vs i d is)

  -- and so are its bytes
  pub allocated-fewer : (vs : List VolDef) (i : ℕ) (d : VolDef) → i < length vs → allocated vs ≡ allocated (remove vs i) + (get_or vs i d).allocation
  unfolding allocated
  allocated-fewer vs i d within = sym (sum_by-remove (λ (w : VolDef). w.allocation) vs i d within)

  pub volume-at : (vs : List VolDef) (i : ℕ) (d : VolDef) → position (is_named name) vs ≡ Some i → volume_of name vs ≡ Some (get_or vs i d)
  unfolding volume_of
  volume-at vs i d is = find-at (is_named name) vs i d is

  pub volume-none : (vs : List VolDef) → position (is_named name) vs ≡ None → volume_of name vs ≡ None
  unfolding volume_of
  volume-none vs none = find-none_at (is_named name) vs none

-- what making a volume answers
module _ (def : VolDef) (p : Pool) where
  pub made-exists : (v : VolDef) → volume_of def.name p.volumes ≡ Some v → made def p ≡ Refused (volume_exists def.name)
  made-exists v is = ap (λ (o : Option VolDef). cond (is_some o) (Refused (volume_exists def.name)) (fits def p)) is

  pub made-new : volume_of def.name p.volumes ≡ None → made def p ≡ fits def p
  made-new none = ap (λ (o : Option VolDef). cond (is_some o) (Refused (volume_exists def.name)) (fits def p)) none

  by_bytes : PoolAnswer
  by_bytes = cond (ltb p.def.capacity (allocated_with def p)) (Refused (too_large (allocated_with def p) p.def.capacity)) Done

  pub fits-full : 256 ≤ length p.volumes → fits def p ≡ Refused (list_full 256)
  unfolding by_bytes
  fits-full full = cond-false (ltb (length p.volumes) 256) by_bytes (Refused (list_full 256)) (le-ltb (length p.volumes) 256 full)

  fits-room : length p.volumes < 256 → fits def p ≡ by_bytes
  unfolding by_bytes
  fits-room room = cond-true (ltb (length p.volumes) 256) by_bytes (Refused (list_full 256)) (lt-ltb (length p.volumes) 256 room)

  pub fits-large : length p.volumes < 256 → p.def.capacity < allocated_with def p → fits def p ≡ Refused (too_large (allocated_with def p) p.def.capacity)
  unfolding by_bytes
  fits-large room large = fits-room room ∙ cond-true (ltb p.def.capacity (allocated_with def p)) (Refused (too_large (allocated_with def p) p.def.capacity)) Done (lt-ltb p.def.capacity (allocated_with def p) large)

  pub fits-done : length p.volumes < 256 → allocated_with def p ≤ p.def.capacity → fits def p ≡ Done
  unfolding by_bytes
  fits-done room fit = fits-room room ∙ cond-false (ltb p.def.capacity (allocated_with def p)) (Refused (too_large (allocated_with def p) p.def.capacity)) Done (le-ltb p.def.capacity (allocated_with def p) fit)

-- what deleting a volume answers
pub dropped-there : (name : List ℕ) (p : Pool) (v : VolDef) → volume_of name p.volumes ≡ Some v → dropped name p ≡ Done
dropped-there name p v is = ap (λ (o : Option VolDef). cond (is_some o) Done (Refused (no_volume name))) is

pub dropped-none : (name : List ℕ) (p : Pool) → volume_of name p.volumes ≡ None → dropped name p ≡ Refused (no_volume name)
dropped-none name p none = ap (λ (o : Option VolDef). cond (is_some o) Done (Refused (no_volume name))) none

-- as an entry sees it: a slice of its volumes, and the place that was found there
module _ (name asked : List ℕ) (vs slice : List VolDef) (o : Option ℕ) (named : asked ≡ name) (sliced : slice ≡ vs) (found : o ≡ position (is_named asked) slice) where
  at_place : (r : Option ℕ) → o ≡ r → position (is_named name) vs ≡ r
  at_place r is = (λ i. position (is_named (sym named i)) (sym sliced i)) ∙ (sym found ∙ is)

  pub volume_seen : (i : ℕ) (now : VolDef) → o ≡ Some i → now ≡ get_or vs i now → volume_of name vs ≡ Some now
  volume_seen i now is there = volume-at name vs i now (at_place (Some i) is) ∙ ap Some (sym there)

  pub one_seen : (i : ℕ) (d : VolDef) → o ≡ Some i → volume_of name vs ≡ Some (get_or vs i d)
  one_seen i d is = volume-at name vs i d (at_place (Some i) is)

  pub no_volume_seen : o ≡ None → volume_of name vs ≡ None
  no_volume_seen is = volume-none name vs (at_place None is)

  pub within_seen : (i : ℕ) (d : VolDef) → o ≡ Some i → i < length vs
  within_seen i d is = (is_at (is_named name) vs i d (at_place (Some i) is)).within

  pub left_seen : (i : ℕ) (d : VolDef) (left : List VolDef) → o ≡ Some i → left ≡ remove vs i → left ≡ without_volume name vs
  left_seen i d left is was = was ∙ sym (without-at name vs i d (at_place (Some i) is))

  pub sum_seen : (i : ℕ) (taken : VolDef) (left : List VolDef) → o ≡ Some i → taken ≡ get_or vs i taken → left ≡ remove vs i → allocated vs ≡ allocated left + taken.allocation
  sum_seen i taken left is there was = allocated-fewer name vs i taken (within_seen i taken is) ∙ (λ j. allocated (sym was j) + (sym there j).allocation)
