-- Changes made one after another.
use Rattle.std.proofs.Common.{◌≡◌, ◌⊎◌, inl, inr, ⊎_elim, ◌<◌, ◌≤◌, ◌+◌, ◌-◌, ◌++◌, Bool, true, false, ◌||◌, nat_le, List, [], ◌∷◌, ℕ, suc, Option, None, Some, All, flat_map, length, take, drop, map, refl, sym, ◌∙◌, ap, subst, append_assoc, append-nil, length-append, arith}
use Rattle.std.specs.List.{list_any}
use Rattle.std.proofs.Math.Seq.{take-append-add}
use Rattle.std.proofs.lemmas.Bool.{cases_lt}
use Rattle.std.proofs.lemmas.Bool.Decides.{leb_tells}
use Rattle.std.proofs.lemmas.List.{take_all, take-append-le}
use Rattle.store_spec.specs.declared.change.Change.{Change}
use Rattle.store_spec.specs.declared.change.Change.TheVariants as change
use Rattle.store_spec.specs.declared.operation.Operation.{Operation}
use Rattle.store_spec.specs.Changes.{Definitions, after, changed}
use Rattle.store_spec.specs.Directory.{Directory}
use Rattle.store_spec.specs.Disk.{MayLeave}
use Rattle.store_spec.specs.Laws.{RunsLeavePrefixes}
use Rattle.store_spec.specs.Prefix.{IsPrefixAt, Try, is_acknowledged, is_by}
use Rattle.store_spec.specs.Settled.{IsSettled, tries_of}
use Rattle.store_spec.specs.StandsFor.{StandsFor}
use Rattle.store_spec.specs.Steps.{IsChange, steps_of}
use Rattle.store_spec.proofs.Whole.{GoesThrough, goes_through}

not_le : (a b : ℕ) → b < a → nat_le a b ≡ false
not_le a b lt = ⊎_elim (λ yes. absurd (omega (arith, lt, yes.1))) (λ is. is.0) (leb_tells a b)

some_steps : (c : Change) → 1 ≤ length (steps_of c)
some_steps (change.Put k uuid e) = omega arith
some_steps (change.Drop k uuid) = omega arith

or_false : (a b : Bool) → a ≡ false → b ≡ false → (a || b) ≡ false
or_false true b x y = cc
or_false false b x y = y

left_false : (a b : Bool) → (a || b) ≡ false → (a ≡ false) × (b ≡ false)
left_false true b is = cc
left_false false b is = (refl, is)

-- changes that begin later are not acknowledged yet
none_yet : (at begun : ℕ) (cs : List Change) → at ≤ begun → list_any (is_acknowledged at) (tries_of begun cs) ≡ false
none_yet at begun [] le = refl
none_yet at begun (c ∷ cs) le = or_false (nat_le (begun + length (steps_of c)) at) (list_any (is_acknowledged at) (tries_of (begun + length (steps_of c)) cs))
    (not_le (begun + length (steps_of c)) at (omega (arith, le, some_steps c)))
    (none_yet at (begun + length (steps_of c)) cs (omega (arith, le)))

by_earlier : (t at : ℕ) (o : Option ℕ) → t ≤ at → is_by at o ≡ false → is_by t o ≡ false
by_earlier t at None le not = refl
by_earlier t at (Some n) le not = ⊎_elim (λ yes. absurd (omega (arith, le, yes.1, (over n at not)))) (λ is. is.0) (leb_tells n t)
  where
    over : (n at : ℕ) → nat_le n at ≡ false → at < n
    over n at is = ⊎_elim (λ yes. let e : true ≡ false = sym yes.0 ∙ is in cc) (λ other. omega (arith, other.1)) (leb_tells n at)

any_earlier : (t at : ℕ) (tries : List Try) → t ≤ at → list_any (is_acknowledged at) tries ≡ false → list_any (is_acknowledged t) tries ≡ false
any_earlier t at [] le none = refl
any_earlier t at (x ∷ xs) le none =
    let both = left_false (is_acknowledged at x) (list_any (is_acknowledged at) xs) none in
    or_false (is_acknowledged t x) (list_any (is_acknowledged t) xs) (by_earlier t at x.acknowledged le both.0) (any_earlier t at xs le both.1)

-- the first so many operations, where they end in the middle of a change
in_the_middle : (os steps rest : List Operation) (at : ℕ) → length os ≤ at → at ≤ length os + length steps → take at (os ++ (steps ++ rest)) ≡ os ++ take (at - length os) steps
in_the_middle os steps rest at from to =
    let is : at ≡ length os + (at - length os) = omega (arith, from) in
    ap (λ (n : ℕ). take n (os ++ (steps ++ rest))) is
    ∙ take-append-add os (steps ++ rest) (at - length os)
    ∙ ap (λ (l : List Operation). os ++ l) (take-append-le (at - length os) steps rest (omega (arith, from, to)))

-- a crash in the middle of the first change
first_change : (c : Change) (cs : List Change) (os : List Operation) (m : Definitions) (at : ℕ) (left : Directory) → at < length os + length (steps_of c)
    → StandsFor left m ⊎ StandsFor left (changed c m) → IsPrefixAt at m (tries_of (length os) (c ∷ cs)) left
first_change c cs os m at left lt (inl stands) = record {
  count = 0;
  tried = omega arith;
  stands = stands;
  acknowledged = or_false (nat_le (length os + length (steps_of c)) at) (list_any (is_acknowledged at) (tries_of (length os + length (steps_of c)) cs))
      (not_le (length os + length (steps_of c)) at lt) (none_yet at (length os + length (steps_of c)) cs (omega (arith, lt)));
}
first_change c cs os m at left lt (inr stands) = record {
  count = 1;
  tried = omega arith;
  stands = stands;
  acknowledged = none_yet at (length os + length (steps_of c)) cs (omega (arith, lt));
}

-- a crash after the first change
later_change : (c : Change) (tries : List Try) (x : Try) (m : Definitions) (at : ℕ) (left : Directory) → x.change ≡ c → IsPrefixAt at (changed c m) tries left → IsPrefixAt at m (x ∷ tries) left
later_change c tries x m at left is p = record {
  count = suc p.count;
  tried = omega (arith, p.tried);
  stands = subst (λ (d : Change). StandsFor left (after (changed d m) (map (λ try. try.change) (take p.count tries)))) (sym is) p.stands;
  acknowledged = p.acknowledged;
}

runs : (cs : List Change) (os : List Operation) (m : Definitions) → IsSettled os m → All IsChange cs → (at : ℕ) (left : Directory)
    → length os ≤ at → at ≤ length (os ++ flat_map steps_of cs) → MayLeave (take at (os ++ flat_map steps_of cs)) left → IsPrefixAt at m (tries_of (length os) cs) left
runs [] os m s good at left from to leaves = record {
  count = 0;
  tried = omega arith;
  stands = s.images left (subst (λ (l : List Operation). MayLeave l left) (take_all at (os ++ []) (omega (arith, from, length-append os (flat_map steps_of []))) ∙ append-nil os) leaves);
  acknowledged = refl;
}
runs (c ∷ cs) os m s good at left from to leaves = ⊎_elim
    (λ (before : at < length os + length (steps_of c)). first_change c cs os m at left before
    (g.meanwhile (at - length os) left (subst (λ (l : List Operation). MayLeave l left) (in_the_middle os (steps_of c) rest at from (omega (arith, before))) leaves)))
    (λ (past : length os + length (steps_of c) ≤ at). later_change c (tries_of (length os + length (steps_of c)) cs) (record { change = c; acknowledged = Some (length os + length (steps_of c)) }) m at left refl
    (subst (λ (n : ℕ). IsPrefixAt at (changed c m) (tries_of n cs) left) (length-append os (steps_of c))
    (runs cs (os ++ steps_of c) (changed c m) g.at_last (λ k d lt. good (suc k) d (omega (arith, lt))) at left
    (omega (arith, past, length-append os (steps_of c)))
    (subst (λ (l : List Operation). at ≤ length l) (sym (append_assoc os (steps_of c) rest)) to)
    (subst (λ (l : List Operation). MayLeave (take at l) left) (sym (append_assoc os (steps_of c) rest)) leaves))))
    (cases_lt at (length os + length (steps_of c)))
  where
    rest : List Operation
    rest = flat_map steps_of cs

    g : GoesThrough os (steps_of c) m (changed c m)
    g = goes_through os m c s (good 0 c (omega arith))

pub runs_leave_prefixes : RunsLeavePrefixes
runs_leave_prefixes os m cs s good t left since is =
    let p = runs cs os m s good is.at left (omega (arith, since, is.later)) is.so_far is.leaves in record {
      count = p.count;
      tried = p.tried;
      stands = p.stands;
      acknowledged = any_earlier t is.at (drop p.count (tries_of (length os) cs)) is.later p.acknowledged;
    }
