-- What the one pass knows that all passes of a cell became.
use Rattle.std.proofs.Common.{◌≡◌, ◌⊎◌, ℕ, suc, zero, ◌+◌, ◌<◌, List, [], ◌∷◌, ◌++◌, Option, None, Some, length, map, take, drop, get_or, refl, sym, ap, ◌∙◌, subst, ⊎_elim, inl, inr, arith}
use Rattle.std.specs.Prelude.{sum_by}
use Rattle.std.specs.List.{All, AllByRecursion as AllOf, flat_map}
use Rattle.std.proofs.lemmas.List.{map-append}
use Rattle.std.proofs.lemmas.List.Elements.{All-from_recursion}
use Rattle.std.proofs.lemmas.List.Sums.{sum_by-append, sum_by-cons}
use Rattle.history_spec.specs.declared.history.Ended.{Ended}
use Rattle.history_spec.proofs.Beginnings.{begins_itself, begins_through}
use Rattle.turn_cell.specs.Meaning.{Meaning, NoMarkLowers}
use Rattle.turn_cell.specs.Known.{IsBegun, HasMarks, IsAmong}
use Rattle.turn_cell.specs.Steps.{HasEnded}
use Rattle.turn_cell.specs.Passes.{Passed, AreAmong, BelongsTo, Closes, joined}
use Rattle.pass_rows.specs.Joining.{IsJoined}
use Rattle.pass_rows.specs.Closing.{AllClose, ArePut, BelongsToOne, HasClosed, HasGathered, KnowsEnd, PartsAddUp}

module _ {A : Type 0} where
  abbrev pub IsIn : A → List A → Type 0
  IsIn x [] = ⊥
  IsIn x (y ∷ ys) = (x ≡ y) ⊎ IsIn x ys

  all_append : (P : A → Type 0) (xs ys : List A) → AllOf P xs → AllOf P ys → AllOf P (xs ++ ys)
  all_append P [] ys p q = q
  all_append P (x ∷ xs) ys p q = (p.0, all_append P xs ys p.1 q)

  all_map : (P Q : A → Type 0) → ((x : A) → P x → Q x) → (xs : List A) → AllOf P xs → AllOf Q xs
  all_map P Q f [] p = tt
  all_map P Q f (x ∷ xs) p = (f x p.0, all_map P Q f xs p.1)

  in_left : (x : A) (xs ys : List A) → IsIn x xs → IsIn x (xs ++ ys)
  in_left x [] ys m = absurd m
  in_left x (y ∷ xs) ys m = ⊎_elim (λ (e : x ≡ y). inl e) (λ (o : IsIn x xs). inr (in_left x xs ys o)) m

  in_right : (x : A) (xs ys : List A) → IsIn x ys → IsIn x (xs ++ ys)
  in_right x [] ys m = m
  in_right x (y ∷ xs) ys m = inr (in_right x xs ys m)

  all_at : (P : A → Type 0) (xs : List A) (x : A) → AllOf P xs → IsIn x xs → P x
  all_at P [] x p m = absurd m
  all_at P (y ∷ xs) x p m = ⊎_elim (λ (e : x ≡ y). subst P (sym e) p.0) (λ (o : IsIn x xs). all_at P xs x p.1 o) m

module _ {M : Type 0} where
  among_itself : (es : List (Ended M)) → AllOf (λ (e : Ended M). IsAmong e.number es) es
  among_itself [] = tt
  among_itself (e ∷ es) = (inl refl, all_map (λ (x : Ended M). IsAmong x.number es) (λ (x : Ended M). IsAmong x.number (e ∷ es)) (λ x m. inr m) es (among_itself es))

module _ {B M S : Type 0} where
  -- a pass's own number, turns and marks, and those that were put into it
  abbrev pub ended_of : Passed B M S → Ended M
  ended_of p = record { number = p.number; turns = p.turns; mine = p.mine }

  abbrev pub kept : Passed B M S → List (Ended M)
  kept p = ended_of p ∷ p.ended

  kept_joined : (one other : Passed B M S) → kept (joined one other) ≡ kept one ++ kept other
  kept_joined one other = refl

  -- some number is that of one of the passes
  abbrev pub IsOf : List (Passed B M S) → Ended M → Type 0
  IsOf ps e = BelongsToOne ps (Some e.number)

  -- those kept by a pass are its own
  own_kept : (p : Passed B M S) (ps : List (Passed B M S)) → AllOf (IsOf (p ∷ ps)) (kept p)
  own_kept p ps = (inl (inl refl), all_map (λ (e : Ended M). IsAmong e.number p.ended) (IsOf (p ∷ ps)) (λ e m. inl (inr m)) p.ended (among_itself p.ended))

  none_of : (ps : List (Passed B M S)) → BelongsToOne ps None
  none_of [] = tt
  none_of (p ∷ ps) = tt

  -- one pass more after the first
  put_between : (own p : Passed B M S) (ps : List (Passed B M S)) (e : Ended M) → IsOf (own ∷ ps) e → IsOf (own ∷ p ∷ ps) e
  put_between own p ps e m = ⊎_elim (λ (o : BelongsTo own.number own.ended (Some e.number)). inl o) (λ (o : IsOf ps e). inr (inr o)) m

  one_more_of : (p : Passed B M S) (ps : List (Passed B M S)) (es : List (Ended M)) → AllOf (IsOf ps) es → AllOf (IsOf (p ∷ ps)) es
  one_more_of p ps es all = all_map (IsOf ps) (IsOf (p ∷ ps)) (λ e m. inr m) es all

module _ {T B M S : Type 0} (K : Meaning T B M S) where
  abbrev pub P : Type 0
  P = Passed B M S

  -- what one pass had is known of the one that they became
  record IsCovered (all p : P) : Type 0 where
    seen : IsBegun K p.seen all.seen
    own : IsIn (ended_of p) (kept all)

  record HasAll (own : P) (others : List P) (all : P) : Type 0 where
    each : AllOf (IsCovered all) (own ∷ others)
    only : AllOf (IsOf (own ∷ others)) (kept all)

  none_put : (own all : P) → all ≡ own → HasAll own [] all
  none_put own all is = subst (HasAll own []) (sym is) (record {
    each = (record { seen = begins_itself K.rising own.seen; own = inl refl }, tt);
    only = own_kept own [];
  })

  one_put : NoMarkLowers K → (own mid p all : P) (others : List P) → HasAll own others mid → IsJoined K mid p all → HasAll own (p ∷ others) all
  one_put lowers own mid p all others h put =
      let whole : kept all ≡ kept mid ++ kept p = ap kept put.is in
      let covered : (q : P) → IsCovered mid q → IsCovered all q = λ q c. record {
        seen = begins_through K.rising lowers q.seen mid.seen all.seen c.seen put.one_seen;
        own = subst (IsIn (ended_of q)) (sym whole) (in_left (ended_of q) (kept mid) (kept p) c.own);
      } in
      let new : IsCovered all p = record { seen = put.other_seen; own = subst (IsIn (ended_of p)) (sym whole) (in_right (ended_of p) (kept mid) (kept p) (inl refl)) } in
      let old : AllOf (IsOf (own ∷ p ∷ others)) (kept mid) = all_map (IsOf (own ∷ others)) (IsOf (own ∷ p ∷ others)) (λ e m. put_between own p others e m) (kept mid) h.only in
      let more : AllOf (IsOf (own ∷ p ∷ others)) (kept p) = one_more_of own (p ∷ others) (kept p) (own_kept p others) in
      record {
        each = (covered own h.each.0, (new, all_map (IsCovered mid) (IsCovered all) covered others h.each.1));
        only = subst (AllOf (IsOf (own ∷ p ∷ others))) (sym whole) (all_append (IsOf (own ∷ p ∷ others)) (kept mid) (kept p) old more);
      }

  all_put : NoMarkLowers K → (own : P) (others : List P) (all : P) → ArePut K own others all → HasAll own others all
  all_put lowers own [] all is = none_put own all is
  all_put lowers own (p ∷ others) all put = one_put lowers own put.0 p all others (all_put lowers own others put.0 put.1) put.2

  -- the marks that are kept are those of the value
  ended_all : (value : T) (es : List (Ended M)) → HasEnded K value es → AllOf (λ (e : Ended M). HasMarks K e.number e.mine (K.history value)) es
  ended_all value [] h = tt
  ended_all value (e ∷ es) h = (h.0, ended_all value es h.2)

  among_of : (ps : List P) (n : ℕ) (es : List (Ended M)) → AllOf (IsOf ps) es → IsAmong n es → BelongsToOne ps (Some n)
  among_of ps n [] a m = absurd m
  among_of ps n (e ∷ es) a m = ⊎_elim (λ (x : e.number ≡ n). subst (λ (k : ℕ). BelongsToOne ps (Some k)) x a.0) (λ (o : IsAmong n es). among_of ps n es a.1 o) m

  belongs_of : (ps : List P) (all : P) (o : Option ℕ) → AllOf (IsOf ps) (kept all) → BelongsTo all.number all.ended o → BelongsToOne ps o
  belongs_of ps all None a b = none_of ps
  belongs_of ps all (Some n) a b = ⊎_elim (λ (e : n ≡ all.number). subst (λ (k : ℕ). BelongsToOne ps (Some k)) (sym e) a.0) (λ (m : IsAmong n all.ended). among_of ps n all.ended a.1 m) b

  marks_of : (ps : List P) (all : P) (ms : List M) → AllOf (IsOf ps) (kept all) → AreAmong K all.number all.ended ms → AllOf (λ (m : M). BelongsToOne ps (K.whose m)) ms
  marks_of ps all [] a b = tt
  marks_of ps all (m ∷ ms) a b = (belongs_of ps all (K.whose m) a b.0, marks_of ps all ms a b.1)

  -- the first is last in the list of passes
  moved : (own : P) (others : List P) (o : Option ℕ) → BelongsToOne (own ∷ others) o → BelongsToOne (others ++ own ∷ []) o
  moved own others None b = none_of (others ++ own ∷ [])
  moved own [] (Some n) b = b
  moved own (p ∷ others) (Some n) b =
      ⊎_elim (λ (o : BelongsTo own.number own.ended (Some n)). inr (moved own others (Some n) (inl o)))
      (λ (rest : BelongsToOne (p ∷ others) (Some n)). ⊎_elim (λ (o : BelongsTo p.number p.ended (Some n)). inl o) (λ (o : BelongsToOne others (Some n)). inr (moved own others (Some n) (inr o))) rest) b

  pub all_close : NoMarkLowers K → AllClose K
  all_close lowers passes all value h end =
      let has : HasAll h.own h.others all = all_put lowers h.own h.others all h.put_are in
      let marks : AllOf (λ (e : Ended M). HasMarks K e.number e.mine (K.history value)) (kept all) = (end.mine, ended_all value all.ended end.ended) in
      let knows : (p : P) → IsCovered all p → KnowsEnd K value p = λ p c. record {
        seen = begins_through K.rising lowers p.seen all.seen (K.history value) c.seen end.seen;
        mine = all_at (λ (e : Ended M). HasMarks K e.number e.mine (K.history value)) (kept all) (ended_of p) marks c.own;
      } in
      let each : AllOf (KnowsEnd K value) (h.others ++ h.own ∷ []) = all_append (KnowsEnd K value) h.others (h.own ∷ []) (all_map (IsCovered all) (KnowsEnd K value) knows h.others has.each.1) (knows h.own has.each.0, tt) in
      let whose : AllOf (λ (m : M). BelongsToOne (h.others ++ h.own ∷ []) (K.whose m)) (K.history value).marks =
      all_map (λ (m : M). BelongsToOne (h.own ∷ h.others) (K.whose m)) (λ (m : M). BelongsToOne (h.others ++ h.own ∷ []) (K.whose m)) (λ m b. moved h.own h.others (K.whose m) b) (K.history value).marks
      (marks_of (h.own ∷ h.others) all (K.history value).marks has.only end.all) in
      subst (λ (l : List P). HasClosed K l value) (sym h.passes_are) (record {
        each = All-from_recursion (KnowsEnd K value) (h.others ++ h.own ∷ []) each;
        whose_marks = All-from_recursion (λ (m : M). BelongsToOne (h.others ++ h.own ∷ []) (K.whose m)) (K.history value).marks whose;
      })

  -- the parts of those that were put together
  parts_of_put : (own : P) (others : List P) (all : P) → ArePut K own others all → all.parts ≡ own.parts + sum_by (λ (p : P). p.parts) others
  parts_of_put own [] all is = let e : all.parts ≡ own.parts = ap (λ (p : P). p.parts) is in omega (arith, e)
  parts_of_put own (p ∷ others) all put =
      let mid : put.0.parts ≡ own.parts + sum_by (λ (p : P). p.parts) others = parts_of_put own others put.0 put.1 in
      let e : all.parts ≡ put.0.parts + p.parts = ap (λ (p : P). p.parts) put.2.is in
      omega (arith, mid, e, sum_by-cons (λ (p : P). p.parts) p others)

  pub parts_add_up : PartsAddUp K
  parts_add_up passes all h =
      let sum : all.parts ≡ h.own.parts + sum_by (λ (p : P). p.parts) h.others = parts_of_put h.own h.others all h.put_are in
      omega (arith, sum, ap (sum_by (λ (p : P). p.parts)) h.passes_are, sum_by-append (λ (p : P). p.parts) h.others (h.own ∷ []), sum_by-cons (λ (p : P). p.parts) h.own [])
