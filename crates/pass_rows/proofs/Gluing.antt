-- Why passes can be put together one by one, from the last to the first.
use Rattle.std.proofs.Common.{◌≡◌, ℕ, ◌+◌, ◌<◌, ◌≤◌, List, [], ◌∷◌, ◌++◌, length, map, take, drop, get_or, set, min, refl, sym, ap, ◌∙◌, subst, arith}
use Rattle.std.specs.List.{All}
use Rattle.std.proofs.lemmas.List.{length-append, length-take, length-set, length-map, take_at, take-take, take-set, drop-set, drop_more, get_or-map, get_or-take, get_or_push}
use Rattle.atomic_table.specs.Seated.{TableId}
use Rattle.turn_cell.specs.Meaning.{Meaning}
use Rattle.turn_cell.specs.Passes.{Passed}
use Rattle.pass_rows.specs.Cutting.{cell_of}
use Rattle.pass_rows.specs.Joining.{AreJoined, HoldsNothing, IsJoined}

module _ {T B M S : Type 0} (K : Meaning T B M S) where
  abbrev pub Ps : Type 0
  Ps = List (Passed B M S)

  -- what the loop keeps: it has come down to those before this place
  pub record Glued (xs ys ones others : Ps) : Type 0 where
    pub others_are : others ≡ take (length others) ys
    pub ones_are : take (length others) ones ≡ take (length others) xs
    pub wide : length ones ≡ length xs
    pub glued : AreJoined K (drop (length others) xs) (drop (length others) ys) (drop (length others) ones)

  -- what it finds at the next place
  pub record Found (xs ys ones : Ps) (k : ℕ) (x o : Passed B M S) : Type 0 where
    pub in_xs : k < length xs
    pub in_ys : k < length ys
    pub in_ones : k < length ones
    pub x_is : x ≡ get_or xs k x
    pub o_is : o ≡ get_or ys k o

  pub finds : (cells : List TableId) (xs ys ones old rest : Ps) (p : ℕ) (x o : Passed B M S) → map cell_of xs ≡ cells → map cell_of ys ≡ cells → Glued xs ys ones old
      → old ≡ rest ++ o ∷ [] → p ≡ length rest → x ≡ get_or ones p x → Found xs ys ones p x o
  finds cells xs ys ones old rest p x o own other has popped at found =
      let k : ℕ = length rest in
      let long : length old ≡ k + 1 = ap length popped ∙ length-append rest (o ∷ []) in
      let long_ys : length old ≡ min (length old) (length ys) = ap length has.others_are ∙ length-take (length old) ys in
      let same : length xs ≡ length ys = sym (length-map xs cell_of) ∙ (ap length (own ∙ sym other) ∙ length-map ys cell_of) in
      let old_is : rest ++ o ∷ [] ≡ take (k + 1) ys = sym popped ∙ (has.others_are ∙ ap (λ (n : ℕ). take n ys) long) in
      let ones_is : take (k + 1) ones ≡ take (k + 1) xs = subst (λ (n : ℕ). take n ones ≡ take n xs) long has.ones_are in
      subst (λ (n : ℕ). Found xs ys ones n x o) (sym at) (record {
        in_xs = omega arith;
        in_ys = omega arith;
        in_ones = omega (arith, has.wide);
        x_is = found ∙ (ap (λ (n : ℕ). get_or ones n x) at ∙ (sym (get_or-take (k + 1) ones k x (omega arith)) ∙ (ap (λ (l : Ps). get_or l k x) ones_is ∙ get_or-take (k + 1) xs k x (omega arith))));
        o_is = sym (get_or_push rest o o k refl) ∙ (ap (λ (l : Ps). get_or l k o) old_is ∙ get_or-take (k + 1) ys k o (omega arith));
      })

  -- a pass that is found at a place is of the cell that is reached there
  pub is_own : {C : Type 0} (place : C → TableId) (cells : List C) (xs : Ps) (k : ℕ) (x : Passed B M S) (cell : C) (reached : TableId) → map cell_of xs ≡ map place cells → k < length xs → x ≡ get_or xs k x → cell ≡ get_or cells k cell → reached ≡ place cell → x.cell ≡ reached
  is_own place cells xs k x cell reached own in' is at reach =
      let there : get_or (map place cells) k x.cell ≡ cell_of (get_or xs k x) = ap (λ (l : List TableId). get_or l k x.cell) (sym own) ∙ get_or-map cell_of xs k x x.cell in' in
      let long : k < length cells = subst (λ (n : ℕ). k < n) (sym (length-map xs cell_of) ∙ (ap length own ∙ length-map cells place)) in' in
      ap cell_of is ∙ (sym there ∙ (get_or-map place cells k cell x.cell long ∙ (ap place (sym at) ∙ sym reach)))

  -- nothing is kept for the next pass
  pub is_empty : (ys : Ps) (k : ℕ) (o : Passed B M S) → All (HoldsNothing K) ys → k < length ys → o ≡ get_or ys k o → HoldsNothing K o
  is_empty ys k o all in' is = subst (HoldsNothing K) (sym is) (all k o in')

  pub one_more : (cells : List TableId) (xs ys ones old rest : Ps) (p : ℕ) (x o new : Passed B M S) → map cell_of xs ≡ cells → map cell_of ys ≡ cells → Glued xs ys ones old
      → old ≡ rest ++ o ∷ [] → p ≡ length rest → x ≡ get_or ones p x → IsJoined K x o new → Glued xs ys (set ones p new) rest
  one_more cells xs ys ones old rest p x o new own other has popped at found put =
      let k : ℕ = length rest in
      let long : length old ≡ k + 1 = ap length popped ∙ length-append rest (o ∷ []) in
      let here : Found xs ys ones k x o = subst (λ (n : ℕ). Found xs ys ones n x o) at (finds cells xs ys ones old rest p x o own other has popped at found) in
      let old_is : rest ++ o ∷ [] ≡ take (k + 1) ys = sym popped ∙ (has.others_are ∙ ap (λ (n : ℕ). take n ys) long) in
      let ones_is : take (k + 1) ones ≡ take (k + 1) xs = subst (λ (n : ℕ). take n ones ≡ take n xs) long has.ones_are in
      let tail : AreJoined K (drop (k + 1) xs) (drop (k + 1) ys) (drop (k + 1) ones) = subst (λ (n : ℕ). AreJoined K (drop n xs) (drop n ys) (drop n ones)) long has.glued in
      let xs_is : drop k xs ≡ x ∷ drop (k + 1) xs = drop_more xs k x here.in_xs ∙ ap (λ (z : Passed B M S). z ∷ drop (k + 1) xs) (sym here.x_is) in
      let ys_is : drop k ys ≡ o ∷ drop (k + 1) ys = drop_more ys k o here.in_ys ∙ ap (λ (z : Passed B M S). z ∷ drop (k + 1) ys) (sym here.o_is) in
      let now_is : drop k (set ones k new) ≡ new ∷ drop (k + 1) ones = drop-set ones k new here.in_ones in
      let joined : AreJoined K (x ∷ drop (k + 1) xs) (o ∷ drop (k + 1) ys) (new ∷ drop (k + 1) ones) = (put, tail) in
      subst (λ (n : ℕ). Glued xs ys (set ones n new) rest) (sym at) (record {
        others_are = sym (take_at rest (o ∷ []) k refl) ∙ (ap (take k) old_is ∙ take-take k (k + 1) ys (omega arith));
        ones_are = take-set ones k new ∙ (sym (take-take k (k + 1) ones (omega arith)) ∙ (ap (take k) ones_is ∙ take-take k (k + 1) xs (omega arith)));
        wide = length-set ones k new ∙ has.wide;
        glued = subst (λ (n : Ps). AreJoined K (drop k xs) (drop k ys) n) (sym now_is)
            (subst (λ (n : Ps). AreJoined K (drop k xs) n (new ∷ drop (k + 1) ones)) (sym ys_is)
            (subst (λ (n : Ps). AreJoined K n (o ∷ drop (k + 1) ys) (new ∷ drop (k + 1) ones)) (sym xs_is) joined));
      })
