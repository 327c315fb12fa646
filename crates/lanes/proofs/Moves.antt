-- Each move keeps the rule of a lane.
use Rattle.std.proofs.Common.{◌≡◌, ◌≢◌, ℕ, zero, suc, Bool, true, false, true≢false, List, [], ◌∷◌, ◌++◌, length, set, sym, refl, ap, ◌∙◌, subst, ⊎_elim, append_assoc, append-nil}
use Rattle.std.proofs.lemmas.List.{nil_from_length}
use mathlib.Core.Option.{some, some-ne-none}
use lib.ListN.{get_elem?}
use Rattle.crossbeam_queue.specs.Fifo.{Pushes, Pops, Forks, Merges, Learns, Held}
use Rattle.crossbeam_queue.specs.Passes.{Pass, view}
use Rattle.lanes.specs.Ends.{End, end_of, AreInOrder, HeldThen}
use Rattle.crossbeam_queue.proofs.Lists.{at_set, at_snoc}
use Rattle.lanes.specs.declared.rule.Knows.{Knows}
use Rattle.lanes.specs.Rule.{knows, put_half, take_half, both_halves, used_up, newcomer, has_put, has_taken, Fits, IsInOrder, Sees}

module _ {T : Type 0} where
  at_end : (l : List (Knows T)) (a b : Knows T) (j : ℕ) → get_elem? l j ≢ some b → get_elem? (l ++ a ∷ []) j ≡ some b → j ≡ length l
  at_end [] a b zero n e = refl
  at_end [] a b (suc j) n e = absurd (some-ne-none b (sym e))
  at_end (x ∷ xs) a b zero n e = absurd (n e)
  at_end (x ∷ xs) a b (suc j) n e = ap suc (at_end xs a b j n e)

  abbrev All : (ℕ → Knows T → Type 0) → List (Knows T) → Type 0
  All F views = (seat : ℕ) (v : Knows T) → get_elem? views seat ≡ some v → F seat v

  all_set : (F : ℕ → Knows T → Type 0) (views : List (Knows T)) (seat : ℕ) (w : Knows T) → F seat w → ((j : ℕ) (u : Knows T) → j ≢ seat → get_elem? views j ≡ some u → F j u) → All F (set views seat w)
  all_set F views seat w mine others j u e = ⊎_elim (λ (x : (j ≡ seat) × (w ≡ u)). subst (λ (y : ℕ × Knows T). F y.0 y.1) (λ i. (sym x.0 i, x.1 i)) mine)
      (λ (x : (j ≢ seat) × (get_elem? views j ≡ some u)). others j u x.0 x.1) (at_set views seat j w u e)

  pub begins : IsInOrder {T = T} [] (knows true true [] [] ∷ [])
  begins = (0, 0, [], [], refl, all_set (Fits 0 0 [] []) (knows true true [] [] ∷ []) 0 (knows true true [] []) ((λ _. (refl, refl)), λ _. (refl, refl)) (λ j u other e. absurd (other (at_end [] _ u j (λ x. some-ne-none u (sym x)) e))))

  pub puts : (n seat : ℕ) (v : Knows T) (x : T) → v.puts ≡ true → Pushes IsInOrder n seat v x (λ w. w ≡ has_put v x)
  puts n seat v x may items views _ h at = let w : Knows T = has_put v x in let mine = h.5 seat v at in let put = h.2 ++ x ∷ [] in (
    w,
    (
      h.0,
      h.1,
      put,
      h.3,
      ap (λ (l : List T). l ++ x ∷ []) h.4 ∙ append_assoc h.3 items (x ∷ []),
      all_set (Fits h.0 h.1 put h.3) views seat w ((λ _. ((mine.0 may).0, ap (λ (l : List T). l ++ x ∷ []) (mine.0 may).1)), mine.1)
          (λ j u other e. ((λ p. absurd (other (((h.5 j u e).0 p).0 ∙ sym (mine.0 may).0))), (h.5 j u e).1)),
    ),
    refl,
  )

  pub takes : (seat : ℕ) (v : Knows T) → v.takes ≡ true → Pops IsInOrder seat v (λ x w. w ≡ has_taken v x)
  takes seat v may x items views h at = let w : Knows T = has_taken v x in let mine = h.5 seat v at in let taken = h.3 ++ x ∷ [] in (
    w,
    (
      h.0,
      h.1,
      h.2,
      taken,
      h.4 ∙ sym (append_assoc h.3 (x ∷ []) items),
      all_set (Fits h.0 h.1 h.2 taken) views seat w (mine.0, λ _. ((mine.1 may).0, ap (λ (l : List T). l ++ x ∷ []) (mine.1 may).1))
          (λ j u other e. ((h.5 j u e).0, λ p. absurd (other (((h.5 j u e).1 p).0 ∙ sym (mine.1 may).0)))),
    ),
    refl,
  )

  pub forks : (seat : ℕ) (v : Knows T) → v.puts ≡ true → v.takes ≡ true → Forks IsInOrder seat v (put_half v) (take_half v)
  forks seat v a b items views h at = let l : Knows T = put_half v in let r : Knows T = take_half v in let mine = h.5 seat v at in let vs : List (Knows T) = set views seat l in
      let Old : ℕ → Knows T → Type 0 = λ j u. (u.puts ≡ true → (j ≡ h.0) × (u.put ≡ h.2)) × (u.takes ≢ true) in
      let old : All Old vs = all_set Old views seat l ((λ _. mine.0 a), λ p. true≢false (sym p)) (λ j u other e. ((h.5 j u e).0, λ p. other (((h.5 j u e).1 p).0 ∙ sym (mine.1 b).0))) in (
        h.0,
        length vs,
        h.2,
        h.3,
        h.4,
        λ j u e. ⊎_elim (λ x. ((old j u x).0, λ p. absurd ((old j u x).1 p)))
            (λ (is : r ≡ u). ((λ p. absurd (true≢false (sym (ap (λ (y : Knows T). y.puts) is ∙ p)))), λ p. (at_end vs r u j (λ x. (old j u x).1 p) e, ap (λ (y : Knows T). y.taken) (sym is) ∙ (mine.1 b).1))) (at_snoc vs r u j e),
      )

  pub merges : (seat : ℕ) (v : Knows T) (other : ℕ) (u : Knows T) → v.puts ≡ true → u.takes ≡ true → Merges IsInOrder seat v other u (both_halves v u) (knows false false [] [])
  merges seat v other u a b items views h at two at' = let both : Knows T = both_halves v u in let mine = h.5 seat v at in let vs : List (Knows T) = set views seat both in
      let was : get_elem? views other ≡ some u = ⊎_elim (λ x. absurd (two x.0)) (λ x. x.1) (at_set views seat other both u at') in let theirs = (h.5 other u was).1 b in
      let Now : ℕ → Knows T → Type 0 = λ j y. j ≢ other → Fits h.0 seat h.2 h.3 j y in
      let now : All Now vs = all_set Now views seat both (λ _. ((λ _. mine.0 a), λ _. (refl, theirs.1))) (λ j y _ e apart. ((h.5 j y e).0, λ p. absurd (apart (((h.5 j y e).1 p).0 ∙ sym theirs.0)))) in
      (h.0, seat, h.2, h.3, h.4, all_set (Fits h.0 seat h.2 h.3) vs other (knows false false [] []) ((λ p. absurd (true≢false (sym p))), λ p. absurd (true≢false (sym p))) (λ j y apart e. now j y e apart))

  pub sees : (seat : ℕ) (v : Knows T) → Learns IsInOrder seat v (Sees v)
  sees seat v items views h at = let mine = h.5 seat v at in (h.2, h.3, h.4, (λ p. (mine.0 p).1), λ p. (mine.1 p).1)

  pub held_then : (n most : ℕ) (pass : Pass T (Knows T)) → Held n (Sees (view pass)) → HeldThen n (end_of most pass)
  held_then n most pass h = let s = h.2 in record { put = s.0; taken = s.1; held = h.0; count_is = h.1; whole = s.2; is_put = s.3; is_taken = s.4 }

  -- an end that puts and takes, and finds nothing held, has taken all that it put
  pub none_left : (e : End T) → HeldThen 0 e → e.takes ≡ true → e.puts ≡ true → e.put ≡ e.taken
  none_left e h t p = h.is_put p ∙ (h.whole ∙ (ap (λ (l : List T). h.taken ++ l) (nil_from_length h.held h.count_is) ∙ (append-nil h.taken ∙ sym (h.is_taken t))))

  -- what both ends know together
  pub in_order : (e : End T) (items : List T) (v : Knows T) → Sees v items → v.puts ≡ true → v.takes ≡ true → AreInOrder v.put v.taken
  in_order e items v s p t = (items, s.3 p ∙ (s.2 ∙ ap (λ (l : List T). l ++ items) (sym (s.4 t))))
