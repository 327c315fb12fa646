-- The marks of a number, before and after a turn.
use Rattle.std.proofs.Common.{◌≡◌, ◌≢◌, ℕ, Bool, false, cond, eqb, List, [], ◌∷◌, ◌++◌, length, drop, map, Option, None, Some, refl, sym, ap, ◌∙◌, eq-eqb, ne_eqb, arith}
use Rattle.std.specs.Prelude.{filter}
use Rattle.std.proofs.lemmas.List.{map-append}
use Rattle.std.proofs.lemmas.List.Elements.{filter-append}
use Rattle.history_spec.specs.declared.history.History.{History}
use Rattle.history_spec.specs.Begins.{SameChapter}
use Rattle.history_spec.specs.Chapter.{BeginsChapter, added, tagged, in_chapter}
use Rattle.history_spec.specs.Pass.{bears, IsOf, own, AreOf}

module _ {M : Type 0} where
  pub in_chapter-append : (c : ℕ) (xs ys : List (ℕ × M)) → in_chapter c (xs ++ ys) ≡ in_chapter c xs ++ in_chapter c ys
  in_chapter-append c xs ys = ap (map (λ (x : ℕ × M). x.1)) (filter-append (λ (x : ℕ × M). eqb x.0 c) xs ys) ∙ map-append (λ (x : ℕ × M). x.1) (filter (λ (x : ℕ × M). eqb x.0 c) xs) (filter (λ (x : ℕ × M). eqb x.0 c) ys)

  -- what was kept for this chapter is all of it
  pub in_chapter-here : (c : ℕ) (ms : List M) → in_chapter c (tagged c ms) ≡ ms
  in_chapter-here c [] = refl
  in_chapter-here c (m ∷ ms) = ap (λ (b : Bool). map (λ (x : ℕ × M). x.1) (cond b ((c, m) ∷ filter (λ (x : ℕ × M). eqb x.0 c) (tagged c ms)) (filter (λ (x : ℕ × M). eqb x.0 c) (tagged c ms)))) (eq-eqb c c refl) ∙ ap (λ (l : List M). m ∷ l) (in_chapter-here c ms)

  -- what was kept for another chapter is none of this one
  pub in_chapter-other : (c d : ℕ) (ms : List M) → d ≢ c → in_chapter c (tagged d ms) ≡ []
  in_chapter-other c d [] ne = refl
  in_chapter-other c d (m ∷ ms) ne = ap (λ (b : Bool). map (λ (x : ℕ × M). x.1) (cond b ((d, m) ∷ filter (λ (x : ℕ × M). eqb x.0 c) (tagged d ms)) (filter (λ (x : ℕ × M). eqb x.0 c) (tagged d ms)))) (ne_eqb d c ne) ∙ in_chapter-other c d ms ne

module _ {M : Type 0} (whose : M → Option ℕ) where
  pub own-append : (n : ℕ) (xs ys : List M) → own whose n (xs ++ ys) ≡ own whose n xs ++ own whose n ys
  own-append n xs ys = filter-append (λ (m : M). bears n (whose m)) xs ys

  not_borne : (n j : ℕ) (o : Option ℕ) → IsOf n o → j ≢ n → bears j o ≡ false
  not_borne n j None is ne = refl
  not_borne n j (Some k) is ne = ne_eqb k j (λ e. ne (sym e ∙ is))

  -- marks of one number, or of nobody, are none of another
  pub own-of_others : (n j : ℕ) (ms : List M) → AreOf whose n ms → j ≢ n → own whose j ms ≡ []
  own-of_others n j [] are ne = refl
  own-of_others n j (m ∷ ms) are ne = ap (λ (b : Bool). cond b (m ∷ own whose j ms) (own whose j ms)) (not_borne n j (whose m) are.0 ne) ∙ own-of_others n j ms are.1 ne

drop_own : {M : Type 0} (xs ys : List M) → drop (length xs) (xs ++ ys) ≡ ys
drop_own [] ys = refl
drop_own (x ∷ xs) ys = drop_own xs ys

module _ {B M : Type 0} where
  -- the marks of one chapter are those before, and the added ones
  pub added-same : (a b : History B M) → SameChapter a b → a.marks ++ added a b ≡ b.marks
  added-same a b p =
      let here : added a b ≡ drop (length a.marks) b.marks = ap (λ (t : Bool). cond t (drop (length a.marks) b.marks) b.marks) (eq-eqb a.chapter b.chapter p.chapter) in
      let more : drop (length a.marks) b.marks ≡ p.marks.0 = ap (drop (length a.marks)) (sym p.marks.1) ∙ drop_own a.marks p.marks.0 in
      ap (λ (l : List M). a.marks ++ l) (here ∙ more) ∙ p.marks.1

  -- where marks come after those of the chapter, they are what was added
  pub added-more : (a b : History B M) (more : List M) → a.chapter ≡ b.chapter → a.marks ++ more ≡ b.marks → added a b ≡ more
  added-more a b more same is = ap (λ (t : Bool). cond t (drop (length a.marks) b.marks) b.marks) (eq-eqb a.chapter b.chapter same) ∙ (ap (drop (length a.marks)) (sym is) ∙ drop_own a.marks more)

  -- the marks of a new chapter are all added
  pub added-next : (next : B) (a b : History B M) → BeginsChapter next a b → added a b ≡ b.marks
  added-next next a b p = ap (λ (t : Bool). cond t (drop (length a.marks) b.marks) b.marks) (ne_eqb a.chapter b.chapter (λ e. omega (arith, p.chapter, e)))
