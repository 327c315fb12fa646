-- A history begins itself, beginnings go through, and of two histories the longer_history is begun by both.
use Rattle.std.proofs.Common.{◌≡◌, ◌⊎◌, ℕ, ◌<◌, ◌≤◌, Bool, true, false, true≢false, cond, List, [], ◌++◌, length, inl, inr, ⊎_elim, refl, sym, ap, ◌∙◌, subst, append_assoc, append-nil, length-append, arith}
use Rattle.std.proofs.lemmas.Bool.{cases_lt}
use Rattle.std.proofs.lemmas.List.{nil_from_length}
use Rattle.history_spec.specs.declared.history.History.{History}
use Rattle.history_spec.specs.Front.{front_lt, front_of, longer_history}
use Rattle.history_spec.specs.Begins.{IsPrefix, SameChapter, LaterChapter, Begins}
use Rattle.history_spec.proofs.Fronts.{front_lt-true, earlier-front_lt, fewer-front_lt}

module _ {M : Type 0} where
  pub prefix_itself : (xs : List M) → IsPrefix xs xs
  prefix_itself xs = ([], append-nil xs)

  pub prefix_through : (xs ys zs : List M) → IsPrefix xs ys → IsPrefix ys zs → IsPrefix xs zs
  prefix_through xs ys zs a b = (a.0 ++ b.0, sym (append_assoc xs a.0 b.0) ∙ (ap (λ (t : List M). t ++ b.0) a.1 ∙ b.1))

  pub prefix_length : (xs ys : List M) → IsPrefix xs ys → length xs ≤ length ys
  prefix_length xs ys p = omega (arith, length-append xs p.0, ap (λ (t : List M). length t) p.1)

  -- a beginning that is no shorter is the whole
  pub prefix_whole : (xs ys : List M) → IsPrefix xs ys → length ys ≤ length xs → xs ≡ ys
  prefix_whole xs ys p le =
      let none : p.0 ≡ [] = nil_from_length p.0 (omega (arith, length-append xs p.0, ap (λ (t : List M). length t) p.1)) in
      sym (append-nil xs) ∙ (ap (λ (t : List M). xs ++ t) (sym none) ∙ p.1)

module _ {B M : Type 0} (rising : B → List M → ℕ) where
  -- no mark lowers the rising number
  abbrev pub NoMarkLowers : Type 0
  NoMarkLowers = (b : B) (xs ys : List M) → rising b xs ≤ rising b (xs ++ ys)

  pub begins_itself : (a : History B M) → Begins rising a a
  begins_itself a = inl (record { chapter = refl; base = refl; marks = prefix_itself a.marks })

  same_through : (a b c : History B M) → SameChapter a b → SameChapter b c → SameChapter a c
  same_through a b c p q = record { chapter = p.chapter ∙ q.chapter; base = p.base ∙ q.base; marks = prefix_through a.marks b.marks c.marks p.marks q.marks }

  rises_along : NoMarkLowers → (a b : History B M) → SameChapter a b → rising a.base a.marks ≤ rising b.base b.marks
  rises_along lowers a b p = subst (λ (z : B × List M). rising a.base a.marks ≤ rising z.0 z.1) (λ i. (p.base i, p.marks.1 i)) (lowers a.base a.marks p.marks.0)

  then_later : NoMarkLowers → (a b c : History B M) → SameChapter a b → LaterChapter rising b c → LaterChapter rising a c
  then_later lowers a b c p q = record { chapter = omega (arith, p.chapter, q.chapter); rises = omega (arith, rises_along lowers a b p, q.rises) }

  later_then : (a b c : History B M) → LaterChapter rising a b → SameChapter b c → LaterChapter rising a c
  later_then a b c p q = record { chapter = omega (arith, p.chapter, q.chapter); rises = subst (λ (z : B). rising a.base a.marks ≤ rising z []) q.base p.rises }

  both_later : NoMarkLowers → (a b c : History B M) → LaterChapter rising a b → LaterChapter rising b c → LaterChapter rising a c
  both_later lowers a b c p q = record { chapter = omega (arith, p.chapter, q.chapter); rises = omega (arith, p.rises, lowers b.base [] b.marks, q.rises) }

  pub begins_through : NoMarkLowers → (a b c : History B M) → Begins rising a b → Begins rising b c → Begins rising a c
  begins_through lowers a b c p q = ⊎_elim
      (λ (x : SameChapter a b). ⊎_elim (λ (y : SameChapter b c). inl (same_through a b c x y)) (λ (y : LaterChapter rising b c). inr (then_later lowers a b c x y)) q)
      (λ (x : LaterChapter rising a b). ⊎_elim (λ (y : SameChapter b c). inr (later_then a b c x y)) (λ (y : LaterChapter rising b c). inr (both_later lowers a b c x y)) q)
      p

  -- a beginning is of no later chapter
  pub begins_chapter : (a b : History B M) → Begins rising a b → a.chapter ≤ b.chapter
  begins_chapter a b p = ⊎_elim (λ (x : SameChapter a b). let e = x.chapter in omega arith) (λ (x : LaterChapter rising a b). let l = x.chapter in omega arith) p

  further_back : (a b : History B M) → front_lt (front_of a) (front_of b) ≡ true → Begins rising b a → ⊥
  further_back a b t p =
      ⊎_elim
      (λ (x : SameChapter b a). let e = x.chapter in let le = prefix_length b.marks a.marks x.marks in ⊎_elim (λ (l : a.chapter < b.chapter). omega arith) (λ (l : (a.chapter ≡ b.chapter) × (length a.marks < length b.marks)). let k = l.1 in omega arith) told)
      (λ (x : LaterChapter rising b a). let e = x.chapter in ⊎_elim (λ (l : a.chapter < b.chapter). omega arith) (λ (l : (a.chapter ≡ b.chapter) × (length a.marks < length b.marks)). let k = l.0 in omega arith) told)
      p
    where
      told : (a.chapter < b.chapter) ⊎ ((a.chapter ≡ b.chapter) × (length a.marks < length b.marks))
      told = front_lt-true (front_of a) (front_of b) t

  no_further : (a b : History B M) → front_lt (front_of a) (front_of b) ≡ false → Begins rising a b → Begins rising b a
  no_further a b t p =
      ⊎_elim
      (λ (x : SameChapter a b). ⊎_elim
      (λ (l : length a.marks < length b.marks). absurd (true≢false (sym (fewer-front_lt (front_of a) (front_of b) x.chapter l) ∙ t)))
      (λ (le : length b.marks ≤ length a.marks). inl (record { chapter = sym x.chapter; base = sym x.base; marks = ([], append-nil b.marks ∙ sym (prefix_whole a.marks b.marks x.marks le)) }))
      (cases_lt (length a.marks) (length b.marks)))
      (λ (x : LaterChapter rising a b). absurd (true≢false (sym (earlier-front_lt (front_of a) (front_of b) x.chapter) ∙ t)))
      p

  by_test : (a b : History B M) (t : Bool) → front_lt (front_of a) (front_of b) ≡ t → Begins rising a b ⊎ Begins rising b a → Begins rising a (cond t b a) × Begins rising b (cond t b a)
  by_test a b true e p = (⊎_elim (λ (x : Begins rising a b). x) (λ (x : Begins rising b a). absurd (further_back a b e x)) p, begins_itself b)
  by_test a b false e p = (begins_itself a, ⊎_elim (λ (x : Begins rising a b). no_further a b e x) (λ (x : Begins rising b a). x) p)

  -- of two histories of one value, both begin the longer_history
  pub both_begin : (a b : History B M) → Begins rising a b ⊎ Begins rising b a → Begins rising a (longer_history a b) × Begins rising b (longer_history a b)
  both_begin a b p = by_test a b (front_lt (front_of a) (front_of b)) refl p

  -- the longer_history is one of the two
  pub longer_either : (P : History B M → Type 0) (a b : History B M) → P a → P b → P (longer_history a b)
  longer_either P a b p q = by (front_lt (front_of a) (front_of b))
    where
      by : (t : Bool) → P (cond t b a)
      by true = q
      by false = p
