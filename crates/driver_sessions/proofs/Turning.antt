-- What many have, while one after the other gets it or gives it back.
use Rattle.std.proofs.Common.{◌≡◌, ◌∙◌, ◌++◌, List, [], ◌∷◌, ap, sym}
use Rattle.std.proofs.lemmas.List.{append-nil, append_assoc}
use Rattle.driver_sessions.specs.Turned.{turned}

module _ {A B : Type 0} (has : A → List B) where
  -- what one more has, who comes last, comes first
  turned_more : (all : List A) (one : A) → turned has (all ++ one ∷ []) ≡ has one ++ turned has all
  turned_more [] one = sym (append-nil (has one))
  turned_more (a ∷ rest) one = ap (λ (l : List B). l ++ has a) (turned_more rest one) ∙ append_assoc (has one) (turned has rest) (has a)

  -- the last of what is left goes to one who comes after the others
  pub one_gets : (start now left : List B) (all more : List A) (one : A) → start ≡ now ++ turned has all → now ≡ left ++ has one → more ≡ all ++ one ∷ [] → start ≡ left ++ turned has more
  one_gets start now left all more one were last goes =
      were ∙ ap (λ (l : List B). l ++ turned has all) last ∙ append_assoc left (has one) (turned has all)
      ∙ ap (λ (l : List B). left ++ l) (sym (turned_more all one)) ∙ ap (λ (l : List A). left ++ turned has l) (sym goes)

  -- what the last one has, which is seen as this one, comes back after the rest
  pub one_gives : (start now then : List B) (all left : List A) (inside one : A) → start ≡ now ++ turned has all → all ≡ left ++ one ∷ [] → inside ≡ one → then ≡ now ++ has inside → start ≡ then ++ turned has left
  one_gives start now then all left inside one were last seen back =
      were ∙ ap (λ (l : List A). now ++ turned has l) last ∙ ap (λ (l : List B). now ++ l) (turned_more left one)
      ∙ sym (append_assoc now (has one) (turned has left)) ∙ ap (λ (l : List B). l ++ turned has left) (sym (back ∙ ap (λ (a : A). now ++ has a) seen))
