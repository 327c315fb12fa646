-- Rows that were taken out of a list at its end, and put there.
use Rattle.std.proofs.Common.{◌≡◌, ◌∙◌, ◌++◌, List, [], ◌∷◌, Option, Some, ap, sym}
use Rattle.std.specs.Option.{option_to_list}
use Rattle.std.proofs.lemmas.List.{append-nil, append_assoc}

module _ {A : Type 0} where
  -- one item was taken out: it comes before those that were taken out earlier
  taken_before : (before after : List A) (taken : Option A) (item : A) (others : List A) → before ≡ after ++ option_to_list taken → taken ≡ Some item → before ++ others ≡ after ++ item ∷ others
  taken_before before after taken item others is some =
      ap (λ (l : List A). l ++ others) is ∙ ap (λ (o : Option A). (after ++ option_to_list o) ++ others) some ∙ append_assoc after (item ∷ []) others

  -- six items were taken out, one after the other
  pub six_taken : (l0 l1 l2 l3 l4 l5 l6 : List A) (o1 o2 o3 o4 o5 o6 : Option A) (i1 i2 i3 i4 i5 i6 : A)
      → l0 ≡ l1 ++ option_to_list o6 → o6 ≡ Some i6 → l1 ≡ l2 ++ option_to_list o5 → o5 ≡ Some i5 → l2 ≡ l3 ++ option_to_list o4 → o4 ≡ Some i4
      → l3 ≡ l4 ++ option_to_list o3 → o3 ≡ Some i3 → l4 ≡ l5 ++ option_to_list o2 → o2 ≡ Some i2 → l5 ≡ l6 ++ option_to_list o1 → o1 ≡ Some i1
      → l0 ≡ l6 ++ i1 ∷ i2 ∷ i3 ∷ i4 ∷ i5 ∷ i6 ∷ []
  six_taken l0 l1 l2 l3 l4 l5 l6 o1 o2 o3 o4 o5 o6 i1 i2 i3 i4 i5 i6 p6 s6 p5 s5 p4 s4 p3 s3 p2 s2 p1 s1 =
      sym (append-nil l0)
      ∙ taken_before l0 l1 o6 i6 [] p6 s6
      ∙ taken_before l1 l2 o5 i5 (i6 ∷ []) p5 s5
      ∙ taken_before l2 l3 o4 i4 (i5 ∷ i6 ∷ []) p4 s4
      ∙ taken_before l3 l4 o3 i3 (i4 ∷ i5 ∷ i6 ∷ []) p3 s3
      ∙ taken_before l4 l5 o2 i2 (i3 ∷ i4 ∷ i5 ∷ i6 ∷ []) p2 s2
      ∙ taken_before l5 l6 o1 i1 (i2 ∷ i3 ∷ i4 ∷ i5 ∷ i6 ∷ []) p1 s1

  -- one item was put after the others, and more after it
  put_before : (before after : List A) (item : A) (others : List A) → after ≡ before ++ item ∷ [] → after ++ others ≡ before ++ item ∷ others
  put_before before after item others is = ap (λ (l : List A). l ++ others) is ∙ append_assoc before (item ∷ []) others

  -- six items were put, one after the other
  pub six_put : (l0 l1 l2 l3 l4 l5 l6 : List A) (i1 i2 i3 i4 i5 i6 : A) → l1 ≡ l0 ++ i1 ∷ [] → l2 ≡ l1 ++ i2 ∷ [] → l3 ≡ l2 ++ i3 ∷ [] → l4 ≡ l3 ++ i4 ∷ [] → l5 ≡ l4 ++ i5 ∷ []
      → l6 ≡ l5 ++ i6 ∷ [] → l6 ≡ l0 ++ i1 ∷ i2 ∷ i3 ∷ i4 ∷ i5 ∷ i6 ∷ []
  six_put l0 l1 l2 l3 l4 l5 l6 i1 i2 i3 i4 i5 i6 p1 p2 p3 p4 p5 p6 =
      sym (append-nil l6)
      ∙ put_before l5 l6 i6 [] p6
      ∙ put_before l4 l5 i5 (i6 ∷ []) p5
      ∙ put_before l3 l4 i4 (i5 ∷ i6 ∷ []) p4
      ∙ put_before l2 l3 i3 (i4 ∷ i5 ∷ i6 ∷ []) p3
      ∙ put_before l1 l2 i2 (i3 ∷ i4 ∷ i5 ∷ i6 ∷ []) p2
      ∙ put_before l0 l1 i1 (i2 ∷ i3 ∷ i4 ∷ i5 ∷ i6 ∷ []) p1
