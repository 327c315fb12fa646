-- The attributes of a tag, a step at a time.
use Rattle.std.proofs.Common.{◌≡◌, ℕ, zero, suc, ◌<◌, ◌≤◌, List, [], ◌∷◌, ◌++◌, Bool, true, false, Some, None, Ok, Err, refl, sym, ◌∙◌, ap, arith, append_assoc, append-nil}
use Rattle.text_spec.specs.declared.fault.Flaw.{Flaw}
use Rattle.text_spec.specs.declared.fault.TextKind.TheVariants as kind
use Rattle.text_spec.specs.declared.pair.Pair.{Pair}
use Rattle.text_spec.specs.Reading.{Reading, flaw}
use Rattle.text_spec.specs.Character.{starts_blank, after_blanks}
use Rattle.types_base.specs.Memory.{FailsUnlessNoMemory}
use Rattle.types_base.specs.declared.memory.OrNoMemory.{OrNoMemory}
use Rattle.types_base.specs.declared.memory.OrNoMemory.TheVariants as or
use Rattle.text_spec.specs.Tag.{Attributes, after_attributes, attribute_of, attribute_at, tag_end_at, attributes_at}

after_after : (front more : List Pair) (r : Reading Attributes)
    → after_attributes front (after_attributes more r) ≡ after_attributes (front ++ more) r
after_after front more (Err f) = refl
after_after front more (Ok v) = ap (λ ps. Ok ((ps, v.0.1), v.1)) (sym (append_assoc front more v.0.0))

pub after_none : (r : Reading Attributes) → r ≡ after_attributes [] r
after_none (Err f) = refl
after_none (Ok v) = refl

module _ (start : List ℕ) (front : List Pair) (m : ℕ) (seen : List (List ℕ)) (rest : List ℕ)
    (tag told : Flaw) (after : List ℕ)
    (tag_is : tag ≡ flaw kind.Tag start) (told_is : told ≡ flaw kind.Attribute start) (after_is : after ≡ after_blanks rest) where
  pub tag_flawed : (f : Flaw) → tag_end_at tag after ≡ Err f
      → after_attributes front (attributes_at (suc m) start seen rest) ≡ Err f
  unfolding attributes_at
  tag_flawed f e = let e' = rw (tag_is, after_is) at e in rw e'

  pub tag_ended : (end : Bool × List ℕ) → tag_end_at tag after ≡ Ok (Some end)
      → after_attributes front (attributes_at (suc m) start seen rest) ≡ Ok ((front, end.0), end.1)
  unfolding attributes_at
  tag_ended end e = let e' = rw (tag_is, after_is) at e in rw e' (ap (λ ps. Ok ((ps, end.0), end.1)) (append-nil front))

  pub tag_glued : tag_end_at tag after ≡ Ok None → starts_blank rest ≡ false
      → after_attributes front (attributes_at (suc m) start seen rest) ≡ Err tag
  unfolding attributes_at
  tag_glued e blank = let e' = rw (tag_is, after_is) at e in rw (e', blank, tag_is)

  module _ (whole : Reading Attributes) (whole_is : whole ≡ after_attributes front (attributes_at (suc m) start seen rest))
      (goes_on : tag_end_at tag after ≡ Ok None) (blank : starts_blank rest ≡ true) where
    attribute_flawed : (f : Flaw) → attribute_at told seen after ≡ Err f → whole ≡ Err f
    unfolding attributes_at
    attribute_flawed f a =
        let e' = rw (tag_is, after_is) at goes_on in
        let a' = rw (told_is, after_is) at a in
        whole_is ∙ rw (e', blank, a')

    pub attribute_stopped : (s : OrNoMemory Flaw) → FailsUnlessNoMemory s (attribute_at told seen after) → FailsUnlessNoMemory s whole
    attribute_stopped or.NoMemory h = tt
    attribute_stopped (or.Fault f) h = attribute_flawed f h

    pub attribute_more : (pair : List ℕ × List ℕ) (following : List ℕ) → attribute_at told seen after ≡ Ok (pair, following)
        → whole ≡ after_attributes (front ++ attribute_of pair ∷ []) (attributes_at m start (pair.0 ∷ seen) following)
    unfolding attributes_at
    attribute_more pair following a =
        let e' = rw (tag_is, after_is) at goes_on in
        let a' = rw (told_is, after_is) at a in
        whole_is ∙ rw (e', blank, a') (after_after front (attribute_of pair ∷ []) (attributes_at m start (pair.0 ∷ seen) following))

-- a number above another is one more than some number
pub one_less : (k m : ℕ) → k < m → (n : ℕ) × (suc n ≡ m) × (k ≤ n)
one_less k zero h = absurd (omega (arith, h))
one_less k (suc n) h = (n, refl, omega (arith, h))
