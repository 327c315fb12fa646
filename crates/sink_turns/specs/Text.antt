-- What the marks of a sink say of the bytes: which it took, and which wait.
use Rattle.std.specs.Prelude.{◌≡◌, ◌<◌, ◌++◌, ℕ, Bool, true, false, List, [], ◌∷◌, length, take, drop}
use Rattle.sink_turns.specs.declared.mark.Deed.{Deed}
use Rattle.sink_turns.specs.declared.mark.Deed.TheVariants.{Said, Put, Cut}
use Rattle.sink_turns.specs.declared.mark.Mark.{Mark}

pub record Text : Type 0 where
  -- what the sink took, in order
  pub sent : List ℕ
  -- what was said and not put yet, in order
  pub waits : List ℕ
  -- the sink has failed
  pub cut : Bool

-- before the first message
abbrev pub nothing : Text
nothing = record { sent = []; waits = []; cut = false }

-- the text after a deed
abbrev pub after : Text → Deed → Text
after t (Said message) = record t { waits = t.waits ++ message.bytes }
after t Put = record t { sent = t.sent ++ t.waits; waits = [] }
after t (Cut count) = record { sent = t.sent ++ take count t.waits; waits = drop count t.waits; cut = true }

-- the text after marks
abbrev pub text_after : Text → List Mark → Text
text_after t [] = t
text_after t (m ∷ ms) = text_after (after t m.deed) ms

abbrev pub text : List Mark → Text
text marks = text_after nothing marks

-- a deed may follow: no sink has failed so far, and one that fails takes not all that waits
abbrev pub MayFollow : Text → Deed → Type 0
MayFollow t (Cut count) = (t.cut ≡ false) × (count < length t.waits)
MayFollow t other = t.cut ≡ false

-- each of these marks may follow those before it
abbrev pub AreLawful : Text → List Mark → Type 0
AreLawful t [] = Unit {0}
AreLawful t (m ∷ ms) = MayFollow t m.deed × AreLawful (after t m.deed) ms
