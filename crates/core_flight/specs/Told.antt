-- What listeners are told by the last mark of a history.
use Rattle.std.specs.Prelude.{ℕ, List, [], ◌∷◌, Option, None, Some}
use Rattle.history_spec.specs.declared.stamp.Stamp.{Stamp}
use Rattle.domain_spec.specs.Types.{Transition}
use Rattle.domain_spec.specs.declared.mark.Mark.{Mark}
use Rattle.domain_spec.specs.Fold.{transitions_of}

-- what listeners are told by a mark that may not be there
abbrev pub told_of : Option (Mark Stamp) → List Transition
told_of None = []
told_of (Some m) = transitions_of m

-- what listeners are told by the last of these marks
abbrev pub told_last : List (Mark ℕ) → List Transition
told_last [] = []
told_last (m ∷ []) = transitions_of m
told_last (m ∷ k ∷ marks) = told_last (k ∷ marks)
