-- What is made of no words.
use Rattle.std.proofs.Common.{ℕ, List, [], Option}
use Rattle.std.proofs.KnownBytes.{Appends-nil}
use Rattle.virt_types.specs.Drawn.{IsMadeOfDrawn}

-- it is made of those that were drawn, where none was
pub made_of_none : (IsMade : List ℕ → Type 0) (drawn : Option (List ℕ)) → IsMade [] → IsMadeOfDrawn IsMade drawn drawn
made_of_none IsMade drawn made = ([], made, Appends-nil drawn)
