-- How a hold of a slot is given back.
use Rattle.std.specs.Prelude.{◌≡◌, ◌⊎◌, ℕ, Bool, true}
use Rattle.object_list.specs.Turns.{HasReleased, ListPassed}
use Rattle.types_base.specs.declared.caller.Front.{Front}

-- the slot is released; where no ticket is left for that, the pass is spent and keeps its hold
abbrev pub LetsGo : ℕ → Front → Bool → ListPassed → ListPassed → Type 0
LetsGo slot front occupied had after = HasReleased slot front occupied had after ⊎ (after ≡ record had { spent = true })
