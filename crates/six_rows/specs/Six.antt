-- Six rows, in order.
use Rattle.std.specs.Prelude.{List, [], ◌∷◌}
use Rattle.row_session.specs.declared.connection.SixRows.{SixRows}

-- the rows as a list
abbrev pub all_six : {W : Type 0} → SixRows W → List W
all_six s = s.first ∷ s.second ∷ s.third ∷ s.fourth ∷ s.fifth ∷ s.sixth ∷ []
