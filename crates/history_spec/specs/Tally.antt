-- Numbers of passes, each as often as it holds something.
use Rattle.std.specs.Prelude.{ℕ, ◌==◌, List, [], ◌∷◌, if◌then◌else◌}

-- the list with this number once less, where it is there
abbrev pub one_fewer : ℕ → List ℕ → List ℕ
one_fewer number [] = []
one_fewer number (n ∷ ns) = if n == number then ns else n ∷ one_fewer number ns
