-- What a pass has taken for the registrations that it has.
use Rattle.std.specs.Prelude.{ℕ, ◌==◌, List, [], ◌∷◌, Option, None, Some, if◌then◌else◌}
use Rattle.domain_spec.specs.Cell.{Taken}

-- how many transitions were taken for the registration of this client; none where there is none
abbrev pub taken_by : List Taken → ℕ → Option ℕ
taken_by [] client = None
taken_by (t ∷ taken) client = if t.client == client then Some t.taken else taken_by taken client
