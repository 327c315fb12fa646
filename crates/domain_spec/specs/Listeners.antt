-- Who is registered after each mark.
use Rattle.std.specs.Prelude.{ℕ, ◌+◌, ◌==◌, List, [], ◌∷◌, ◌++◌, map, filter, length, Bool, not}
use Rattle.domain_spec.specs.Types.{Transition}
use Rattle.domain_spec.specs.declared.mark.Mark.{Mark}
use Rattle.domain_spec.specs.declared.mark.Mark.TheVariants as mark
use Rattle.domain_spec.specs.declared.standing.Client.{Client}

-- what listeners are told by a mark
abbrev pub transitions_of : {N : Type 0} → Mark N → List Transition
transitions_of (mark.Done number who c boot asks answers r events) = events
transitions_of (mark.Phase number who p asks answers o events) = events
transitions_of (mark.Exit boot why events) = events
transitions_of (mark.Event boot e events) = events
transitions_of other = []

-- a client to whom n more transitions came
abbrev pub with_more : ℕ → Client → Client
with_more n c = record c { before = c.total; total = c.total + n }

-- this is the registration of this number
abbrev pub is_client : ℕ → Client → Bool
is_client client c = c.client == client

-- the registrations but this one
abbrev pub without_client : List Client → ℕ → List Client
without_client clients client = filter (λ c. not (is_client client c)) clients

-- the clients after a mark
abbrev pub clients_after : List Client → Mark ℕ → List Client
clients_after clients (mark.Watch number client) =
    map (with_more 0) clients ++ (record { number = number; client = client; before = 0; total = 0 }) ∷ []
clients_after clients (mark.Unwatch number client) = map (with_more 0) (without_client clients client)
clients_after clients (mark.Cut client total taken) = without_client clients client
clients_after clients m = map (with_more (length (transitions_of m))) clients
