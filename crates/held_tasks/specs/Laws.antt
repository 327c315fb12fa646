-- Laws of what comes of the task of a request.
use Rattle.std.specs.Prelude.{◌≡◌, true}
use Rattle.book_spec.specs.declared.list.ListCall.{ListCall}
use Rattle.list_replies.specs.Below.domain_requests.declared.task.Task.{Task}
use Rattle.driver_cells.specs.OfOutcomes.{Asks, HasGone, HasOutcome, IsNow, KnownRow, Outcome, ReadsNow, is_built}
use Rattle.virt_types.specs.declared.request.Request.{Request}
use Rattle.held_tasks.specs.Outcomes.{HasTaskOutcome, is_query}

-- the request asks for this slot and this task; meanwhile only the row's pass of the store may have read an image
pub record FindsTask (before asked : KnownRow) (r : Request) (held : ListCall) (t : Task) : Type 0 where
  pub asks : Asks before asked r held t
  pub built : is_built r ≡ true
  pub row : asked ≡ record before { store = asked.store }

-- what comes of its task then is what comes of the request
abbrev pub TasksAnswerRequests : Type 0
TasksAnswerRequests = (before asked after : KnownRow) (r : Request) (held : ListCall) (t : Task) (o : Outcome) → FindsTask before asked r held t → HasTaskOutcome asked after held t o → HasGone asked after
    → HasOutcome before after r o

-- and a request that reads has read what the row has seen
abbrev pub QueriesReadNow : Type 0
QueriesReadNow = (before asked after : KnownRow) (r : Request) (held : ListCall) (t : Task) (o : Outcome) → FindsTask before asked r held t → IsNow after (is_query t) o.cell o.front → ReadsNow after r o
