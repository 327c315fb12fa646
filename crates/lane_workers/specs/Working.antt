-- What a worker did with the pieces that it took.
use Rattle.std.specs.Prelude.{◌≡◌, ◌⊎◌, ◌++◌, ℕ, true, List, [], ◌∷◌, map, Option, None, Some}
use Rattle.std.specs.List.{flat_map}
use Rattle.atomic_table.specs.Seated.{TableId}
use Rattle.history_spec.specs.Chapter.{tagged}
use Rattle.turn_cell.specs.Turning.{SamePass, Went}
use Rattle.sink_turns.specs.declared.mark.Deed.{Deed}
use Rattle.sink_turns.specs.declared.message.Message.{Message}
use Rattle.sink_turns.specs.declared.spoken.Unsaid.TheVariants as unsaid
use Rattle.sink_turns.specs.declared.turns.NotSaid.{NotSaid}
use Rattle.sink_turns.specs.declared.turns.NotSaid.TheVariants as reason
use Rattle.sink_turns.specs.Keeping.{OutPass, meaning}
use Rattle.sink_turns.specs.Marks.{marks_by, said}
use Rattle.sink_turns.specs.Text.{text}
use Rattle.lane_workers.specs.Answering.{Answered, AnswersAll}
use Rattle.lane_workers.specs.declared.worker.Stop.{Stop}
use Rattle.lane_workers.specs.declared.worker.Stop.TheVariants.{NoMemory, NotSaid as Unheard}
use Rattle.lane_workers.specs.declared.worker.Worker.{Worker}
use Rattle.lane_workers.specs.declared.worker.Worked.{Worked}

-- the pass's own messages, in the turns in which it did this
abbrev pub messages_of : List Deed → List Message
messages_of deeds = flat_map said deeds

-- so many turns, with these deeds and no others of the pass; then it may have found that no ticket is left
abbrev pub HasGone : ℕ → List Deed → OutPass → OutPass → Type 0
HasGone turns deeds before after = (pass : OutPass) × Went meaning turns (tagged 0 (marks_by before.number deeds)) before pass × ((after ≡ pass) ⊎ (after ≡ record pass { spent = true }))

-- what is in the history of a message that stopped the worker: nothing, or where the sink failed the message, which was not
-- put whole
abbrev pub IsCut : Message → NotSaid → List Message → Type 0
IsCut message (reason.Fault unsaid.SinkFault) cut = (cut ≡ []) ⊎ (cut ≡ message ∷ [])
IsCut message other cut = cut ≡ []

module _ {T W K : Type 0} where
  -- its end of the lane takes, its pass is of this sink, and its row is one of this service's
  pub record MayWork {D : Type 0} (is_row : D → W → Type 0) (service : D) (out : TableId) (worker : Worker T W K) : Type 0 where
    pub takes : worker.lane.takes ≡ true
    pub cell : worker.pass.cell ≡ out
    pub row : is_row service worker.row

  -- where no ticket is left, the pass says so; where the sink failed, it has seen that
  abbrev pub ShowsWhy : Option Stop → Worker T W K → Type 0
  ShowsWhy (Some (Unheard reason.Spent)) worker = worker.pass.spent ≡ true
  ShowsWhy (Some (Unheard (reason.Fault unsaid.SinkFault))) worker = (text worker.pass.seen.marks).cut ≡ true
  ShowsWhy other worker = Unit {0}

module _ {T W : Type 0} (HasAnswered : W → T → Option Message → W → Type 0) where
  -- why it stopped, and what became of the last piece that it took
  abbrev pub IsStopped : W → List T → List Message → Option Stop → W → Type 0
  IsStopped then rest cut None row = (row ≡ then) × (rest ≡ []) × (cut ≡ [])
  IsStopped then rest cut (Some NoMemory) row = (piece : T) × (rest ≡ piece ∷ []) × HasAnswered then piece None row × (cut ≡ [])
  IsStopped then rest cut (Some (Unheard why)) row = (piece : T) × (message : Message) × (rest ≡ piece ∷ []) × HasAnswered then piece (Some message) row × IsCut message why cut

module _ {T W K : Type 0} (HasAnswered : W → T → Option Message → W → Type 0) where
  -- the pieces that it took were answered in order, each by one message of its pass; where it stopped, the last one has no
  -- message, or none that was put whole
  pub record HasWorked (is_row : W → Type 0) (before : Worker T W K) (worked : Worked T W K) : Type 0 where
    pub answered : List (Answered T)
    pub then : W
    pub turns : ℕ
    pub deeds : List Deed
    pub rest : List T
    pub cut : List Message
    pub lane : worked.worker.lane ≡ record before.lane { taken = before.lane.taken ++ (map (λ a. a.piece) answered ++ rest) }
    pub ran : AnswersAll HasAnswered before.row answered then
    pub went : HasGone turns deeds before.pass worked.worker.pass
    pub said_all : messages_of deeds ≡ map (λ a. a.message) answered ++ cut
    pub stopped : IsStopped HasAnswered then rest cut worked.stop worked.worker.row
    pub shows : ShowsWhy worked.stop worked.worker
    pub same : SamePass before.pass worked.worker.pass
    pub row : is_row worked.worker.row
    -- one whose end puts too, and that was not stopped, took all that it put
    pub all : worked.stop ≡ None → before.lane.puts ≡ true → worked.worker.lane.put ≡ worked.worker.lane.taken
