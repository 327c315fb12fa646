-- The steps of a worker. No public clause cites this.
use Rattle.std.specs.Prelude.{◌≡◌, ◌++◌, ℕ, List, [], ◌∷◌, map, Option, None, Some, Result, Ok, Err}
use Rattle.lanes.specs.Ends.{has_taken}
use Rattle.sink_turns.specs.declared.mark.Deed.{Deed}
use Rattle.sink_turns.specs.declared.message.Message.{Message}
use Rattle.sink_turns.specs.declared.turns.NotSaid.{NotSaid}
use Rattle.sink_turns.specs.Keeping.{OutPass}
use Rattle.lane_workers.specs.Answering.{Answered, AnswersAll}
use Rattle.lane_workers.specs.Working.{HasGone, IsCut, ShowsWhy, messages_of}
use Rattle.lane_workers.specs.declared.worker.Stop.{Stop}
use Rattle.lane_workers.specs.declared.worker.Stop.TheVariants.{NoMemory, NotSaid as Unheard}
use Rattle.lane_workers.specs.declared.worker.Worker.{Worker}

-- why a worker stops, by the answer to its message
abbrev pub stop_of : Result (Unit {0}) NotSaid → Option Stop
stop_of (Ok _) = None
stop_of (Err why) = Some (Unheard why)

-- what a message left of the pass's own: itself, or what is left of one that was not said
abbrev pub IsHeard : Message → Option Stop → List Message → Type 0
IsHeard message None own = own ≡ message ∷ []
IsHeard message (Some NoMemory) own = ⊥
IsHeard message (Some (Unheard why)) own = IsCut message why own

-- the same of an answer, for which there may be no message
abbrev pub IsHeardOf : Option Message → Option Stop → List Message → Type 0
IsHeardOf (Some message) stop own = IsHeard message stop own
IsHeardOf None stop own = (stop ≡ Some NoMemory) × (own ≡ [])

-- whatever the pass had done before, it has done that and then this, with these messages of its own
abbrev pub Continues : List Message → OutPass → OutPass → Type 0
Continues own before after = (first : OutPass) (turns : ℕ) (deeds : List Deed) → HasGone turns deeds first before → (count : ℕ) × (more : List Deed) × HasGone count (deeds ++ more) first after × (messages_of more ≡ own)

module _ {T W K : Type 0} where
  -- the pass said these messages; the lane and the row are as they were
  pub record Turns (own : List Message) (before after : Worker T W K) : Type 0 where
    pub pass : Continues own before.pass after.pass
    pub cell : after.pass.cell ≡ before.pass.cell
    pub lane : after.lane ≡ before.lane
    pub row : after.row ≡ before.row

  -- a message was said or not
  pub record HasSaid (message : Message) (stop : Option Stop) (before after : Worker T W K) : Type 0 where
    pub own : List Message
    pub turned : Turns own before after
    pub heard : IsHeard message stop own
    pub shows : ShowsWhy stop after

  -- a piece was taken
  abbrev pub took : Worker T W K → T → Worker T W K
  took worker piece = record worker { lane = has_taken worker.lane piece }

module _ {T W K : Type 0} (HasAnswered : W → T → Option Message → W → Type 0) where
  -- a piece that was taken was answered, and its message said or not
  pub record HasTried (piece : T) (stop : Option Stop) (before after : Worker T W K) : Type 0 where
    pub message : Option Message
    pub own : List Message
    pub turned : Turns own (record before { row = after.row }) after
    pub ran : HasAnswered before.row piece message after.row
    pub heard : IsHeardOf message stop own
    pub shows : ShowsWhy stop after

  -- what a worker did so far
  pub record SoFar (before now : Worker T W K) : Type 0 where
    pub answered : List (Answered T)
    pub turns : ℕ
    pub deeds : List Deed
    pub lane : now.lane ≡ record before.lane { taken = before.lane.taken ++ map (λ a. a.piece) answered }
    pub ran : AnswersAll HasAnswered before.row answered now.row
    pub went : HasGone turns deeds before.pass now.pass
    pub said_all : messages_of deeds ≡ map (λ a. a.message) answered
