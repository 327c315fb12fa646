-- The calls of a command, over a connection: each request of its plan in turn, up to the first that is not done.
use Rattle.std.specs.Prelude.{◌≡◌, ◌⊎◌, ℕ, Bool, true, false, List, [], ◌∷◌, ◌++◌, Option, None, Some}
use Rattle.virt_types.specs.Below.types_base.declared.memory.OrNoMemory.TheVariants as or
use Rattle.virt_types.specs.declared.object_request.DomainRequest.TheVariants as ask
use Rattle.virt_types.specs.declared.request.Request.{Request}
use Rattle.virt_types.specs.declared.request.Request.TheVariants as request
use Rattle.virt_types.specs.declared.value.Reply.{Reply}
use Rattle.virt_types.specs.declared.value.Reply.TheVariants as reply
use Rattle.virt_types.specs.declared.value.Value.{Value}
use Rattle.command_spec.specs.declared.command.Job.{Job}
use Rattle.virsh_plan.specs.Plan.{next_request}
use Rattle.rpc_client.specs.Calling.{Answers, Connection, FailsOrNoMemory}
use Rattle.rpc_client.specs.declared.fault.ClientFault.{ClientFault}
use Rattle.virsh.specs.declared.stop.Stop.{Stop}
use Rattle.virsh.specs.declared.stop.Stop.TheVariants as stop

-- events come after a registration alone
abbrev pub brings_events : Request → Bool
brings_events (request.OnDomain domain ask.EventRegister) = true
brings_events asked = false

-- the next request of a job, whose file has this text
abbrev pub next_of : Job → List ℕ → List Value → Option Request
next_of job xml values = next_request job.command job.option xml values

-- why a reply gives no value, where an event has come or not
abbrev pub IsNoValue : Bool → Request → Reply → Stop → Type 0
IsNoValue has_event asked said (stop.Refused why) = said ≡ reply.No why
IsNoValue has_event asked said stop.Link = (v : Value) × (said ≡ reply.Ok v) × (brings_events asked ≡ false) × (has_event ≡ true)
IsNoValue has_event asked said stop.NoMemory = Unit {0}

module _ {S K : Type 0} (left : S → Option (List ℕ)) (source_faults : S → ℕ) (held : K → Option (List ℕ)) (sink_faults : K → ℕ) where
  -- no event came that nobody asked for
  abbrev pub IsQuiet : Request → Connection S K → Type 0
  IsQuiet asked c = brings_events asked ≡ false → c.inflow.events ≡ []

  -- the reply to the call is a value
  pub record IsAnswered (asked : Request) (old new : Connection S K) (v : Value) : Type 0 where
    pub answers : Answers left source_faults held sink_faults asked old new (reply.Ok v)
    pub quiet : IsQuiet asked new

  -- the job's calls after these values were answered by those
  unfoldable pub Asked : Job → List ℕ → List Value → Connection S K → List Value → Connection S K → Type 0
  Asked job xml done old [] new = new ≡ old
  Asked job xml done old (v ∷ values) new = (asked : Request) × (then : Connection S K)
      × (next_of job xml done ≡ Some asked) × IsAnswered asked old then v × Asked job xml (done ++ v ∷ []) then values new

  -- all calls of the job were answered by these values
  pub record IsAsked (job : Job) (xml : List ℕ) (old : Connection S K) (values : List Value) (new : Connection S K) : Type 0 where
    pub answered : Asked job xml [] old values new
    pub all : next_of job xml values ≡ None

  -- the daemon refused a call, or what came is no answer to it
  abbrev pub IsBreak : Request → Connection S K → Connection S K → Type 0
  IsBreak asked old new = ((why : ClientFault) × FailsOrNoMemory left source_faults held sink_faults asked old new (or.Fault why))
      ⊎ ((v : Value) × Answers left source_faults held sink_faults asked old new (reply.Ok v) × (IsQuiet asked new → ⊥))

  abbrev pub IsStop : Request → Connection S K → Connection S K → Stop → Type 0
  IsStop asked old new (stop.Refused why) = Answers left source_faults held sink_faults asked old new (reply.No why)
  IsStop asked old new stop.Link = IsBreak asked old new
  IsStop asked old new stop.NoMemory = Unit {0}

  -- some calls of the job were answered, and the next one was not done
  pub record Stops (job : Job) (xml : List ℕ) (old new : Connection S K) (why : Stop) : Type 0 where
    pub values : List Value
    pub then : Connection S K
    pub answered : Asked job xml [] old values then
    pub asked : Request
    pub next : next_of job xml values ≡ Some asked
    pub stop_is : IsStop asked then new why

  -- so it is, unless memory ran out
  abbrev pub StopsOrNoMemory : Job → List ℕ → Connection S K → Connection S K → Stop → Type 0
  StopsOrNoMemory job xml old new stop.NoMemory = Unit {0}
  StopsOrNoMemory job xml old new why = Stops job xml old new why
