-- How a job ends over a connection: what is on standard output, what is said on standard error, and the status.
use Rattle.std.specs.Prelude.{◌≡◌, ◌⊎◌, ◌<◌, ℕ, List, [], Option, None, Some, Result, Ok, Err}
use Rattle.std.specs.Io.KnownBytes.{Appends}
use Rattle.virt_types.specs.Below.types_base.declared.refusal.Refusal.{Refusal}
use Rattle.virt_types.specs.declared.reference.DomainRef.{DomainRef}
use Rattle.virt_types.specs.declared.value.Note.{Note}
use Rattle.virt_types.specs.declared.value.Value.{Value}
use Rattle.command_spec.specs.Output.{Prints}
use Rattle.command_spec.specs.Printed.{error_text}
use Rattle.command_spec.specs.declared.command.Job.{Job}
use Rattle.rpc_client.specs.Calling.{Connection}
use Rattle.virsh.specs.Calls.{IsAsked, Stops}
use Rattle.virsh.specs.Listening.{Hears, IsUnheard, heard_of, still_wanted}
use Rattle.virsh.specs.Outside.{Outside, with_line}
use Rattle.virsh.specs.Printing.{IsCutOff, IsPut}
use Rattle.virsh.specs.Said.{link_line, memory_line}
use Rattle.virsh.specs.declared.stop.Stop.{Stop}
use Rattle.virsh.specs.declared.stop.Stop.TheVariants as stop

-- the answers of a job have a text
abbrev pub IsPrintable : Job → List Value → Type 0
IsPrintable job values = (text : List ℕ) × Prints job.command job.option values [] text

-- the status, and the line that is said with it
abbrev pub SaysLine : {S K O : Type 0} → List ℕ → ℕ → Outside S K O → Outside S K O → ℕ → Type 0
SaysLine line status was is code = (code ≡ status) × (is ≡ with_line line was)

-- those of a stop: a refusal for whose line there is no memory is that
abbrev pub SaysEnd : {S K O : Type 0} → Result (Unit {0}) Stop → Outside S K O → Outside S K O → ℕ → Type 0
SaysEnd (Ok done) was is code = (code ≡ 0) × (is ≡ was)
SaysEnd (Err (stop.Refused why)) was is code = SaysLine (error_text why) 1 was is code ⊎ SaysLine memory_line 12 was is code
SaysEnd (Err stop.Link) was is code = SaysLine link_line 5 was is code
SaysEnd (Err stop.NoMemory) was is code = SaysLine memory_line 12 was is code

module _ {S K O : Type 0} (left : S → Option (List ℕ)) (source_faults : S → ℕ) (held : K → Option (List ℕ)) (sink_faults : K → ℕ)
    (shown : O → Option (List ℕ)) (out_faults : O → ℕ) where
  -- the events that came, where the job waits for some
  abbrev pub HearsOf : Option (DomainRef × ℕ) → Connection S K → List Note → Connection S K → Type 0
  HearsOf None old notes new = (notes ≡ []) × (new ≡ old)
  HearsOf (Some (d, count)) old notes new = Hears left source_faults d old notes new

  -- no more are wanted
  abbrev pub HasEnough : Option (DomainRef × ℕ) → List Note → Type 0
  HasEnough None notes = Unit {0}
  HasEnough (Some (d, count)) notes = still_wanted count notes ≡ 0

  -- the text of the answers, and the events that the job waits for, were printed
  pub record Tells (job : Job) (values : List Value) (old new : Connection S K) (out after : O) : Type 0 where
    pub notes : List Note
    pub heard : HearsOf (heard_of job.command values) old notes new
    pub enough : HasEnough (heard_of job.command values) notes
    pub text : List ℕ
    pub prints : Prints job.command job.option values notes text
    pub put : IsPut shown out_faults text out after

  -- standard output failed before the text, with the events that came by then, was whole
  pub record IsCutShort (job : Job) (values : List Value) (old new : Connection S K) (out after : O) : Type 0 where
    pub notes : List Note
    pub heard : HearsOf (heard_of job.command values) old notes new
    pub text : List ℕ
    pub prints : Prints job.command job.option values notes text
    pub cut : IsCutOff shown out_faults text out after

  -- the events before are printed, and the next one does not come
  pub record IsSilence (job : Job) (values : List Value) (old new : Connection S K) (out after : O) : Type 0 where
    pub domain : DomainRef
    pub count : ℕ
    pub waits : heard_of job.command values ≡ Some (domain, count)
    pub notes : List Note
    pub then : Connection S K
    pub heard : Hears left source_faults domain old notes then
    pub wanted : 0 < still_wanted count notes
    pub unheard : IsUnheard left source_faults domain then new
    pub text : List ℕ
    pub prints : Prints job.command job.option values notes text
    pub put : IsPut shown out_faults text out after

  -- all calls were answered, and their text is printed
  pub record IsDone (job : Job) (xml : List ℕ) (old new : Connection S K) (out after : O) : Type 0 where
    pub values : List Value
    pub then : Connection S K
    pub asked : IsAsked left source_faults held sink_faults job xml old values then
    pub tells : Tells job values then new out after

  -- all calls were answered, and their text is not printed whole
  pub record IsUntold (job : Job) (xml : List ℕ) (old new : Connection S K) (out after : O) : Type 0 where
    pub values : List Value
    pub then : Connection S K
    pub asked : IsAsked left source_faults held sink_faults job xml old values then
    pub untold : IsCutShort job values then new out after ⊎ IsSilence job values then new out after

  -- a call was not answered, and nothing is printed
  pub record IsBroken (job : Job) (xml : List ℕ) (old new : Connection S K) (out after : O) : Type 0 where
    pub stops : Stops left source_faults held sink_faults job xml old new stop.Link
    pub same : after ≡ out

  -- 1: the daemon refused a call, which is said, and nothing is printed
  pub record IsRefusal (job : Job) (xml : List ℕ) (old new : Connection S K) (out after : O) (said : Option (List ℕ)) : Type 0 where
    pub why : Refusal
    pub said_is : said ≡ Some (error_text why)
    pub stops : Stops left source_faults held sink_faults job xml old new (stop.Refused why)
    pub same : after ≡ out

  -- 5: the connection or standard output failed, or what came is no answer
  abbrev pub IsLinkFault : Job → List ℕ → Connection S K → Connection S K → O → O → Type 0
  IsLinkFault job xml old new out after = IsBroken job xml old new out after ⊎ IsUntold job xml old new out after

  -- 12: there was no memory; what was printed by then is still there
  abbrev pub IsOutOfMemory : O → O → Type 0
  IsOutOfMemory out after = (text : List ℕ) × Appends (shown out) (shown after) text

  -- what became of the text and the events of a job whose calls were answered
  abbrev pub HasTold : Job → List Value → Connection S K → Connection S K → O → O → Result (Unit {0}) Stop → Type 0
  HasTold job values old new out after (Ok done) = Tells job values old new out after
  HasTold job values old new out after (Err (stop.Refused why)) = ⊥
  HasTold job values old new out after (Err stop.Link) = IsCutShort job values old new out after ⊎ IsSilence job values old new out after
  HasTold job values old new out after (Err stop.NoMemory) = IsOutOfMemory out after

  -- what became of a job
  abbrev pub HasRun : Job → List ℕ → Connection S K → Connection S K → O → O → Result (Unit {0}) Stop → Type 0
  HasRun job xml old new out after (Ok done) = IsDone job xml old new out after
  HasRun job xml old new out after (Err (stop.Refused why)) = Stops left source_faults held sink_faults job xml old new (stop.Refused why) × (after ≡ out)
  HasRun job xml old new out after (Err stop.Link) = IsLinkFault job xml old new out after
  HasRun job xml old new out after (Err stop.NoMemory) = IsOutOfMemory out after

  -- how a job ends, by its status, and the line that is said with it, if any
  abbrev pub Ends : Job → List ℕ → Connection S K → Connection S K → O → O → Option (List ℕ) → ℕ → Type 0
  Ends job xml old new out after said code =
      ((code ≡ 0) × (said ≡ None) × IsDone job xml old new out after)
      ⊎ ((code ≡ 1) × IsRefusal job xml old new out after said)
      ⊎ ((code ≡ 5) × (said ≡ Some link_line) × IsLinkFault job xml old new out after)
      ⊎ ((code ≡ 12) × (said ≡ Some memory_line) × IsOutOfMemory out after)
