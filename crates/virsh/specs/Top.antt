-- What the client does for its words, and what its status means.
use Rattle.std.specs.Prelude.{◌≡◌, ◌⊎◌, ◌<◌, ℕ, List, [], length, Option, None, Some, codes, Ok}
use Rattle.std.specs.Str.{IsUtf8}
use Rattle.command_spec.specs.Lines.{job_of}
use Rattle.command_spec.specs.Reading.{Word}
use Rattle.command_spec.specs.declared.command.Command.{Command}
use Rattle.command_spec.specs.declared.command.Command.TheVariants as command
use Rattle.command_spec.specs.declared.command.Job.{Job}
use Rattle.command_spec.specs.declared.form.Flag.{Flag}
use Rattle.command_spec.specs.declared.form.Flag.TheVariants as flag
use Rattle.virt_types.specs.Limits.{most_text_bytes}
use Rattle.rpc_client.specs.Calling.{Connection, fresh}
use Rattle.virsh.specs.Ends.{Ends}
use Rattle.virsh.specs.Outside.{IsUnanswered, IsUnread, Outside, with_back, with_line, with_made, with_out, with_read, with_said}
use Rattle.virsh.specs.Said.{bad_file_line, file_line, link_line, memory_line}

-- `events` and `--verbose` are not served yet
abbrev pub IsServedCommand : Command → Type 0
IsServedCommand (command.Events count listens) = ⊥
IsServedCommand asked = Unit {0}

abbrev pub IsServedOption : Option Flag → Type 0
IsServedOption (Some flag.Verbose) = ⊥
IsServedOption option = Unit {0}

-- the words ask for this job, which is served
pub record AsksFor (words : List Word) (job : Job) : Type 0 where
  pub job_is : job_of words ≡ Ok job
  pub command : IsServedCommand job.command
  pub option : IsServedOption job.option

-- the file whose text is sent, where there is one
abbrev pub file_of : Command → Option (List ℕ)
file_of (command.File verb path) = Some path
file_of (command.DomainFile verb name path) = Some path
file_of (command.VolCreate pool path) = Some path
file_of asked = None

-- the daemon's address, where the words have one or not
abbrev pub address_or : Option (List ℕ) → List ℕ
address_or None = codes "127.0.0.1:16509"
address_or (Some address) = address

abbrev pub address_of : Job → List ℕ
address_of job = address_or job.address

-- the content of a file is no text that may be sent
abbrev pub IsBadFile : List ℕ → Type 0
IsBadFile content = (IsUtf8 content → ⊥) ⊎ (most_text_bytes < length content)

-- 12 before anything was dialed
abbrev pub IsStarved : {S K O : Type 0} → Outside S K O → Outside S K O → ℕ → Type 0
IsStarved was is code = (code ≡ 12) × (is ≡ with_line memory_line was)

module _ {S K O : Type 0} (left : S → Option (List ℕ)) (source_faults : S → ℕ) (held : K → Option (List ℕ)) (sink_faults : K → ℕ)
    (shown : O → Option (List ℕ)) (out_faults : O → ℕ) where
  -- the job's calls go over the ends of a connection, which come back
  pub record IsConnected (job : Job) (xml : List ℕ) (ends : S × K) (was is : Outside S K O) (code : ℕ) : Type 0 where
    pub client : Connection S K
    pub after : O
    pub said : Option (List ℕ)
    pub ended : Ends left source_faults held sink_faults shown out_faults job xml (fresh ends.0 ends.1) client was.out after said code
    pub outside : is ≡ with_back (client.inflow.source, client.sink) (with_said said (with_out after was))

  -- or nothing goes over them, for want of memory
  abbrev pub UsesEnds : Job → List ℕ → S × K → Outside S K O → Outside S K O → ℕ → Type 0
  UsesEnds job xml ends was is code = IsConnected job xml ends was is code ⊎ ((code ≡ 12) × (is ≡ with_back ends (with_line memory_line was)))

  -- a connection is made with the daemon, and used
  pub record Dialed (job : Job) (xml : List ℕ) (was is : Outside S K O) (code : ℕ) : Type 0 where
    pub ends : S × K
    pub uses : UsesEnds job xml ends (with_made (address_of job) ends was) is code

  -- 5: nobody answers at the address
  pub record IsAlone (was is : Outside S K O) (code : ℕ) : Type 0 where
    pub then : Outside S K O
    pub unanswered : IsUnanswered was then
    pub said : is ≡ with_line link_line then
    pub code_is : code ≡ 5

  -- the job is done with this text, or why not
  abbrev pub DoesWith : Job → List ℕ → Outside S K O → Outside S K O → ℕ → Type 0
  DoesWith job xml was is code =
      Dialed job xml was is code ⊎ IsAlone was is code ⊎ IsStarved was is code

  -- 4: the file could not be read, and nothing is dialed
  pub record HasNoFile (was is : Outside S K O) (code : ℕ) : Type 0 where
    pub then : Outside S K O
    pub unread : IsUnread was then
    pub said : is ≡ with_line file_line then
    pub code_is : code ≡ 4

  -- the text of a file is sent; or the file has none (3), and nothing is dialed
  abbrev pub DoesContent : Job → List ℕ → Outside S K O → Outside S K O → ℕ → Type 0
  DoesContent job content was is code = (IsBadFile content × (code ≡ 3) × (is ≡ with_line bad_file_line was)) ⊎ DoesWith job content was is code

  -- the file was read, and then its text is sent
  pub record HasFile (job : Job) (name : List ℕ) (was is : Outside S K O) (code : ℕ) : Type 0 where
    pub content : List ℕ
    pub does : DoesContent job content (with_read name content was) is code

  -- by whether the job has a file
  abbrev pub DoesFile : Job → Option (List ℕ) → Outside S K O → Outside S K O → ℕ → Type 0
  DoesFile job None was is code = DoesWith job [] was is code
  DoesFile job (Some name) was is code = HasFile job name was is code ⊎ HasNoFile was is code ⊎ IsStarved was is code

  -- what becomes of a job
  abbrev pub Does : Job → Outside S K O → Outside S K O → ℕ → Type 0
  Does job was is code = DoesFile job (file_of job.command) was is code
