-- What a call does in one turn that begins an operation or takes one up, until it is admitted.
use Rattle.std.specs.Prelude.{◌≡◌, ◌⊎◌, ◌≤◌, ℕ, Option}
use Rattle.domain_spec.specs.Types.{Call, Who}
use Rattle.domain_spec.specs.Cell.{share_of}
use Rattle.domain_obj.specs.InTurn.{GivesUp, IsNotRenewed, IsRenewed}
use Rattle.domain_core.specs.Celled.{Celled, KeepsOtherShares, cell_in}
use Rattle.domain_core.specs.Core.{excluded_so}
use Rattle.domain_core.specs.Shares.{IsFree}
pub use Rattle.domain_core.specs.Entering.{LooksFor, Operates}
use Rattle.domain_obj.specs.declared.operating.entering.Entry.{Entry}
use Rattle.domain_obj.specs.declared.operating.entering.Entry.TheVariants as entry
use Rattle.job_rules.specs.declared.record.JobRecord.{JobRecord}
use Rattle.domain_core.specs.OfTurns.{OperationLook}
use Rattle.domain_core.specs.OfTurns.operation_look_variants as look
use Rattle.domain_core.specs.OfShares.{queue_by}

-- its look, in the turn of its cell
pub record LooksForIn (n : ℕ) (who : Who) (d : Call) (old new : Celled) (result : OperationLook) : Type 0 where
  pub looks : LooksFor n who d old.core.turning new.core.turning result
  pub queue : (cell_in new).queue ≡ queue_by result (cell_in old).queue n who
  pub excluded : new.core.excluded ≡ excluded_so who d result
  pub out : new.out ≡ old.out
  pub others : KeepsOtherShares n old new

-- nothing is open for the number, which waits as this caller or does not wait
abbrev pub MayEnter : ℕ → Who → Celled → Type 0
MayEnter n who c = IsFree (share_of (cell_in c) n) who

-- it looked, and where it was excluded it waits, or gave up in its thirtieth turn or a later one
abbrev pub Enters : ℕ → Who → Call → ℕ → Celled → Celled → Entry → Type 0
Enters n who d turns old new entry.Begun = LooksForIn n who d old new look.Begun
Enters n who d turns old new (entry.Done r) = LooksForIn n who d old new (look.Done r)
Enters n who d turns old new entry.Waits = (held : JobRecord) × (boot : Option ℕ) × (looks : ℕ) × LooksForIn n who d old new (look.Excluded held boot looks)
Enters n who d turns old new (entry.GaveUp held) =
    (mid : Celled) × (boot : Option ℕ) × (looks : ℕ) × LooksForIn n who d old mid (look.Excluded held boot looks) × GivesUp n who d mid new × (30 ≤ turns)
Enters n who d turns old new entry.WaitersFull = (waiting : ℕ) × LooksForIn n who d old new (look.WaitersFull waiting)
Enters n who d turns old new entry.NoMemory = LooksForIn n who d old new look.NoMemory

-- a long chapter ended, and then it looked; or there was no memory for the next chapter
abbrev pub EntersAnew : ℕ → Who → Call → ℕ → Celled → Celled → Entry → Type 0
EntersAnew n who d turns old new entry.NoMemory =
    IsNotRenewed n who old new ⊎ ((mid : Celled) × IsRenewed n who old mid × Enters n who d turns mid new entry.NoMemory)
EntersAnew n who d turns old new other = (mid : Celled) × IsRenewed n who old mid × Enters n who d turns mid new other
