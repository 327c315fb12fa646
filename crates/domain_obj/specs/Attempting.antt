-- What a call does in one turn until it is admitted.
use Rattle.std.specs.Prelude.{◌≡◌, ◌⊎◌, ◌<◌, ◌≤◌, ◌==◌, ℕ, Option, if◌then◌else◌}
use Rattle.domain_spec.specs.Types.{Call, Who}
use Rattle.domain_spec.specs.Types.call
use Rattle.domain_spec.specs.declared.core_step.First.{First}
use Rattle.domain_obj.specs.InTurn.{GivesUp, IsNotRenewed, IsRenewed, LooksIn}
use Rattle.domain_core.specs.Celled.{Celled, KeepsLink}
use Rattle.domain_core.specs.Linked.{killed_link}
use Rattle.domain_obj.specs.declared.attempting.Attempt.{Attempt}
use Rattle.domain_obj.specs.declared.attempting.Attempt.TheVariants as attempt
use Rattle.domain_core.specs.declared.ticket.Look.TheVariants as look
use Rattle.job_rules.specs.declared.record.JobRecord.{JobRecord}

-- a Destroy that its first look found excluded ended the guest that is there, and no other call does
abbrev pub killed_at_first : Call → ℕ → Celled → Celled
killed_at_first call.Destroy looks c = if looks == 1 then record c { link = killed_link c.link } else c
killed_at_first d looks c = c

-- its turns or its looks are not enough to give up
abbrev pub IsEarly : ℕ → ℕ → Type 0
IsEarly turns looks = (turns < 30) ⊎ (looks < 30)

-- it waits: it looked, was excluded, and ended the guest where it has to
module _ (G M E Z : Type 0) where
  pub record WaitsIn (n : ℕ) (who : Who) (d : Call) (f : First) (turns : ℕ) (boot : Option ℕ) (old new : Celled) : Type 0 where
    pub held : JobRecord
    pub looks : ℕ
    pub mid : Celled
    pub looked : LooksIn {G = G} {M = M} {E = E} {Z = Z} n who d f old mid (look.Excluded held boot looks)
    pub link : KeepsLink old mid
    pub killed : new ≡ killed_at_first d looks mid
    pub early : IsEarly turns looks

module _ {G M E Z : Type 0} where
  -- it looked, and where it was excluded it waits, or gave up in its thirtieth turn or a later one
  abbrev pub Attempts : ℕ → Who → Call → First → ℕ → Celled → Celled → Attempt G M E Z → Type 0
  Attempts n who d f turns old new (attempt.Done r) = LooksIn {G = G} {M = M} {E = E} {Z = Z} n who d f old new (look.Done r)
  Attempts n who d f turns old new (attempt.Away t x) = LooksIn n who d f old new (look.Away t x)
  Attempts n who d f turns old new (attempt.Waits boot) = WaitsIn G M E Z n who d f turns boot old new
  Attempts n who d f turns old new (attempt.GaveUp held) =
      (mid : Celled) × (boot : Option ℕ) × (looks : ℕ) × LooksIn {G = G} {M = M} {E = E} {Z = Z} n who d f old mid (look.Excluded held boot looks) × GivesUp n who d mid new × (30 ≤ turns)
  Attempts n who d f turns old new attempt.WaitersFull = (waiting : ℕ) × LooksIn {G = G} {M = M} {E = E} {Z = Z} n who d f old new (look.WaitersFull waiting)
  Attempts n who d f turns old new attempt.NoMemory = LooksIn {G = G} {M = M} {E = E} {Z = Z} n who d f old new look.NoMemory

  -- a long chapter ended, and then it looked; or there was no memory for the next chapter
  abbrev pub Tries : ℕ → Who → Call → First → ℕ → Celled → Celled → Attempt G M E Z → Type 0
  Tries n who d f turns old new attempt.NoMemory =
      IsNotRenewed n who old new ⊎ ((mid : Celled) × IsRenewed n who old mid × Attempts n who d f turns mid new attempt.NoMemory)
  Tries n who d f turns old new other = (mid : Celled) × IsRenewed n who old mid × Attempts n who d f turns mid new other
