-- One turn of a call that is not admitted yet: what it leaves of the pass.
use Rattle.std.specs.Prelude.{◌≡◌, ◌≤◌, ℕ, List, [], ◌∷◌, is_some, length, slice_get, Bool, false, Option, None, Some}
use Rattle.history_spec.specs.Begins.{Begins}
use Rattle.history_spec.specs.Chapter.{tagged}
use Rattle.virt_types.specs.Below.types_base.declared.caller.Front.{Front}
use Rattle.domain_spec.specs.Types.{Answer, Ask, Call, RefusalCode, Reply, Transition, Who}
use Rattle.domain_spec.specs.Types.code
use Rattle.domain_spec.specs.declared.core_step.First.{First}
use Rattle.domain_spec.specs.declared.mark.HeldJobs.{HeldJobs}
use Rattle.domain_spec.specs.declared.mark.Mark.{Mark}
use Rattle.domain_spec.specs.declared.mark.Mark.TheVariants as mark
use Rattle.domain_spec.specs.declared.open.OpenJob.{OpenJob}
use Rattle.domain_spec.specs.Call.{job_of}
use Rattle.domain_spec.specs.Cell.{OpenCall}
use Rattle.domain_spec.specs.Chapter.{rising_number}
use Rattle.domain_spec.specs.Open.{IsKnownBoot}
use Rattle.domain_spec.specs.Reading.{boots_of, live_boot}
use Rattle.domain_obj.specs.Finishing.{IsAway, IsClosed}
use Rattle.domain_obj.specs.InTurn.{DomainPass}
use Rattle.domain_obj.specs.Placing.{IsPlaced}
use Rattle.domain_obj.specs.Running.{DomainHistory, Goes, standing_after}
use Rattle.domain_core.specs.Celled.{CellShare}
use Rattle.domain_core.specs.Shares.{IsFree, KeepsFirst}
use Rattle.domain_obj.specs.Looking.{KnowsFirst}
use Rattle.domain_obj.specs.declared.attempting.Attempt.{Attempt}
use Rattle.domain_obj.specs.declared.attempting.Attempt.TheVariants as attempt
use Rattle.domain_core.specs.OfTurns.{boot_first}
use Rattle.domain_core.specs.OfShares.{RestStays}
use Rattle.domain_core.specs.OfShares.{told}

-- a pass that has a ticket left may look
pub record IsReadyToLook (who : Who) (d : Call) (f : First) (pass : DomainPass) : Type 0 where
  pub free : pass.spent ≡ false → IsFree pass.share.kept who
  pub keeps : pass.spent ≡ false → KeepsFirst pass.share.kept who d f
  pub known : KnowsFirst f pass.seen

-- the same, and who waits by the number
abbrev pub waiting_as : Option Who → CellShare → CellShare
waiting_as waits s = record s { kept = record s.kept { waits = waits } }

-- the call as it was admitted
abbrev pub job_let_in : ℕ → Who → Call → Option ℕ → OpenJob
job_let_in n who d boot = record { number = n; who = who; job = job_of d; call = d; boot = boot; before = None }

-- the history as it was right before this Admit, which carries this boot
pub record WasLetIn (f : First) (chapter : ℕ) (boot : Option ℕ) (admit : Mark ℕ) (before after : DomainPass) : Type 0 where
  pub admitted : DomainHistory
  pub chapter_is : admitted.chapter ≡ chapter
  pub since : Begins rising_number before.seen admitted
  pub until : Begins rising_number admitted after.seen
  pub there : chapter ≡ after.seen.chapter → slice_get after.seen.marks (length admitted.marks) ≡ Some admit
  pub carries : boot ≡ boot_first f (live_boot (standing_after admitted).state)

-- it was admitted and done; nobody was asked
pub record IsDoneAtOnce (who : Who) (d : Call) (f : First) (before after : DomainPass) (r : Reply) (place : Front) : Type 0 where
  pub fresh : before.spent ≡ false
  pub chapter : ℕ
  pub boot : Option ℕ
  pub asks : List Ask
  pub answers : List Answer
  pub events : List Transition
  pub goes :
      Goes 1 (tagged chapter (mark.Admit before.number who (job_of d) d boot ∷ mark.Done before.number who d boot asks answers r events ∷ [])) before after
  pub none_told : told asks answers ≡ []
  pub share : after.share ≡ waiting_as None before.share
  pub placed : IsPlaced place chapter (mark.Done before.number who d boot asks answers r events) after
  pub let_in : WasLetIn f chapter boot (mark.Admit before.number who (job_of d) d boot) before after

-- it was admitted, and asks this; nobody was asked before
pub record IsAwayNow (who : Who) (d : Call) (f : First) (before after : DomainPass) (x : Ask) (sent : Bool) : Type 0 where
  pub fresh : before.spent ≡ false
  pub chapter : ℕ
  pub boot : Option ℕ
  pub call : OpenCall
  pub goes : Goes 1 (tagged chapter (mark.Admit before.number who (job_of d) d boot ∷ [])) before after
  pub is_open : after.share.kept.call ≡ Some call
  pub job : call.job ≡ job_let_in before.number who d boot
  pub none_told : told call.asks call.answers ≡ []
  pub away : IsAway after x sent
  pub in_chapter : after.share.chapter ≡ Some chapter
  pub was_closed : IsClosed before
  pub waits : after.share.kept.waits ≡ None
  pub rest : RestStays before.share.kept after.share.kept
  pub let_in : WasLetIn f chapter boot (mark.Admit before.number who (job_of d) d boot) before after

-- it waits, and this boot is live
pub record WaitsNow (who : Who) (before after : DomainPass) (boot : Option ℕ) : Type 0 where
  pub fresh : before.spent ≡ false
  pub goes : Goes 1 [] before after
  pub share : after.share ≡ waiting_as (Some who) before.share
  pub live : live_boot (standing_after after.seen).state ≡ boot
  pub counted : IsKnownBoot (boots_of (standing_after after.seen).state) boot

-- it was refused, having found these jobs held
pub record IsRefusedNow (why : RefusalCode) (held : HeldJobs) (who : Who) (d : Call) (before after : DomainPass) (place : Front) : Type 0 where
  pub fresh : before.spent ≡ false
  pub chapter : ℕ
  pub goes : Goes 1 (tagged chapter (mark.Refused before.number who d why held ∷ [])) before after
  pub share : after.share ≡ waiting_as None before.share
  pub placed : IsPlaced place chapter (mark.Refused before.number who d why held) after

-- it left no mark, and waits no more
pub record IsLeftNow (before after : DomainPass) : Type 0 where
  pub fresh : before.spent ≡ false
  pub goes : Goes 1 [] before after
  pub share : after.share ≡ waiting_as None before.share

-- what a turn leaves of the pass of a call that was not admitted before it
module _ {G M E Z : Type 0} where
  abbrev pub HasTried : Who → Call → First → ℕ → DomainPass → DomainPass → Front → Attempt G M E Z → Type 0
  HasTried who d f turns before after place (attempt.Done r) = IsDoneAtOnce who d f before after r place
  HasTried who d f turns before after place (attempt.Away t x) = IsAwayNow who d f before after x (is_some t.monitor)
  HasTried who d f turns before after place (attempt.Waits boot) = WaitsNow who before after boot
  HasTried who d f turns before after place (attempt.GaveUp held) =
      (jobs : HeldJobs) × IsRefusedNow code.OperationTimeout jobs who d before after place × (jobs.active ≡ held.active) × (jobs.op ≡ held.op) × (30 ≤ turns)
  HasTried who d f turns before after place attempt.WaitersFull = (jobs : HeldJobs) × IsRefusedNow code.TooManyWaiting jobs who d before after place
  HasTried who d f turns before after place attempt.NoMemory = IsLeftNow before after
