-- What becomes of a call over a domain, from its first look to its end.
use Rattle.std.specs.Prelude.{◌≡◌, ◌≤◌, ℕ, List, [], ◌∷◌, ◌++◌, length, slice_get, Option, Some}
use Rattle.history_spec.specs.Begins.{Begins}
use Rattle.history_spec.specs.Chapter.{tagged}
use Rattle.virt_types.specs.Below.types_base.declared.caller.Front.{Front}
use Rattle.domain_spec.specs.Types.{Answer, Ask, Call, Reply, Transition, Who}
use Rattle.domain_spec.specs.Types.call
use Rattle.domain_spec.specs.Types.code
use Rattle.domain_spec.specs.declared.mark.Mark.{Mark}
use Rattle.domain_spec.specs.declared.mark.Mark.TheVariants as mark
use Rattle.domain_spec.specs.Call.{job_of}
use Rattle.domain_spec.specs.Cell.{OpenCall}
use Rattle.domain_spec.specs.Chapter.{rising_number}
use Rattle.domain_spec.specs.Reading.{live_boot}
use Rattle.domain_obj.specs.Asking.{IsAsked}
use Rattle.domain_obj.specs.InTurn.{DomainPass}
use Rattle.domain_obj.specs.Placing.{IsPlaced}
use Rattle.domain_obj.specs.Refusing.{IsLeftUndone, IsRefusedSo, IsSpentWaiting}
use Rattle.domain_obj.specs.Running.{DomainHistory, Goes, IsSpent, standing_after}
use Rattle.domain_obj.specs.Turned.{job_let_in}
use Rattle.domain_obj.specs.declared.ending.Called.{Called}
use Rattle.domain_obj.specs.declared.ending.Called.TheVariants as called
use Rattle.domain_core.specs.OfShares.{told}

-- the boot that an Admit carries was live at the end of `found`, which goes on from what the pass had seen at first, and
-- right after which the Admit comes; only that of a Destroy may be a beginning of that
pub record CarriesBoot (d : Call) (chapter : ℕ) (boot : Option ℕ) (admit : Mark ℕ) (before after : DomainPass) : Type 0 where
  pub found : DomainHistory
  pub admitted : DomainHistory
  pub since : Begins rising_number before.seen found
  pub between : Begins rising_number found admitted
  pub until : Begins rising_number admitted after.seen
  pub live : live_boot (standing_after found).state ≡ boot
  pub at_once : (d ≡ call.Destroy → ⊥) → found ≡ admitted
  pub chapter_is : admitted.chapter ≡ chapter
  pub there : chapter ≡ after.seen.chapter → slice_get after.seen.marks (length admitted.marks) ≡ Some admit

-- the call was admitted and done, by these two marks of its pass and no others; the desk was asked just what the Done says, but
-- for what found no memory; and what is kept for the pass is what was
pub record IsDone (who : Who) (d : Call) (before after : DomainPass) (report now : List (Ask × Answer)) (r : Reply) (place : Front) : Type 0 where
  pub turns : ℕ
  pub chapter : ℕ
  pub boot : Option ℕ
  pub asks : List Ask
  pub answers : List Answer
  pub events : List Transition
  pub goes :
      Goes turns (tagged chapter (mark.Admit before.number who (job_of d) d boot ∷ mark.Done before.number who d boot asks answers r events ∷ [])) before after
  pub reported : now ≡ report ++ told asks answers
  pub share : after.share ≡ before.share
  pub placed : IsPlaced place chapter (mark.Done before.number who d boot asks answers r events) after
  pub carries : CarriesBoot d chapter boot (mark.Admit before.number who (job_of d) d boot) before after

-- the call was admitted and asked, and then no ticket was left: the desk was asked what the call was told by then, and once more
pub record IsSpentAway (who : Who) (d : Call) (before after : DomainPass) (report now : List (Ask × Answer)) : Type 0 where
  pub turns : ℕ
  pub chapter : ℕ
  pub boot : Option ℕ
  pub last : DomainPass
  pub goes : Goes turns (tagged chapter (mark.Admit before.number who (job_of d) d boot ∷ [])) before last
  pub call : OpenCall
  pub is_open : last.share.kept.call ≡ Some call
  pub job : call.job ≡ job_let_in before.number who d boot
  pub asked : Ask
  pub answer : Answer
  pub asks : IsAsked last asked
  pub reported : now ≡ report ++ (told call.asks call.answers ++ told (asked ∷ []) (answer ∷ []))
  pub carries : CarriesBoot d chapter boot (mark.Admit before.number who (job_of d) d boot) before last
  pub spent : IsSpent last after

-- the call is refused, after 30 turns of its own at least
pub record IsTimedOut (who : Who) (d : Call) (before after : DomainPass) (report now : List (Ask × Answer)) (r : Reply) (place : Front) : Type 0 where
  pub refused : IsRefusedSo code.OperationTimeout who d before after report now r place
  pub turns : 30 ≤ refused.turns

-- what became of the call
abbrev pub HasCalled : Who → Call → DomainPass → DomainPass → List (Ask × Answer) → List (Ask × Answer) → Called → Type 0
HasCalled who d before after report now (called.Done r place) = IsDone who d before after report now r place
HasCalled who d before after report now (called.TimedOut r place) = IsTimedOut who d before after report now r place
HasCalled who d before after report now (called.WaitersFull r place) = IsRefusedSo code.TooManyWaiting who d before after report now r place
HasCalled who d before after report now called.NoMemory = IsLeftUndone before after report now
HasCalled who d before after report now called.Spent = IsSpentWaiting before after report now
HasCalled who d before after report now called.SpentAway = IsSpentAway who d before after report now
