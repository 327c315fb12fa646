-- A call that is refused since its job is excluded.
use Rattle.std.specs.Prelude.{◌≡◌, ℕ, List, [], ◌∷◌}
use Rattle.virt_types.specs.Below.types_base.declared.caller.Front.{Front}
use Rattle.history_spec.specs.Chapter.{tagged}
use Rattle.domain_spec.specs.Types.{Answer, Ask, Call, RefusalCode, Reply, Who}
use Rattle.domain_spec.specs.Excluded.{excluded_reply}
use Rattle.domain_spec.specs.declared.mark.HeldJobs.{HeldJobs}
use Rattle.domain_spec.specs.declared.mark.Mark.TheVariants as mark
use Rattle.domain_obj.specs.InTurn.{DomainPass}
use Rattle.domain_obj.specs.Placing.{IsPlaced}
use Rattle.domain_obj.specs.Running.{Goes, IsSpent}

-- the call left its Refused and no other mark of the pass, and is told what that says; nobody was asked, and nothing is kept
-- for the pass that was not
pub record IsRefusedSo (why : RefusalCode) (who : Who) (d : Call) (before after : DomainPass) (report now : List (Ask × Answer)) (r : Reply) (place : Front) : Type 0 where
  pub turns : ℕ
  pub chapter : ℕ
  pub held : HeldJobs
  pub goes : Goes turns (tagged chapter (mark.Refused before.number who d why held ∷ [])) before after
  pub told : r ≡ excluded_reply why held
  pub reported : now ≡ report
  pub share : after.share ≡ before.share
  pub placed : IsPlaced place chapter (mark.Refused before.number who d why held) after

-- the call left no mark of the pass; nobody was asked, and nothing is kept for the pass that was not
pub record IsLeftUndone (before after : DomainPass) (report now : List (Ask × Answer)) : Type 0 where
  pub turns : ℕ
  pub goes : Goes turns [] before after
  pub reported : now ≡ report
  pub share : after.share ≡ before.share

-- no ticket was left before the call was admitted: it left no mark of the pass, and nobody was asked
pub record IsSpentWaiting (before after : DomainPass) (report now : List (Ask × Answer)) : Type 0 where
  pub turns : ℕ
  pub last : DomainPass
  pub goes : Goes turns [] before last
  pub reported : now ≡ report
  pub spent : IsSpent last after
