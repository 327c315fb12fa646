-- What a call leaves of its pass, whatever became of it.
use Rattle.std.proofs.Common.{◌≡◌, ℕ, List, []}
use Rattle.domain_spec.specs.Types.{Answer, Ask, Call, Who}
use Rattle.domain_spec.specs.declared.mark.Mark.{Mark}
use Rattle.domain_obj.specs.InTurn.{DomainPass}
use Rattle.domain_obj.specs.Running.{Goes, IsReady, IsSpent}
use Rattle.domain_obj.specs.Hearing.{HasLeft}
use Rattle.domain_obj.specs.declared.ends.Hushed.{Hushed}
use Rattle.domain_obj.specs.Called.{HasCalled}
use Rattle.domain_obj.specs.Operated.{HasOperated}
use Rattle.domain_obj.specs.declared.ending.Called.{Called}
use Rattle.domain_obj.specs.declared.ending.Called.TheVariants as called
use Rattle.domain_obj.specs.declared.operating.operation.Operated.{Operated}
use Rattle.domain_obj.specs.declared.operating.operation.Operated.TheVariants as operated
use Rattle.domain_tasks.proofs.Following.{Follows, Keeps, follows_left, follows_spent, follows_still, keeps_left, keeps_on, keeps_spent, of_goes, ready_left, ready_spent, ready_stays}

-- it left some marks, keeps what it had as long as a ticket is left, and may call again if it might before
pub record Comes (before after : DomainPass) : Type 0 where
  pub more : List (ℕ × Mark ℕ)
  pub follows : Follows more before after
  pub keeps : Keeps before after
  pub ready : IsReady before → IsReady after

comes_by : (turns : ℕ) (more : List (ℕ × Mark ℕ)) (before after : DomainPass) → Goes turns more before after → after.share ≡ before.share → Comes before after
comes_by turns more before after goes same = record { more = more; follows = of_goes turns more before after goes; keeps = λ fresh. same; ready = ready_stays turns more before after goes same }

comes_spent : (turns : ℕ) (more : List (ℕ × Mark ℕ)) (before last after : DomainPass) → Goes turns more before last → IsSpent last after → Comes before after
comes_spent turns more before last after goes spent = record { more = more; follows = follows_spent turns more before last after goes spent; keeps = keeps_spent before last after spent; ready = λ was. ready_spent last after spent }

pub comes_called : (who : Who) (d : Call) (before after : DomainPass) (report now : List (Ask × Answer)) (c : Called) → HasCalled who d before after report now c → Comes before after
comes_called who d before after report now (called.Done r place) h = comes_by h.turns _ before after h.goes h.share
comes_called who d before after report now (called.TimedOut r place) h = comes_by h.refused.turns _ before after h.refused.goes h.refused.share
comes_called who d before after report now (called.WaitersFull r place) h = comes_by h.turns _ before after h.goes h.share
comes_called who d before after report now called.NoMemory h = comes_by h.turns [] before after h.goes h.share
comes_called who d before after report now called.Spent h = comes_spent h.turns [] before h.last after h.goes h.spent
comes_called who d before after report now called.SpentAway h = comes_spent h.turns _ before h.last after h.goes h.spent

pub comes_operated : (who : Who) (d : Call) (before after : DomainPass) (report now : List (Ask × Answer)) (c : Operated) → HasOperated who d before after report now c → Comes before after
comes_operated who d before after report now (operated.Ended said place) h = comes_by h.turns _ before after h.goes h.share
comes_operated who d before after report now (operated.Rests said place) h = comes_by h.turns _ before after h.goes h.share
comes_operated who d before after report now (operated.Refused r place) h = comes_by h.turns _ before after h.goes h.share
comes_operated who d before after report now (operated.TimedOut r place) h = comes_by h.refused.turns _ before after h.refused.goes h.refused.share
comes_operated who d before after report now (operated.WaitersFull r place) h = comes_by h.turns _ before after h.goes h.share
comes_operated who d before after report now operated.NoMemory h = comes_by h.turns [] before after h.goes h.share
comes_operated who d before after report now operated.Spent h = comes_spent h.turns [] before h.last after h.goes h.spent
comes_operated who d before after report now operated.SpentAmid h = comes_spent h.turns _ before h.last after h.goes h.spent

-- and then it heard the guest
pub comes_left : (before last after : DomainPass) (q : Hushed) → Comes before last → HasLeft last after q → Comes before after
comes_left before last after q c h = record {
  more = c.more;
  follows = follows_still c.more before last after c.follows (follows_left last after q h);
  keeps = keeps_on [] before last after c.keeps (follows_left last after q h) (keeps_left last after q h);
  ready = λ was. ready_left last after q h (c.ready was);
}
