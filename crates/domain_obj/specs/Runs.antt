-- A call over a domain, and the hearing of its guest after it.
use Rattle.std.specs.Prelude.{ℕ, List, Option}
use Rattle.domain_spec.specs.Types.{Answer, Ask, Call, Reply, Who}
use Rattle.virt_types.specs.declared.ask.GuestEvent.{GuestEvent}
use Rattle.domain_obj.specs.InTurn.{DomainPass}
use Rattle.domain_obj.specs.Hearing.{HasHushed, HasLeft}
use Rattle.domain_obj.specs.declared.ends.Hushed.{Hushed}
use Rattle.domain_obj.specs.Places.{IsAt}
use Rattle.domain_obj.specs.Replies.{TellsCalled, TellsOperated, called_at, operated_at}
use Rattle.domain_obj.specs.declared.places.At.{At}
use Rattle.domain_obj.specs.Called.{HasCalled}
use Rattle.domain_obj.specs.Operated.{HasOperated}
use Rattle.domain_obj.specs.declared.ending.Called.{Called}
use Rattle.domain_obj.specs.declared.operating.operation.Operated.{Operated}

module _ {E : Type 0} (ends faults : E → ℕ) (unheard : E → Option (List GuestEvent)) where
  -- the call came to this; then the pass heard the guest; its caller is told what came of it, and where
  pub record HasRun (who : Who) (d : Call) (before after : DomainPass) (report now : List (Ask × Answer)) (said : Reply) (at : At) : Type 0 where
    pub last : DomainPass
    pub called : Called
    pub hushed : Hushed
    pub calls : HasCalled who d before last report now called
    pub hears : HasHushed ends faults unheard last after hushed
    pub leaves : HasLeft last after hushed
    pub tells : TellsCalled called said
    pub is_at : IsAt (called_at called) after at

  -- the same of a call that begins an operation or takes one up
  pub record HasRunOperation (who : Who) (d : Call) (before after : DomainPass) (report now : List (Ask × Answer)) (said : Reply) (at : At) : Type 0 where
    pub last : DomainPass
    pub operated : Operated
    pub hushed : Hushed
    pub operates : HasOperated who d before last report now operated
    pub hears : HasHushed ends faults unheard last after hushed
    pub leaves : HasLeft last after hushed
    pub tells : TellsOperated operated said
    pub is_at : IsAt (operated_at operated) after at
