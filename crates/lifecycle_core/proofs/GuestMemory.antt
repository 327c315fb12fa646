-- What a guest's memory statistics leave where there is a guest.
use Rattle.std.proofs.Common.{◌≡◌, ◌∙◌, List, Some, sym, ap}
use Rattle.domain_spec.specs.Types.{Answer, Domain, Live, State}
use Rattle.domain_spec.specs.Types.call
use Rattle.domain_spec.specs.Types.state
use Rattle.domain_spec.specs.Asks.{first_value}
use Rattle.domain_spec.specs.CallResult.{guest_step, memory_step, step_of}

pub memory_at :
    (s : State) (d : Domain) (l : Live) (answers : List Answer) → s ≡ state.Held d → d.live ≡ Some l
    → memory_step (state.Held d) (first_value answers) ≡ step_of s call.MemoryStats answers
memory_at s d l answers e g =
    sym (ap (λ live. guest_step d live call.MemoryStats answers) g) ∙ sym (ap (λ held. step_of held call.MemoryStats answers) e)
