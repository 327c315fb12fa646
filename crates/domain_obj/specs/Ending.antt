-- A call that was admitted and asks, to its end.
use Rattle.std.specs.Prelude.{◌≡◌, List, [], ◌∷◌, ◌++◌}
use Rattle.domain_spec.specs.Types.{Answer, Ask}
use Rattle.domain_obj.specs.Asking.{IsAsked}
use Rattle.domain_obj.specs.Finishing.{IsFinished, IsStillAway}
use Rattle.domain_obj.specs.InTurn.{DomainPass}
use Rattle.domain_obj.specs.Running.{IsSpent}
use Rattle.domain_obj.specs.declared.ending.Called.{Called}
use Rattle.domain_obj.specs.declared.ending.Called.TheVariants as called
use Rattle.domain_core.specs.OfShares.{told}

-- it is done, or no ticket was left; the desk was asked just what is said here, but for what found no memory
abbrev pub HasEnded : DomainPass → DomainPass → List (Ask × Answer) → List (Ask × Answer) → Called → Type 0
HasEnded before after report now (called.Done r place) = (more : List (Ask × Answer)) × (now ≡ report ++ more) × IsFinished before after more r place
HasEnded before after report now called.SpentAway =
    (more : List (Ask × Answer)) × (asked : Ask) × (x : Answer) × (mid : DomainPass) × IsStillAway before mid more × IsAsked mid asked × (now ≡ report ++ (more ++ told (asked ∷ []) (x ∷ []))) × IsSpent mid after
HasEnded before after report now other = ⊥
