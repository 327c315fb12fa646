use Rattle.std.proofs.Common.{ap, sym, ◌∙◌}
use Rattle.session_spec.specs.DefinitionText.{definition_in}
use Rattle.request_asks.proofs.OwnClaims.{claims_text}
use Rattle.request_asks.proofs.claiming.claim_text.Goals as goal

pub returns-in-Ok-claim : goal.returns-in-Ok-claim
returns-in-Ok-claim g c =
    let claimed = c.in-Ok-claim.ensures in
    (claimed.0, claims_text claimed.0 c.args.xml.now c.in-Ok.read c.in-Ok-claim.claimed (sym (ap definition_in c.as_bytes.ensures) ∙ c.in-Ok.ensures) claimed.1, claimed.2)
