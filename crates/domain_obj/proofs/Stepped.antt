-- The turns of an operation, from the calls that are made in them.
use Rattle.std.proofs.Common.{◌≡◌, ℕ, List, Option, None, Some, sym, ap, ◌∙◌, subst}
use Rattle.virt_types.specs.Below.types_base.declared.caller.Front.{Front}
use Rattle.history_spec.specs.Pass.{own}
use Rattle.domain_spec.specs.Types.{Reply, Who}
use Rattle.domain_spec.specs.declared.mark.Mark.{Mark}
use Rattle.domain_spec.specs.declared.open.OpenOperation.{OpenOperation}
use Rattle.domain_spec.specs.Cell.{Share, share_of}
use Rattle.domain_spec.specs.Fold.{at_base}
use Rattle.domain_spec.specs.Laws.{IsCounted}
use Rattle.domain_obj.specs.InTurn.{DomainPass, DomainTurn}
use Rattle.domain_obj.specs.Placing.{IsLastPlace}
use Rattle.domain_obj.specs.Running.{IsLegalHistory}
use Rattle.domain_obj.proofs.Entering.{kept_found, kept_turn, may_leave, share_found}
use Rattle.domain_core.specs.Celled.{Celled, KeepsOtherShares, cell_in, standing_in}
use Rattle.domain_core.specs.Meaning.{history_of, meaning}
use Rattle.domain_core.proofs.Shares.{share_end}
use Rattle.domain_obj.specs.Going.{EndsIn, PhasesIn, IsRenewedIfCan, MayEnd, MayGoOn, RenewsAndGoesOn}
use Rattle.domain_obj.specs.Phasing.{HasEnded, HasStepped, IsDueFor, IsOverFor}
use Rattle.domain_core.specs.Tickets.{phased_of}
use Rattle.domain_core.specs.declared.ticket.PhaseLook.{PhaseLook}
use Rattle.domain_obj.proofs.Renewing.{if_can_share, if_can_then}
use Rattle.domain_obj.proofs.Stepping.{end_adds, ended, phase_adds, stepped}
use Rattle.domain_obj.proofs.Turned.{IsLeft, pass_goes}
use Rattle.domain_core.specs.OfTurns.{CanEnd}
use Rattle.domain_core.specs.OfTurns.{IsDue, Phases}
use Rattle.domain_core.specs.OfTurns.{PhaseLook as CorePhase}
use Rattle.turn_cell.specs.Passes.{Enters, left_by}
use Rattle.turn_cell.specs.Turning.{Changes}
use Rattle.domain_core.proofs.OfShares.{ends_leave, phases_leave}
use Rattle.domain_core.specs.OfShares.{whose}

-- what a pass brings into its turn

due_in : (who : Who) (o : OpenOperation) (before : DomainPass) (turn : DomainTurn) → Enters meaning before turn → IsDueFor who o before → IsDue before.share.kept.operation turn.pass.number who
due_in who o before turn enters due =
    subst (λ (q : Option OpenOperation). IsDue q turn.pass.number who) (sym due.operation) (subst (λ (k : ℕ). IsDue (Some o) k who) (sym (ap (λ (p : DomainPass). p.number) enters.pass)) due.due)

pub may_go_on : (who : Who) (o : OpenOperation) (before : DomainPass) (turn : DomainTurn) → Enters meaning before turn → IsDueFor who o before → MayGoOn turn.pass.number who turn.value
may_go_on who o before turn enters due =
    let same : before.share.kept ≡ share_of (cell_in turn.value) turn.pass.number = kept_found before turn enters in
    record {
      waits = subst (λ (s : Share). s.waits ≡ None) same due.waits;
      due = subst (λ (s : Share). IsDue s.operation turn.pass.number who) same (due_in who o before turn enters due);
    }

over_in : (who : Who) (o : OpenOperation) (before : DomainPass) (turn : DomainTurn) → Enters meaning before turn → IsOverFor who o before → CanEnd before.share.kept.operation turn.pass.number who
over_in who o before turn enters over =
    subst (λ (q : Option OpenOperation). CanEnd q turn.pass.number who) (sym over.operation) (subst (λ (k : ℕ). CanEnd (Some o) k who) (sym (ap (λ (p : DomainPass). p.number) enters.pass)) over.over)

pub may_end : (who : Who) (o : OpenOperation) (before : DomainPass) (turn : DomainTurn) → Enters meaning before turn → IsOverFor who o before → MayEnd turn.pass.number who turn.value
may_end who o before turn enters over = subst (λ (s : Share). CanEnd s.operation turn.pass.number who) (kept_found before turn enters) (over_in who o before turn enters over)

pub can_end : (n : ℕ) (who : Who) (c : Celled) → MayEnd n who c → CanEnd (standing_in c).operation n who
can_end n who c may = share_end (cell_in c) n who may

-- which change a due phase leaves

phase_change : (n : ℕ) (who : Who) (a mid new : Celled) (r : CorePhase) → IsRenewedIfCan n who a mid → Phases n who mid.core.turning new.core.turning r → KeepsOtherShares n mid new → (more : List (Mark ℕ)) × Changes meaning n more a new
phase_change n who a mid new r renewed phases others =
    let leaves = phases_leave mid.core.turning new.core.turning n who r phases in
    let adds = phase_adds n who mid new leaves.0 leaves.1 others in
    (own whose n leaves.0, if_can_then n who (own whose n leaves.0) a mid new renewed adds.change adds.chapter)

step_change : {G M E Z : Type 0} (n : ℕ) (who : Who) (a mid new : Celled) (r : PhaseLook G M E Z) → IsRenewedIfCan n who a mid → PhasesIn n who mid new r → (more : List (Mark ℕ)) × Changes meaning n more a new
step_change n who a mid new r renewed h = phase_change n who a mid new (phased_of r) renewed h.phases h.others

pub step_leaves : {G M E Z : Type 0} (who : Who) (before : DomainPass) (turn mid now : DomainTurn) (r : PhaseLook G M E Z) → Enters meaning before turn → RenewsAndGoesOn turn.pass.number who turn.value mid.value r → mid ≡ record turn { value = mid.value } → now ≡ mid
    → (more : List (Mark ℕ)) × Changes meaning now.pass.number more now.entry now.value
step_leaves who before turn mid now r enters (renewed, if_can, goes) same told =
    let value : now.value ≡ mid.value = ap (λ (t : DomainTurn). t.value) told in
    let n = turn.pass.number in
    let change = step_change n who turn.value renewed mid.value r if_can goes in (
      change.0,
      may_leave before turn now change.0 enters (kept_turn turn mid now same told) (subst (λ (v : Celled). Changes meaning n change.0 turn.value v) (sym value) change.1),
    )

-- and what that turn leaves of the pass

is_left : (before after : DomainPass) (turn mid now : DomainTurn) → Enters meaning before turn → mid ≡ record turn { value = mid.value } → now ≡ mid → IsLegalHistory (history_of mid.value) → IsCounted (at_base (cell_in mid.value).base) → after ≡ left_by meaning now
    → IsLeft before after turn now
is_left before after turn mid now enters same told legal counted left =
    let value : mid.value ≡ now.value = ap (λ (t : DomainTurn). t.value) (sym told) in
    record {
      enters = enters;
      kept = kept_turn turn mid now same told;
      legal = subst (λ (v : Celled). IsLegalHistory (history_of v)) value legal;
      counted = subst (λ (v : Celled). IsCounted (at_base (cell_in v).base)) value counted;
      left = left;
    }

pub stepped_once : {G M E Z : Type 0} (who : Who) (o : OpenOperation) (before after : DomainPass) (turn mid now : DomainTurn) (place : Front) (r : PhaseLook G M E Z) → Enters meaning before turn → IsDueFor who o before → RenewsAndGoesOn turn.pass.number who turn.value mid.value r
    → mid ≡ record turn { value = mid.value } → now ≡ mid → IsLastPlace place mid.value → IsLegalHistory (history_of mid.value) → IsCounted (at_base (cell_in mid.value).base) → after ≡ left_by meaning now → HasStepped who o before after place r
stepped_once who o before after turn mid now place r enters due (renewed, if_can, goes) same told at legal counted left =
    let value : mid.value ≡ now.value = ap (λ (t : DomainTurn). t.value) (sym told) in
    let n = turn.pass.number in
    stepped who o before after turn now renewed place r (is_left before after turn mid now enters same told legal counted left) due if_can
    (if_can_share n who turn.value renewed if_can (may_go_on who o before turn enters due).waits ∙ share_found before turn enters)
    (subst (λ (v : Celled). PhasesIn n who renewed v r) value goes) (subst (λ (v : Celled). IsLastPlace place v) value at)

-- the end

end_change : (n : ℕ) (who : Who) (old new : Celled) (said : Reply) → EndsIn n who old new said → (more : List (Mark ℕ)) × Changes meaning n more old new
end_change n who old new said h =
    let leaves = ends_leave old.core.turning new.core.turning n who said h.ends in (own whose n leaves.0, (end_adds n who old new leaves.0 leaves.1 h.others).change)

pub end_leaves : (who : Who) (before : DomainPass) (turn mid now : DomainTurn) (said : Reply) → Enters meaning before turn → EndsIn turn.pass.number who turn.value mid.value said → mid ≡ record turn { value = mid.value } → now ≡ mid
    → (more : List (Mark ℕ)) × Changes meaning now.pass.number more now.entry now.value
end_leaves who before turn mid now said enters ends same told =
    let value : now.value ≡ mid.value = ap (λ (t : DomainTurn). t.value) told in
    let n = turn.pass.number in
    let change = end_change n who turn.value mid.value said ends in (
      change.0,
      may_leave before turn now change.0 enters (kept_turn turn mid now same told) (subst (λ (v : Celled). Changes meaning n change.0 turn.value v) (sym value) change.1),
    )

pub ended_once : (who : Who) (o : OpenOperation) (before after : DomainPass) (turn mid now : DomainTurn) (place : Front) (said : Reply) → Enters meaning before turn → IsOverFor who o before → EndsIn turn.pass.number who turn.value mid.value said
    → mid ≡ record turn { value = mid.value } → now ≡ mid → IsLastPlace place mid.value → IsLegalHistory (history_of mid.value) → IsCounted (at_base (cell_in mid.value).base) → after ≡ left_by meaning now → HasEnded who o before after said place
ended_once who o before after turn mid now place said enters over ends same told at legal counted left =
    let value : mid.value ≡ now.value = ap (λ (t : DomainTurn). t.value) (sym told) in
    let n = turn.pass.number in
    let h : EndsIn n who turn.value now.value said = subst (λ (v : Celled). EndsIn n who turn.value v said) value ends in
    let leaves = ends_leave turn.value.core.turning now.value.core.turning n who said h.ends in
    let adds = end_adds n who turn.value now.value leaves.0 leaves.1 h.others in
    ended n who o before after turn.value now.value said place leaves.0 over h leaves.2
    (pass_goes before after turn now (own whose n leaves.0) (is_left before after turn mid now enters same told legal counted left) adds.change) adds (subst (λ (v : Celled). IsLastPlace place v) value at)
