-- What a call does in one turn until it is admitted, as one change of its cell.
use Rattle.std.proofs.Common.{◌≡◌, ◌≤◌, ℕ, ◌++◌, List, [], Option, None, Some, IfSome, refl, sym, ap, ◌∙◌, subst, append-nil, arith}
use Rattle.history_spec.specs.Pass.{AreOf, own}
use Rattle.domain_spec.specs.Types.{Call, Who}
use Rattle.domain_spec.specs.declared.core_step.CoreStep.TheVariants as step
use Rattle.domain_spec.specs.declared.core_step.First.{First}
use Rattle.domain_spec.specs.declared.mark.Mark.{Mark}
use Rattle.domain_spec.specs.Call.{begins, takes_up}
use Rattle.domain_spec.specs.CanTake.{CanLook, CanTake}
use Rattle.domain_spec.specs.Cell.{Share, share_of}
use Rattle.domain_spec.specs.Fold.{at_base, standing}
use Rattle.domain_spec.specs.Kept.{looks_of}
use Rattle.domain_obj.specs.InTurn.{DomainTurn, IsRenewed, LooksIn}
use Rattle.domain_obj.specs.Running.{DomainHistory}
use Rattle.domain_obj.proofs.Composing.{renewed_begins, renewed_share, still_then}
use Rattle.domain_core.specs.Celled.{CellShare, Celled, KeepsOtherShares, cell_in, standing_in}
use Rattle.domain_core.specs.Meaning.{history_of, meaning}
use Rattle.domain_core.proofs.Changing.{turns_change}
use Rattle.domain_core.specs.Shares.{IsFree, KeepsFirst}
use Rattle.domain_core.proofs.Shares.{free_look}
use Rattle.domain_obj.specs.Looking.{MayLook}
use Rattle.domain_obj.proofs.Known.{knows_on}
use Rattle.domain_obj.proofs.Waiters.{has_looked}
use Rattle.domain_core.specs.OfTurns.{HasTurned}
use Rattle.domain_core.specs.OfTurns.looked_variants as looked
use Rattle.domain_core.specs.declared.ticket.Look.TheVariants as look
use Rattle.job_rules.specs.declared.record.JobRecord.{JobRecord}
use Rattle.domain_core.proofs.OfShares.{queues_tell}
use Rattle.turn_cell.specs.Turning.{Changes}
use Rattle.domain_core.specs.OfShares.{whose}
use Rattle.domain_core.proofs.OfShares.{marks_are_own}

-- a call that may look before a chapter ends may look after it
pub may_renewed : (n : ℕ) (who : Who) (d : Call) (f : First) (a b : Celled) → IsRenewed n who a b → MayLook n who d f a → MayLook n who d f b
may_renewed n who d f a b renewed may =
    let same : share_of (cell_in a) n ≡ share_of (cell_in b) n = ap (λ (s : CellShare). s.kept) (sym (renewed_share n who a b renewed)) in
    record {
      free = subst (λ (s : Share). IsFree s who) same may.free;
      keeps = subst (λ (s : Share). KeepsFirst s who d f) same may.keeps;
      known = knows_on f (history_of a) (history_of b) (renewed_begins n who a b renewed) may.known;
    }

pub can_look : (n : ℕ) (who : Who) (d : Call) (f : First) (c : Celled) → MayLook n who d f c → begins d ≡ None → takes_up d ≡ None → CanLook (cell_in c) n who d f
can_look n who d f c may none takes = free_look (cell_in c) n who d f may.free may.keeps none takes

-- a caller that waits, and looked often enough, can give up
pub waiters_give_up : (n : ℕ) (who : Who) (d : Call) (c : Celled) (looks : ℕ) → (share_of (cell_in c) n).waits ≡ Some who → looks ≡ looks_of (cell_in c).queue.callers who → 30 ≤ looks → CanTake (cell_in c) (step.GiveUp n who d)
waiters_give_up n who d c looks waits are enough = (
  subst (λ (o : Option Who). IfSome o (λ w. w ≡ who)) (sym waits) refl,
  looks,
  enough,
  has_looked (cell_in c).queue.callers who looks are (omega (arith, enough)),
)

-- so can it where it was excluded often enough
pub can_give_up : {G M E Z : Type 0} (n : ℕ) (who : Who) (d : Call) (f : First) (old mid : Celled) (held : JobRecord) (boot : Option ℕ) (looks : ℕ) → LooksIn {G = G} {M = M} {E = E} {Z = Z} n who d f old mid (look.Excluded held boot looks) → 30 ≤ looks → CanTake (cell_in mid) (step.GiveUp n who d)
can_give_up n who d f old mid held boot looks h enough =
    waiters_give_up n who d mid looks (queues_tell (cell_in old) (cell_in mid) n who (looked.Excluded held boot looks) h.queue) h.looks.2.1.looks_are enough

-- a step, or two of which the first leaves no mark, adds these marks to the chapter
pub record Adds (n : ℕ) (old new : Celled) (left : List (Mark ℕ)) : Type 0 where
  pub chapter : new.core.turning.chapter ≡ old.core.turning.chapter
  pub base : (cell_in new).base ≡ (cell_in old).base
  pub marks : (cell_in new).marks ≡ (cell_in old).marks ++ left
  pub of_pass : AreOf whose n left
  pub change : Changes meaning n (own whose n left) old new

pub look_adds : (n : ℕ) (who : Who) (d : Call) (f : First) (old new : Celled) (left : List (Mark ℕ)) → HasTurned old.core.turning new.core.turning (step.Look n who d f) left → KeepsOtherShares n old new → Adds n old new left
look_adds n who d f old new left turned others = record {
  chapter = turned.chapter;
  base = turned.leads.base;
  marks = turned.leads.marks;
  of_pass = marks_are_own (cell_in old) (step.Look n who d f) n left refl turned.turn;
  change = turns_change old new (step.Look n who d f) n left refl turned others;
}

-- no mark was added, so the history stays

history_is : (h k : DomainHistory) → k.chapter ≡ h.chapter → k.base ≡ h.base → k.marks ≡ h.marks → k ≡ h
history_is h k a b c = λ i. record { chapter = a i; base = b i; marks = c i }

pub still_history : (n : ℕ) (old new : Celled) (left : List (Mark ℕ)) → Adds n old new left → left ≡ [] → history_of new ≡ history_of old
still_history n old new left adds none =
    history_is (history_of old) (history_of new) adds.chapter adds.base (adds.marks ∙ ap (λ (ms : List (Mark ℕ)). (cell_in old).marks ++ ms) none ∙ append-nil (cell_in old).marks)

pub still_standing : (old new : Celled) → history_of new ≡ history_of old → standing_in new ≡ standing_in old
still_standing old new same = ap (λ (h : DomainHistory). standing (at_base h.base) h.marks) same

-- a look that left no mark, and then giving up
pub gave_up_adds : (n : ℕ) (who : Who) (d : Call) (old mid new : Celled) (left : List (Mark ℕ)) → history_of mid ≡ history_of old → KeepsOtherShares n old mid → HasTurned mid.core.turning new.core.turning (step.GiveUp n who d) left → KeepsOtherShares n mid new
    → Adds n old new left
gave_up_adds n who d old mid new left same keeps turned others = record {
  chapter = turned.chapter ∙ ap (λ (h : DomainHistory). h.chapter) same;
  base = turned.leads.base ∙ ap (λ (h : DomainHistory). h.base) same;
  marks = turned.leads.marks ∙ ap (λ (h : DomainHistory). h.marks ++ left) same;
  of_pass = marks_are_own (cell_in mid) (step.GiveUp n who d) n left refl turned.turn;
  change = still_then n (own whose n left) old mid new same keeps (turns_change mid new (step.GiveUp n who d) n left refl turned others) turned.chapter;
}

-- under the number of the pass that has the turn
pub give_up_then : (who : Who) (d : Call) (turn now : DomainTurn) → CanTake (cell_in now.value) (step.GiveUp turn.pass.number who d) → now ≡ record turn { value = now.value } → CanTake (cell_in now.value) (step.GiveUp now.pass.number who d)
give_up_then who d turn now can same = subst (λ (k : ℕ). CanTake (cell_in now.value) (step.GiveUp k who d)) (sym (ap (λ (t : DomainTurn). t.pass.number) same)) can

pub can_give_up_then : {G M E Z : Type 0} (who : Who) (d : Call) (f : First) (turn now : DomainTurn) (held : JobRecord) (boot : Option ℕ) (looks : ℕ) → LooksIn {G = G} {M = M} {E = E} {Z = Z} turn.pass.number who d f turn.value now.value (look.Excluded held boot looks)
    → 30 ≤ looks → now ≡ record turn { value = now.value } → CanTake (cell_in now.value) (step.GiveUp now.pass.number who d)
can_give_up_then who d f turn now held boot looks h enough same =
    give_up_then who d turn now (can_give_up turn.pass.number who d f turn.value now.value held boot looks h enough) same

pub may_renewed_then : (who : Who) (d : Call) (f : First) (turn now : DomainTurn) → IsRenewed turn.pass.number who turn.value now.value → now ≡ record turn { value = now.value } → MayLook turn.pass.number who d f turn.value
    → MayLook now.pass.number who d f now.value
may_renewed_then who d f turn now renewed same may =
    subst (λ (k : ℕ). MayLook k who d f now.value) (sym (ap (λ (t : DomainTurn). t.pass.number) same)) (may_renewed turn.pass.number who d f turn.value now.value renewed may)
