-- The turn in which ears are lent.
use Rattle.std.proofs.Common.{◌≡◌, ℕ, ◌==◌, [], Bool, true, false, Option, None, Some, if◌then◌else◌, refl, sym, ap, ◌∙◌}
use Rattle.domain_spec.specs.Cell.{LentEars, ears_of}
use Rattle.domain_core.specs.Celled.{CellShare, Celled, boot_to_lend, cell_in, cell_share}
use Rattle.domain_core.specs.Meaning.{history_of, meaning}
use Rattle.domain_core.proofs.Changing.{still_turns_change}
use Rattle.domain_core.specs.Core.{with_ears}
use Rattle.domain_obj.specs.InTurn.{DomainPass, DomainTurn}
use Rattle.domain_obj.specs.Running.{IsLegalHistory}
use Rattle.domain_obj.specs.Lending.{HasLent, IsSilentTurn, IsStill, LendsBy, LendsIn, out_for, with_out}
use Rattle.domain_obj.specs.declared.lending.Lent.{Lent}
use Rattle.domain_obj.specs.declared.lending.Lent.TheVariants as lent
use Rattle.domain_obj.proofs.SilentTurns.{ears_share, history_at, silent_may_leave, silent_turn}
use Rattle.domain_core.proofs.Linking.{same_true}
use Rattle.domain_core.specs.OfTurns.{ears_lent}
use Rattle.turn_cell.specs.Passes.{Enters, left_by}
use Rattle.turn_cell.specs.Turning.{Changes}
use Rattle.domain_core.specs.Linked.{ears_in}
use Rattle.monitor_link.specs.Views.{ears_view}
use Rattle.monitor_link.specs.declared.link.Ears as ears

pub lends_ears : {E : Type 0} (g : ears.Ghosts E) (n boot : ℕ) (ears : E) (old new : Celled) → Some boot ≡ boot_to_lend old → new.core.turning ≡ with_ears old.core.turning (ears_lent n (Some boot) (cell_in old).ears) → Some (ears_view g ears) ≡ ears_in old.link
    → LendsBy g n old new (lent.Ears boot ears)
lends_ears g n boot ears old new can is its = (sym can, is, its)

pub lends_nothing : {E : Type 0} (g : ears.Ghosts E) (n : ℕ) (old new : Celled) → None ≡ boot_to_lend old → new.core.turning ≡ with_ears old.core.turning (ears_lent n None (cell_in old).ears) → LendsBy g n old new lent.Nobody
lends_nothing g n old new none is = (sym none, is)

-- what is kept for the pass

if_so : {A : Type 0} (b : Bool) (x y : A) → b ≡ true → (if b then x else y) ≡ x
if_so true x y e = refl
if_so false x y e = cc

own_ears : (n boot : ℕ) → ears_of (Some (out_for n boot)) n ≡ Some (out_for n boot)
own_ears n boot = if_so (n == n) (Some (out_for n boot)) None (same_true n n refl)

same_share : (c d : Celled) (n : ℕ) → d.core.turning ≡ c.core.turning → d.out ≡ c.out → cell_share d n ≡ cell_share c n
same_share c d n e out = ears_share c d n (cell_in c).ears e out

still : (found left : Celled) (before after : DomainPass) → IsSilentTurn found left before after → left.core.turning ≡ found.core.turning → left.out ≡ found.out → IsStill found before after
still found left before after t e out = record {
  goes = t.goes;
  saw = t.saw ∙ ap history_at e;
  share = t.share_is ∙ same_share found left before.number e out ∙ t.share_was;
}

-- the history stays

module _ {E : Type 0} (g : ears.Ghosts E) where
  same_history : (n : ℕ) (old new : Celled) (r : Lent E) → LendsBy g n old new r → history_of new ≡ history_of old
  same_history n old new (lent.Ears boot ears) h = ap history_at h.1
  same_history n old new lent.Nobody h = ap history_at h.1
  same_history n old new lent.NoMemory h = ap history_at h

  lends_change : (n : ℕ) (old new : Celled) (r : Lent E) → LendsIn g n old new r → Changes meaning n [] old new
  lends_change n old new r h = still_turns_change old new n (same_history n old new r h.by) h.others

  pub lent_may_leave : (before : DomainPass) (turn mid now : DomainTurn) (r : Lent E) → Enters meaning before turn → LendsIn g turn.pass.number turn.value mid.value r → mid ≡ record turn { value = mid.value } → now ≡ mid
      → Changes meaning now.pass.number [] now.entry now.value
  lent_may_leave before turn mid now r enters lends same told = silent_may_leave before turn mid now enters (lends_change turn.pass.number turn.value mid.value r lends) same told

  lent_by : (n : ℕ) (found left : Celled) (before after : DomainPass) (r : Lent E) → n ≡ before.number → LendsIn g n found left r → IsSilentTurn found left before after → HasLent g before after r
  lent_by n found left before after (lent.Ears boot ears) number h t = record {
    found = found;
    left = left;
    turn = t;
    can = h.by.0;
    are_its = h.by.2;
    share =
        t.share_is
        ∙ ears_share found left before.number (Some (out_for before.number boot)) (h.by.1 ∙ ap (λ (k : ℕ). with_ears found.core.turning (Some (out_for k boot))) number) h.out
        ∙ ap (λ (x : Option LentEars). with_out (cell_share found before.number) x) (own_ears before.number boot)
        ∙ ap (λ (s : CellShare). with_out s (Some (out_for before.number boot))) t.share_was;
  }
  lent_by n found left before after lent.Nobody number h t = record { found = found; still = still found left before after t h.by.1 h.out; none = h.by.0 }
  lent_by n found left before after lent.NoMemory number h t = record { found = found; still = still found left before after t h.by h.out }

  pub lent_turn : (before after : DomainPass) (turn mid now : DomainTurn) (r : Lent E) → Enters meaning before turn → LendsIn g turn.pass.number turn.value mid.value r → mid ≡ record turn { value = mid.value } → now ≡ mid
      → IsLegalHistory (history_of mid.value) → after ≡ left_by meaning now → IsSilentTurn turn.value mid.value before after
  lent_turn before after turn mid now r enters lends same told legal left =
      silent_turn before after turn mid now enters (lends_change turn.pass.number turn.value mid.value r lends) same told legal left

  pub lent_once : (before after : DomainPass) (turn mid now : DomainTurn) (r : Lent E) → Enters meaning before turn → LendsIn g turn.pass.number turn.value mid.value r → mid ≡ record turn { value = mid.value } → now ≡ mid
      → IsLegalHistory (history_of mid.value) → after ≡ left_by meaning now → HasLent g before after r
  lent_once before after turn mid now r enters lends same told legal left =
      lent_by turn.pass.number turn.value mid.value before after r (ap (λ (p : DomainPass). p.number) enters.pass) lends (lent_turn before after turn mid now r enters lends same told legal left)
