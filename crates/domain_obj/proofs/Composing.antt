-- Steps in one turn, one after the other: what they change is what one step would.
use Rattle.std.proofs.Common.{◌≡◌, inl, inr, ◌≤◌, ℕ, ◌+◌, ◌==◌, List, [], length, drop, Bool, true, false, Option, None, if◌then◌else◌, refl, sym, ap, ◌∙◌, subst, arith}
use Rattle.std.proofs.lemmas.Bool.Decides.{nat_tests}
use Rattle.history_spec.specs.Begins.{Begins, SameChapter}
use Rattle.history_spec.specs.Chapter.{BeginsChapter, GoesOn, added}
use Rattle.history_spec.specs.Pass.{AreOf, own}
use Rattle.history_spec.proofs.Beginnings.{begins_itself}
use Rattle.domain_spec.specs.Types.{Who}
use Rattle.domain_spec.specs.declared.mark.Mark.{Mark}
use Rattle.domain_spec.specs.declared.standing.Base.{Base}
use Rattle.domain_spec.specs.Cell.{OpenCall, Share, share_of, waits_of}
use Rattle.domain_spec.specs.Chapter.{next_base}
use Rattle.domain_core.specs.Celled.{CellShare, Celled, KeepsOtherShares, cell_in, cell_share, chapter_of, monitor_of, standing_in}
use Rattle.domain_core.specs.Keeping.{new_base_keeps}
use Rattle.domain_core.specs.Meaning.{history_of, meaning}
use Rattle.domain_core.proofs.Changing.{still_turns_change}
use Rattle.domain_core.specs.OfTurns.{Turning}
use Rattle.domain_obj.specs.InTurn.{EndsChapter, IsNotRenewed, IsRenewed}
use Rattle.domain_obj.specs.Running.{DomainHistory}
use Rattle.domain_core.proofs.Linking.{same_true}
use Rattle.domain_core.proofs.OfShares.{chapters_keep, leavers_keep}
use Rattle.turn_cell.specs.Turning.{Changes}
use Rattle.domain_core.specs.OfShares.{whose}

-- in one chapter

in_one : (next : Base) (a b : DomainHistory) → GoesOn next a b → b.chapter ≡ a.chapter → SameChapter a b
in_one next a b (inl s) e = s
in_one next a b (inr n) e =
    let f : a.chapter ≡ a.chapter + 1 = sym e ∙ n.chapter in
    absurd (grind (arith, f))

-- a turn that leaves the history, and then a step
pub still_then : (n : ℕ) (more : List (Mark ℕ)) (a b c : Celled) → history_of b ≡ history_of a → KeepsOtherShares n a b → Changes meaning n more b c → c.core.turning.chapter ≡ b.core.turning.chapter → Changes meaning n more a c
still_then n more a b c same keeps change chapter = record {
  goes_on = inl (subst (λ (h : DomainHistory). SameChapter h (history_of c)) same (in_one (next_base (standing_in b) (cell_in b).registrations) (history_of b) (history_of c) change.goes_on chapter));
  marks = subst (λ (h : DomainHistory). AreOf whose n (added h (history_of c))) same change.marks;
  others = λ m other. change.others m other ∙ keeps m other;
  own_marks = subst (λ (h : DomainHistory). own whose n (added h (history_of c)) ≡ more) same change.own_marks;
}

-- a step, and then a turn that leaves the history
pub then_still : (n : ℕ) (more : List (Mark ℕ)) (a b c : Celled) → Changes meaning n more a b → history_of c ≡ history_of b → KeepsOtherShares n b c → Changes meaning n more a c
then_still n more a b c change same keeps = record {
  goes_on = subst (λ (h : DomainHistory). GoesOn (next_base (standing_in a) (cell_in a).registrations) (history_of a) h) (sym same) change.goes_on;
  marks = subst (λ (h : DomainHistory). AreOf whose n (added (history_of a) h)) (sym same) change.marks;
  others = λ m other. keeps m other ∙ change.others m other;
  own_marks = subst (λ (h : DomainHistory). own whose n (added (history_of a) h) ≡ more) (sym same) change.own_marks;
}

-- the end of a chapter, and then a step

if_false : {A : Type 0} (b : Bool) (x y : A) → b ≡ false → (if b then x else y) ≡ y
if_false true x y e = cc
if_false false x y e = refl

if_true : {A : Type 0} (b : Bool) (x y : A) → b ≡ true → (if b then x else y) ≡ x
if_true true x y e = refl
if_true false x y e = cc

not_same : (a b : ℕ) → b ≡ a + 1 → (a == b) ≡ false
not_same a b e = grind (arith, nat_tests, e)

added_new : (a c : DomainHistory) → c.chapter ≡ a.chapter + 1 → added a c ≡ c.marks
added_new a c e = if_false (a.chapter == c.chapter) (drop (length a.marks) c.marks) c.marks (not_same a.chapter c.chapter e)

added_first : (b c : DomainHistory) → c.chapter ≡ b.chapter → b.marks ≡ [] → added b c ≡ c.marks
added_first b c e none =
    if_true (b.chapter == c.chapter) (drop (length b.marks) c.marks) c.marks (same_true b.chapter c.chapter (sym e))
    ∙ ap (λ (ms : List (Mark ℕ)). drop (length ms) c.marks) none

new_chapter : (n : ℕ) (who : Who) (a b : Celled) → EndsChapter n who a b → BeginsChapter (next_base (standing_in a) (cell_in a).registrations) (history_of a) (history_of b)
new_chapter n who a b ends = record { chapter = ends.rotates.1.chapter; base = ends.rotates.1.leads.base }

no_marks : (n : ℕ) (who : Who) (a b : Celled) → EndsChapter n who a b → (cell_in b).marks ≡ []
no_marks n who a b ends = ends.rotates.1.leads.marks

ended_then : (n : ℕ) (who : Who) (more : List (Mark ℕ)) (a b c : Celled) → EndsChapter n who a b → Changes meaning n more b c → c.core.turning.chapter ≡ b.core.turning.chapter → Changes meaning n more a c
ended_then n who more a b c ends change chapter =
    let began = new_chapter n who a b ends in
    let same = in_one (next_base (standing_in b) (cell_in b).registrations) (history_of b) (history_of c) change.goes_on chapter in
    let rose : c.core.turning.chapter ≡ a.core.turning.chapter + 1 = chapter ∙ began.chapter in
    let is : added (history_of b) (history_of c) ≡ added (history_of a) (history_of c) = added_first (history_of b) (history_of c) chapter (no_marks n who a b ends) ∙ sym (added_new (history_of a) (history_of c) rose) in
    record {
      goes_on = inr (record { chapter = rose; base = sym same.base ∙ began.base });
      marks = subst (λ (ms : List (Mark ℕ)). AreOf whose n ms) is change.marks;
      others = λ m other. change.others m other ∙ ends.others m other;
      own_marks = subst (λ (ms : List (Mark ℕ)). own whose n ms ≡ more) is change.own_marks;
    }

pub renewed_then : (n : ℕ) (who : Who) (more : List (Mark ℕ)) (a b c : Celled) → IsRenewed n who a b → Changes meaning n more b c → c.core.turning.chapter ≡ b.core.turning.chapter → Changes meaning n more a c
renewed_then n who more a b c (inl (long, ends)) change chapter = ended_then n who more a b c ends change chapter
renewed_then n who more a b c (inr (still, same)) change chapter = subst (λ (v : Celled). Changes meaning n more v c) same change

-- the history before goes on in what was renewed

ended_begins : (n : ℕ) (who : Who) (a b : Celled) → EndsChapter n who a b → Begins meaning.rising (history_of a) (history_of b)
ended_begins n who a b ends =
    let began = new_chapter n who a b ends in
    inr (record {
      chapter = grind (arith, began.chapter);
      rises = subst (λ (base : Base). meaning.rising (cell_in a).base (cell_in a).marks ≤ meaning.rising base []) (sym began.base) (new_base_keeps a);
    })

pub renewed_begins : (n : ℕ) (who : Who) (a b : Celled) → IsRenewed n who a b → Begins meaning.rising (history_of a) (history_of b)
renewed_begins n who a b (inl (long, ends)) = ended_begins n who a b ends
renewed_begins n who a b (inr (still, same)) = subst (λ (v : Celled). Begins meaning.rising (history_of a) (history_of v)) (sym same) (begins_itself meaning.rising (history_of a))

-- what the number keeps stays as the chapter ends

share_is : (s t : Share) → t.waits ≡ s.waits → t.call ≡ s.call → t.operation ≡ s.operation → t.registrations ≡ s.registrations → t.ears ≡ s.ears → t ≡ s
share_is s t a b c d e = λ i. record { waits = a i; call = b i; operation = c i; registrations = d i; ears = e i }

cell_share_is : (s t : CellShare) → t.kept ≡ s.kept → t.monitor ≡ s.monitor → t.chapter ≡ s.chapter → t ≡ s
cell_share_is s t a b c = λ i. record { kept = a i; monitor = b i; chapter = c i }

none_out : (o : Option OpenCall) (out : Option ℕ) → o ≡ None → monitor_of o out ≡ None
none_out o out e = ap (λ (x : Option OpenCall). monitor_of x out) e

none_chapter : (o : Option OpenCall) (chapter : ℕ) → o ≡ None → chapter_of o chapter ≡ None
none_chapter o chapter e = ap (λ (x : Option OpenCall). chapter_of x chapter) e

ended_share : (n : ℕ) (who : Who) (a b : Celled) → EndsChapter n who a b → cell_share b n ≡ cell_share a n
ended_share n who a b ends =
    let keeps = chapters_keep (cell_in a) (cell_in b) n who ends.rotates.0 ends.rotates.1.turn ends.rotates.1.leads in
    let was = (share_of (cell_in a) n).call in
    let now = (share_of (cell_in b) n).call in
    cell_share_is (cell_share a n) (cell_share b n)
    (share_is (share_of (cell_in a) n) (share_of (cell_in b) n) (ap (λ q. waits_of q.passes n) ends.queue) (keeps.none_after ∙ sym keeps.none_before) keeps.rest.operation keeps.rest.registrations keeps.rest.ears)
    (none_out now b.out keeps.none_after ∙ sym (none_out was a.out keeps.none_before))
    (none_chapter now b.core.turning.chapter keeps.none_after ∙ sym (none_chapter was a.core.turning.chapter keeps.none_before))

pub renewed_share : (n : ℕ) (who : Who) (a b : Celled) → IsRenewed n who a b → cell_share b n ≡ cell_share a n
renewed_share n who a b (inl (long, ends)) = ended_share n who a b ends
renewed_share n who a b (inr (still, same)) = ap (λ (v : Celled). cell_share v n) same

-- where there was no memory for the next chapter

pub not_renewed_history : (n : ℕ) (who : Who) (a b : Celled) → IsNotRenewed n who a b → history_of b ≡ history_of a
not_renewed_history n who a b h = ap (λ (t : Turning). record { chapter = t.chapter; base = t.cell.base; marks = t.cell.marks }) h.stays

pub not_renewed_changes : (n : ℕ) (who : Who) (a b : Celled) → IsNotRenewed n who a b → Changes meaning n [] a b
not_renewed_changes n who a b h = still_turns_change a b n (not_renewed_history n who a b h) h.others

-- the caller waits no more, and all else stays
pub not_renewed_share : (n : ℕ) (who : Who) (a b : Celled) → IsNotRenewed n who a b → cell_share b n ≡ record (cell_share a n) { kept = record (share_of (cell_in a) n) { waits = None } }
not_renewed_share n who a b h =
    let kept : share_of (cell_in b) n ≡ record (share_of (cell_in a) n) { waits = None } = ap (λ (t : Turning). share_of t.cell n) h.stays ∙ leavers_keep (cell_in a) n who in
    cell_share_is (record (cell_share a n) { kept = record (share_of (cell_in a) n) { waits = None } }) (cell_share b n) kept
    (ap (λ (o : Option OpenCall). monitor_of o b.out) (ap (λ (s : Share). s.call) kept) ∙ ap (λ (out : Option ℕ). monitor_of (share_of (cell_in a) n).call out) h.out)
    (ap (λ (o : Option OpenCall). chapter_of o b.core.turning.chapter) (ap (λ (s : Share). s.call) kept) ∙ ap (λ (t : Turning). chapter_of (share_of (cell_in a) n).call t.chapter) h.stays)
