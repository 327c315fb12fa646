-- Why the laws of outcomes hold.
use Rattle.std.proofs.Common.{◌∙◌, ◌≡◌, ℕ, ◌<◌, ◌≤◌, ◌||◌, ◌&&◌, ◌==◌, Bool, true, false, length, List, refl, arith, ⊎_elim, subst, sym, ap}
use Rattle.std.specs.Prelude.{nat_lt}
use Rattle.std.proofs.lemmas.Bool.Decides.{nat_tests}
use Rattle.std.proofs.lemmas.Option.{slice_get_within}
use Rattle.history_spec.specs.declared.history.History.{History}
use Rattle.history_spec.specs.Begins.{Begins, LaterChapter, SameChapter}
use Rattle.history_spec.proofs.Beginnings.{prefix_length, prefix_whole}
use Rattle.domain_spec.specs.Chapter.{rising_number}
use Rattle.domain_spec.specs.Fold.{at_base, standing}
use Rattle.domain_spec.specs.Read.{read}
use Rattle.domain_spec.specs.declared.mark.Mark.{Mark}
use Rattle.domain_spec.specs.declared.standing.Base.{Base}
use Rattle.virt_types.specs.Front.{is_longer}
use Rattle.virt_types.specs.Below.types_base.declared.caller.Front.{Front}
use Rattle.outcome_spec.specs.Histories.{front_of}
use Rattle.outcome_spec.specs.Laws.{MarksAreOfOneRequest, ReadsAreNotFromBefore, ReadsAreOfNow, RepliesNeedMarks}
use Rattle.outcome_spec.specs.Marks.{HasLeft}
use Rattle.reply_texts.specs.Printed.{told}
use Rattle.outcome_spec.specs.Read.{state_of}
use Rattle.outcome_spec.specs.Rows.{Known}

-- a mark of a request is among its pass's own
pub within : {B M : Type 0} (before after : Known B M) (m : M) (left : HasLeft before after m) → left.at < length after.mine
within before after m left = slice_get_within after.mine left.at (left.chapter, m) left.mark

pub replies_need_marks : RepliesNeedMarks
replies_need_marks before after c front said done =
    let left = done.stands.left in
    let new = left.new in
    let in_it = within before after done.mark left in omega (arith, new, in_it)

pub marks_are_of_one : MarksAreOfOneRequest
marks_are_of_one first then last m n one other =
    let in_it = within first then m one in
    let new = other.new in omega (arith, in_it, new)

by_tests : (p q r : Bool) → p ≡ false → (q ≡ true → r ≡ false) → (p || (q && r)) ≡ false
by_tests true q r e f = absurd cc
by_tests false false r e f = refl
by_tests false true r e f = f refl

not_longer : (a b : Front) → a.chapter ≤ b.chapter → (b.chapter ≡ a.chapter → a.marks ≤ b.marks) → is_longer a b ≡ false
not_longer a b chapters marks = by_tests (nat_lt b.chapter a.chapter) (b.chapter == a.chapter) (nat_lt b.marks a.marks)
    (grind (arith, nat_tests, chapters))
    (λ e. let le = marks (grind (arith, nat_tests, e)) in grind (arith, nat_tests, le))

pub not_before : {B M : Type 0} (rising : B → List M → ℕ) (a b : History B M) → Begins rising a b → is_longer (front_of a) (front_of b) ≡ false
not_before rising a b begins = ⊎_elim
    (λ (x : SameChapter a b). not_longer (front_of a) (front_of b) (let e = x.chapter in omega arith) (λ _. prefix_length a.marks b.marks x.marks))
    (λ (x : LaterChapter rising a b). let l = x.chapter in not_longer (front_of a) (front_of b) (omega arith) (λ e. absurd (omega (arith, e, l))))
    begins

pub reads_not_before : ReadsAreNotFromBefore
reads_not_before before after q front said value =
    subst (λ (f : Front). is_longer (front_of before.seen) f ≡ false) (sym value.front_is) (not_before _ before.seen value.history value.between.from)

same_state : (h g : History Base (Mark ℕ)) → h.base ≡ g.base → h.marks ≡ g.marks → state_of h ≡ state_of g
same_state h g base marks = ap (λ (x : Base × List (Mark ℕ)). (standing (at_base x.0) x.1).state) (λ i. (base i, marks i))

whole_state : (h g : History Base (Mark ℕ)) → Begins rising_number h g → front_of h ≡ front_of g → state_of h ≡ state_of g
whole_state h g begins same = ⊎_elim
    (λ (x : SameChapter h g). same_state h g x.base (let e = ap (λ (f : Front). f.marks) same in prefix_whole h.marks g.marks x.marks (omega (arith, e))))
    (λ (x : LaterChapter rising_number h g). let e = ap (λ (f : Front). f.chapter) same in let l = x.chapter in absurd (omega (arith, e, l)))
    begins

pub reads_of_now : ReadsAreOfNow
reads_of_now before after q front said value at =
    value.value ∙ ap (λ s. told (read s q)) (whole_state value.history after.seen value.between.to (sym value.front_is ∙ at))
