-- What an answer rests on stays true of a row that goes on.
use Rattle.std.proofs.Common.{◌≡◌, ◌∙◌, ℕ, ◌++◌, ◌≤◌, ◌-◌, List, Some, arith, ⊎_elim, sym, ap}
use Rattle.std.specs.Prelude.{slice_get}
use Rattle.std.proofs.Math.ListN.{get_or-append}
use Rattle.std.proofs.lemmas.List.{length-append}
use Rattle.std.proofs.lemmas.Option.{slice_get-get_or, slice_get_within}
use Rattle.history_spec.specs.declared.history.History.{History}
use Rattle.history_spec.specs.Begins.{Begins, IsPrefix, LaterChapter, SameChapter}
use Rattle.history_spec.proofs.Beginnings.{NoMarkLowers, begins_chapter, begins_through}
use Rattle.virt_types.specs.Below.types_base.declared.caller.Front.{Front}
use Rattle.outcome_spec.specs.Histories.{IsRead}
use Rattle.outcome_spec.specs.Marks.{HasLeft, StandsAt}
use Rattle.outcome_spec.specs.Rows.{IsLater, Known}

get_front : {A : Type 0} (xs ys : List A) (k : ℕ) (x : A) → slice_get xs k ≡ Some x → slice_get (xs ++ ys) k ≡ Some x
get_front xs ys k x e =
    let lt = slice_get_within xs k x e in
    slice_get-get_or (xs ++ ys) k x (omega (arith, lt, length-append xs ys)) ∙ (ap Some (get_or-append xs ys x k lt) ∙ (sym (slice_get-get_or xs k x lt) ∙ e))

-- what is in a list is in what it is a front of
pub get_prefix : {A : Type 0} (xs ys : List A) (k : ℕ) (x : A) → slice_get xs k ≡ Some x → IsPrefix xs ys → slice_get ys k ≡ Some x
get_prefix xs ys k x e front = ap (λ l. slice_get l k) (sym front.1) ∙ get_front xs front.0 k x e

module _ {B M : Type 0} (rising : B → List M → ℕ) where
  pub left_stays : (before after later : Known B M) (m : M) → HasLeft before after m → IsLater rising after later → HasLeft before later m
  left_stays before after later m left on = record { at = left.at; chapter = left.chapter; new = left.new; mark = get_prefix after.mine later.mine left.at (left.chapter, m) left.mark on.mine }

  place_stays : (after later : Known B M) (front : Front) (m : M) → front.chapter ≤ after.seen.chapter
      → (front.chapter ≡ after.seen.chapter → slice_get after.seen.marks (front.marks - 1) ≡ Some m) → Begins rising after.seen later.seen
      → front.chapter ≡ later.seen.chapter → slice_get later.seen.marks (front.marks - 1) ≡ Some m
  place_stays after later front m so_far place begins e = ⊎_elim
      (λ (x : SameChapter after.seen later.seen). get_prefix after.seen.marks later.seen.marks (front.marks - 1) m (place (e ∙ sym x.chapter)) x.marks)
      (λ (x : LaterChapter rising after.seen later.seen). let l = x.chapter in absurd (omega (arith, e, l, so_far)))
      begins

  pub stands_stays : (before after later : Known B M) (front : Front) (m : M) → StandsAt before after front m → IsLater rising after later → StandsAt before later front m
  stands_stays before after later front m stands on = record {
    left = record { at = stands.left.at; chapter = stands.left.chapter; new = stands.left.new; mark = get_prefix after.mine later.mine stands.left.at (stands.left.chapter, m) stands.left.mark on.mine };
    chapter = stands.chapter;
    so_far = (let le = begins_chapter rising after.seen later.seen on.seen in let so = stands.so_far in omega (arith, le, so));
    some = stands.some;
    place = place_stays after later front m stands.so_far stands.place on.seen;
  }

  pub read_stays : NoMarkLowers rising → (before after later : Known B M) (h : History B M) → IsRead rising before after h → IsLater rising after later → IsRead rising before later h
  read_stays lowers before after later h read on = record { from = read.from; to = begins_through rising lowers h after.seen later.seen read.to on.seen }
