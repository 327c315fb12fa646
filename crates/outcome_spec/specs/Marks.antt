-- Marks that a request left: each is one of its pass's own marks, after those that the pass had before.
use Rattle.std.specs.Prelude.{◌≡◌, ℕ, ◌-◌, ◌<◌, ◌≤◌, Some, slice_get, length}
use Rattle.virt_types.specs.Below.types_base.declared.caller.Front.{Front}
use Rattle.outcome_spec.specs.Rows.{Known}

module _ {B M : Type 0} where
  -- a mark of this request: its chapter, and where it is among the pass's own marks
  pub record HasLeft (before after : Known B M) (m : M) : Type 0 where
    pub at : ℕ
    pub chapter : ℕ
    pub new : length before.mine ≤ at
    pub mark : slice_get after.mine at ≡ Some (chapter, m)

  -- it is the last mark of the history up to this place; of a chapter that has ended the pass keeps its own marks alone
  pub record StandsAt (before after : Known B M) (front : Front) (m : M) : Type 0 where
    pub left : HasLeft before after m
    pub chapter : left.chapter ≡ front.chapter
    pub so_far : front.chapter ≤ after.seen.chapter
    pub some : 0 < front.marks
    pub place : front.chapter ≡ after.seen.chapter → slice_get after.seen.marks (front.marks - 1) ≡ Some m
