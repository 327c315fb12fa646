-- Where the marks of a pass are in the history of its domain.
use Rattle.std.specs.Prelude.{◌≡◌, ◌<◌, ◌≤◌, ◌-◌, ℕ, Some, slice_get}
use Rattle.virt_types.specs.Below.types_base.declared.caller.Front.{Front}
use Rattle.domain_core.specs.OfTurns.{last_place}
use Rattle.domain_spec.specs.declared.mark.Mark.{Mark}
use Rattle.domain_core.specs.Celled.{Celled, cell_in}
use Rattle.domain_obj.specs.InTurn.{DomainPass}

-- the place after the chapter's last mark of some pass
pub record IsLastPlace (place : Front) (c : Celled) : Type 0 where
  pub chapter : place.chapter ≡ c.core.turning.chapter
  pub marks : place.marks ≡ last_place (cell_in c).marks

-- the mark, of this chapter, is the last one before this place of the history that the pass has seen; of a chapter that has
-- ended the pass keeps its own marks alone
pub record IsPlaced (place : Front) (chapter : ℕ) (m : Mark ℕ) (after : DomainPass) : Type 0 where
  pub chapter_is : place.chapter ≡ chapter
  pub so_far : chapter ≤ after.seen.chapter
  pub some : 0 < place.marks
  pub there : chapter ≡ after.seen.chapter → slice_get after.seen.marks (place.marks - 1) ≡ Some m
