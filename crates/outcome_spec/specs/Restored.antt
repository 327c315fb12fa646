-- Case: the image that a restore names was not read, or is not that of a save, or its text has no reading.
use Rattle.std.specs.Prelude.{◌≡◌, ℕ, List, Ok, Err, Result}
use Rattle.store_asks.specs.Below.def_keeper.declared.mark.StoreAction.TheVariants as action
use Rattle.store_asks.specs.Restoring.{saved_in, unread}
use Rattle.store_spec.specs.declared.image.Image.{Image}
use Rattle.store_spec.specs.declared.image.ImageFault.{ImageFault}
use Rattle.virt_types.specs.Below.types_base.declared.caller.Front.{Front}
use Rattle.virt_types.specs.Below.types_base.declared.refusal.Refusal.{Refusal}
use Rattle.outcome_spec.specs.Marks.{StandsAt}
use Rattle.outcome_spec.specs.Rows.{KnownRow}

-- why a guest is not restored of what was read
abbrev pub IsWhy : Result Image ImageFault → Refusal → Type 0
IsWhy (Ok i) why = saved_in i ≡ Err why
IsWhy (Err fault) why = why ≡ unread fault

-- the refusal is that of the mark of this request's read
pub record IsNotRestored (before after : KnownRow) (from : List ℕ) (front : Front) (why : Refusal) : Type 0 where
  pub read : Result Image ImageFault
  pub stands : StandsAt before.store after.store front (record { number = after.store.number; action = action.ImageRead from read })
  pub is : IsWhy read why
