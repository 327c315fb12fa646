-- A reason is what is told.
use Rattle.std.proofs.Common.{Err, sym, ap}
use Rattle.virt_types.specs.Below.types_base.declared.refusal.Refusal.{Refusal}
use Rattle.virt_types.specs.Below.types_base.declared.memory.OrNoMemory.{OrNoMemory}
use Rattle.virt_types.specs.Below.types_base.declared.memory.OrNoMemory.TheVariants.{Fault, NoMemory}
use Rattle.book_spec.specs.declared.pool_book.PoolAnswer.TheVariants.{Refused}
use Rattle.pool_core.specs.Answers.{Tells, IsWhy}

pub tells-why : (r : Refusal) (e : OrNoMemory Refusal) → IsWhy r e → Tells (Err e) (Refused r)
tells-why r (Fault given) is = ap Refused (sym is)
tells-why r NoMemory is = tt
