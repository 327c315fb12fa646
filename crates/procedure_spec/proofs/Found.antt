-- An answer that is what reading gives, where reading gives a value exactly where there is one.
use Rattle.std.proofs.Common.{◌≡◌, Result, Ok, Err, sym, ◌∙◌}
use Rattle.std.specs.Prelude.{IfOk}
use Rattle.virt_types.specs.Below.types_base.declared.memory.OrNoMemory.{OrNoMemory}
use Rattle.virt_types.specs.Below.types_base.declared.memory.OrNoMemory.TheVariants.{Fault, NoMemory}
use Rattle.virt_types.specs.Memory.{UnlessNoMemory}

pub found_by : {A F : Type 0} (IsIt : A → Type 0) (read : Result A F) (result : Result A (OrNoMemory F)) → ((x : A) → read ≡ Ok x → IsIt x) → UnlessNoMemory result read → IfOk result IsIt
found_by IsIt read (Ok x) so finds = so x finds
found_by IsIt read (Err e) so finds = tt

ok_or_err : {A F : Type 0} (read : Result A F) (x : A) (f : F) → read ≡ Ok x → read ≡ Err f → ⊥
ok_or_err read x f e g = cc (e, g)

pub only_by : {A F : Type 0} (IsIt : A → Type 0) (read : Result A F) (result : Result A (OrNoMemory F)) → ((x : A) → IsIt x → read ≡ Ok x) → UnlessNoMemory result read → (x : A) → IsIt x → UnlessNoMemory result (Ok x)
only_by IsIt read (Ok y) so finds x is = sym (so x is) ∙ finds
only_by IsIt read (Err (Fault f)) so finds x is = absurd (ok_or_err read x f (so x is) finds)
only_by IsIt read (Err NoMemory) so finds x is = tt
