-- Each code is found by its number, and no other is.
use Rattle.std.proofs.Common.{◌≡◌, ◌==◌, ◌<◌, ◌^◌, ℕ, Bool, true, false, cond, List, [], ◌∷◌, Option, None, Some, refl, sym, subst, lit<}
use Rattle.std.specs.Prelude.{◌≢◌, IfNone, IfSome}
use Rattle.std.specs.List.{find}
use Rattle.std.proofs.lemmas.Bool.{eqb-true}
use Rattle.virt_types.specs.Refusal.{refusal_number}
use Rattle.virt_types.specs.Below.types_base.declared.refusal.RefusalCode.{RefusalCode}
use Rattle.virt_types.specs.Below.types_base.declared.refusal.RefusalCode.TheVariants as code
use Rattle.procedure_spec.specs.Codes.{code_numbered, every_code}

-- what is found passes the test
passes_step : {A : Type 0} (p : A → Bool) (x y : A) (rest : Option A) (here : Bool) → p x ≡ here → cond here (Some x) rest ≡ Some y → (rest ≡ Some y → p y ≡ true) → p y ≡ true
passes_step {A = A} p x y rest true is e so = let same : x ≡ y = cc in subst (λ (z : A). p z ≡ true) same is
passes_step p x y rest false is e so = so e

pub find_passes : {A : Type 0} (p : A → Bool) (xs : List A) (y : A) → find p xs ≡ Some y → p y ≡ true
find_passes p [] y e = absurd cc
find_passes p (x ∷ xs) y e = passes_step p x y (find p xs) (p x) refl e (λ more. find_passes p xs y more)

-- a code that is found has the number
pub code_found : (number : ℕ) (c : RefusalCode) → code_numbered number ≡ Some c → refusal_number c ≡ number
unfolding code_numbered
code_found number c e = eqb-true _ _ (find_passes (λ (d : RefusalCode). refusal_number d == number) every_code c e)

-- each code is found
pub code_again : (c : RefusalCode) → code_numbered (refusal_number c) ≡ Some c
unfolding code_numbered
code_again code.NoMemory = refl
code_again code.UnknownProcedure = refl
code_again code.InvalidArgument = refl
code_again code.OperationFailed = refl
code_again code.BadDefinition = refl
code_again code.DomainExists = refl
code_again code.NetworkExists = refl
code_again code.StoreFailed = refl
code_again code.MalformedCall = refl
code_again code.NoDomain = refl
code_again code.NoNetwork = refl
code_again code.NoPool = refl
code_again code.NoVolume = refl
code_again code.OperationInvalid = refl
code_again code.OperationTimeout = refl
code_again code.NoSnapshot = refl
code_again code.OperationAborted = refl
code_again code.GuestEnded = refl
code_again code.MonitorLost = refl
code_again code.TooManyWaiting = refl
code_again code.ListFull = refl
code_again code.NotBuilt = refl
code_again code.Stalled = refl
code_again code.SnapshotExists = refl
code_again code.NoFreeSlot = refl
code_again code.EventsLost = refl
code_again code.CountSpent = refl
code_again code.PoolExists = refl
code_again code.VolumeExists = refl

pub code_small : (c : RefusalCode) → refusal_number c < 2 ^ 32
code_small code.NoMemory = lit< tt
code_small code.UnknownProcedure = lit< tt
code_small code.InvalidArgument = lit< tt
code_small code.OperationFailed = lit< tt
code_small code.BadDefinition = lit< tt
code_small code.DomainExists = lit< tt
code_small code.NetworkExists = lit< tt
code_small code.StoreFailed = lit< tt
code_small code.MalformedCall = lit< tt
code_small code.NoDomain = lit< tt
code_small code.NoNetwork = lit< tt
code_small code.NoPool = lit< tt
code_small code.NoVolume = lit< tt
code_small code.OperationInvalid = lit< tt
code_small code.OperationTimeout = lit< tt
code_small code.NoSnapshot = lit< tt
code_small code.OperationAborted = lit< tt
code_small code.GuestEnded = lit< tt
code_small code.MonitorLost = lit< tt
code_small code.TooManyWaiting = lit< tt
code_small code.ListFull = lit< tt
code_small code.NotBuilt = lit< tt
code_small code.Stalled = lit< tt
code_small code.SnapshotExists = lit< tt
code_small code.NoFreeSlot = lit< tt
code_small code.EventsLost = lit< tt
code_small code.CountSpent = lit< tt
code_small code.PoolExists = lit< tt
code_small code.VolumeExists = lit< tt

none_is : (number : ℕ) (found : Option RefusalCode) → code_numbered number ≡ found → ((c : RefusalCode) → refusal_number c ≢ number) → None ≡ found
none_is number None e absent = refl
none_is number (Some c) e absent = absurd (absent c (code_found number c e))

-- an answer that is a code with the number, or none where there is none
pub code_is : (number : ℕ) (o : Option RefusalCode) → IfSome o (λ c. refusal_number c ≡ number) → IfNone o ((c : RefusalCode) → refusal_number c ≢ number) → o ≡ code_numbered number
code_is number (Some c) is absent = subst (λ (n : ℕ). Some c ≡ code_numbered n) is (sym (code_again c))
code_is number None is absent = none_is number (code_numbered number) refl absent
