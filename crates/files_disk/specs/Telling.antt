-- What the calls of a store do to the operations that it tells, and what they read of them.
use Rattle.std.specs.Prelude.{◌≡◌, ◌⊎◌, ◌++◌, List, [], ◌∷◌, ℕ, Option, None, Some, option_map, Result, Ok, Err, bytes_eq, count_by}
use Rattle.store_spec.specs.declared.operation.Operation.{Operation}
use Rattle.store_spec.specs.declared.operation.Operation.TheVariants as op
use Rattle.store_spec.specs.Directory.{Directory, directory}

-- the operations that a store tells, if it does
abbrev pub Told : Type 0
Told = Option (List Operation)

-- what is told after one operation more
abbrev pub more : Told → Operation → Told
more told o = option_map (λ os. os ++ o ∷ []) told

-- the operation took effect; where the call failed, it did or did not
abbrev pub Does : {E : Type 0} → Operation → Told → Told → Result (Unit {0}) E → Type 0
Does o old new (Ok done) = new ≡ more old o
Does o old new (Err e) = (new ≡ more old o) ⊎ (new ≡ old)

-- the file was written; where the call failed, it stayed as it was or got any bytes
abbrev pub Writes : {E : Type 0} → List ℕ → List ℕ → Told → Told → Result (Unit {0}) E → Type 0
Writes name content old new (Ok done) = new ≡ more old (op.Write name content)
Writes name content old new (Err e) = ((bytes : List ℕ) × (new ≡ more old (op.Write name bytes))) ⊎ (new ≡ old)

-- a read gives the file as it is told
abbrev pub IsRead : Told → List ℕ → Option (List ℕ) → Type 0
IsRead None name content = Unit {0}
IsRead (Some os) name content = content ≡ directory os name

-- how often a name is listed: once where it has a file
abbrev pub times : {A : Type 0} → Option A → ℕ
times None = 0
times (Some file) = 1

-- just the names that have files are listed, each once
abbrev pub Lists : Directory → List (List ℕ) → Type 0
Lists d names = (n : List ℕ) → count_by (bytes_eq n) names ≡ times (d n)

-- a list gives the names as they are told
abbrev pub IsListed : Told → List (List ℕ) → Type 0
IsListed None names = Unit {0}
IsListed (Some os) names = Lists (directory os) names
