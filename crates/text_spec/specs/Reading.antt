-- Reading from left to right, with the first flaw that is met.
use Rattle.std.specs.Prelude.{ℕ, List, [], ◌∷◌, length, Result, Ok, Err, ◌==◌, if◌then◌else◌}
use Rattle.text_spec.specs.declared.fault.Flaw.{Flaw}
use Rattle.text_spec.specs.declared.fault.TextKind.{TextKind}
use Rattle.text_spec.specs.declared.fault.TextKind.TheVariants as kind

-- what is at the front of the characters, and the characters after it
abbrev pub Reading : Type 0 → Type 0
Reading A = Result (A × List ℕ) Flaw

-- reading goes on with what was read, and stops at a flaw
infixl 10 ◌>>=◌
abbrev pub ◌>>=◌ : {A B : Type 0} → Result A Flaw → (A → Result B Flaw) → Result B Flaw
(Ok x) >>= f = f x
(Err e) >>= f = Err e

-- a flaw at the first of these characters
abbrev pub flaw : TextKind → List ℕ → Flaw
flaw k cs = record { left = length cs; kind = k }

-- the text ends where more could make it a whole one
abbrev pub ended : Flaw
ended = record { left = 0; kind = kind.End }

-- these very characters are at the front: what follows them; otherwise the flaw is reported
unfoldable pub expect : Flaw → List ℕ → List ℕ → Result (List ℕ) Flaw
expect told [] cs = Ok cs
expect told (w ∷ ws) [] = Err ended
expect told (w ∷ ws) (c ∷ cs) = if c == w then expect told ws cs else Err told
