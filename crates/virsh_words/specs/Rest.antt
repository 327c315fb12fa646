-- What is left of a command line, as the steps of its reader hand it on. No public clause cites this.
use Rattle.std.specs.Prelude.{◌≡◌, ℕ, List, [], ◌∷◌, ◌++◌, map, Option, None, Some, option_map, Result, Ok, Err}
use Rattle.std.specs.Borrow.{Bor}
use Rattle.std.specs.String.{string_bytes}
use Rattle.types_base.specs.declared.memory.OrNoMemory.{OrNoMemory}
use Rattle.types_base.specs.declared.memory.OrNoMemory.TheVariants.{Fault, NoMemory}
use Rattle.command_spec.specs.Reading.{Left, Word, behind}
use Rattle.command_spec.specs.declared.command.Listen.{Listen}
use Rattle.command_spec.specs.declared.fault.WordFault.{WordFault}
use Rattle.virsh_words.specs.declared.rest.Rest.{Rest}

abbrev pub seen : Rest → Left
seen r = record { place = r.place; words = map string_bytes r.words.now; allowed = r.allowed; given = r.given }

-- a step answered, and left, what reading gives
abbrev pub Steps : {A : Type 0} → Result (A × Left) WordFault → Result (A × Rest) WordFault → Type 0
Steps read (Ok x) = read ≡ Ok (x.0, seen x.1)
Steps read (Err f) = read ≡ Err f

-- the same of a step that takes memory
abbrev pub StepsOrNoMemory : {A : Type 0} → Result (A × Left) WordFault → Result (A × Rest) (OrNoMemory WordFault) → Type 0
StepsOrNoMemory read (Ok x) = read ≡ Ok (x.0, seen x.1)
StepsOrNoMemory read (Err (Fault f)) = read ≡ Err f
StepsOrNoMemory read (Err NoMemory) = Unit {0}

-- of one that answers nothing but what is left
abbrev pub Passes : Result Left WordFault → Result Rest WordFault → Type 0
Passes read (Ok rest) = read ≡ Ok (seen rest)
Passes read (Err f) = read ≡ Err f

-- of one that answers a word as it lies there
abbrev pub Slices : Result (Word × Left) WordFault → Result (Bor Word × Rest) WordFault → Type 0
Slices read (Ok x) = read ≡ Ok (x.0.now, seen x.1)
Slices read (Err f) = read ≡ Err f

-- of one that answers two
abbrev pub SlicesTwo : Result ((Word × Word) × Left) WordFault → Result ((Bor Word × Bor Word) × Rest) WordFault → Type 0
SlicesTwo read (Ok x) = read ≡ Ok ((x.0.0.now, x.0.1.now), seen x.1)
SlicesTwo read (Err f) = read ≡ Err f

-- of one that answers a word or none
abbrev pub SlicesOption : Result (Option Word × Left) WordFault → Result (Option (Bor Word) × Rest) WordFault → Type 0
SlicesOption read (Ok x) = read ≡ Ok (option_map (λ w. w.now) x.0, seen x.1)
SlicesOption read (Err f) = read ≡ Err f

-- the first word and what is after it, or there is none
abbrev pub IsNext : Left → Option (Bor Word × Rest) → Type 0
IsNext l None = l.words ≡ []
IsNext l (Some x) = (l.words ≡ x.0.now ∷ (seen x.1).words) × (seen x.1 ≡ behind (seen x.1).words l)

-- what is read of domains, after those that were read
abbrev pub behind_listens : List Listen → Result (List Listen × Left) WordFault → Result (List Listen × Left) WordFault
behind_listens xs (Ok y) = Ok (xs ++ y.0, y.1)
behind_listens xs (Err f) = Err f
