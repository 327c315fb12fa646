-- The address that an interface gets, by the words that were drawn for it.
use Rattle.std.specs.Prelude.{◌≡◌, ℕ, List, [], ◌∷◌, Option, Some, None, slice_get}
use Rattle.types_base.specs.declared.device_def.Interface.{Interface}
use Rattle.types_base.specs.declared.mac.Mac.{Mac}
use Rattle.text_spec.specs.Fill.{mac_among}

abbrev pub IsChosenFor : List ℕ → List Interface → Option Mac → Mac → Type 0
IsChosenFor words interfaces None mac = (word : ℕ) × (mac ≡ mac_among interfaces word) × (words ≡ word ∷ [])
IsChosenFor words interfaces (Some own) mac = (mac ≡ own) × (words ≡ [])

-- of one of these interfaces: its own, or one of a word
abbrev pub IsChosenOf : List ℕ → List Interface → Option Interface → Mac → Type 0
IsChosenOf words interfaces None mac = ⊥
IsChosenOf words interfaces (Some i) mac = IsChosenFor words interfaces i.mac mac

abbrev pub IsMacChosen : List ℕ → List Interface → ℕ → Mac → Type 0
IsMacChosen words interfaces place mac = IsChosenOf words interfaces (slice_get interfaces place) mac
