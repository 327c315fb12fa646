-- Reading lists of replies: how many entries, at most 1,024, and then each.
use Rattle.std.specs.Prelude.{ℕ, zero, suc, nat_lt, List, [], ◌∷◌, Option, None, Some, Result, Ok, if◌then◌else◌}
use Rattle.wire_spec.specs.XdrReading.{Left, first_word}
use Rattle.wire_spec.specs.declared.fault.XdrFault.TheVariants.{TooLong}
use Rattle.procedure_spec.specs.Reading.{◌>>=◌, item, unless}
use Rattle.procedure_spec.specs.declared.fault.ArgFault.{ArgFault}
use Rattle.procedure_spec.specs.declared.fault.ArgFault.TheVariants as fault
use Rattle.procedure_spec.specs.declared.words.TheConstants.{NAMES_BOUND}

-- so many entries
unfoldable pub first_entries : {A : Type 0} → (Left → Result (A × Left) ArgFault) → ℕ → Left → Result (List A × Left) ArgFault
first_entries first zero l = Ok ([], l)
first_entries first (suc n) l = first l >>= λ x. first_entries first n x.1 >>= λ more. Ok (x.0 ∷ more.0, more.1)

-- why a word at a place is no number of entries
abbrev pub count_fault : ℕ → ℕ → Option ArgFault
count_fault place count = if nat_lt NAMES_BOUND count then Some (fault.Xdr (TooLong place count)) else None

unfoldable pub first_count : Left → Result (ℕ × Left) ArgFault
first_count l = do
  count ← item first_word l
  unless (count_fault l.place count.0) count

unfoldable pub first_listed : {A : Type 0} → (Left → Result (A × Left) ArgFault) → Left → Result (List A × Left) ArgFault
first_listed first l = do
  count ← first_count l
  first_entries first count.0 count.1
