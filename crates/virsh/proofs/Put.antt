-- What was put into standard output, text after text.
use Rattle.std.proofs.Common.{◌≡◌, ◌+◌, ◌<◌, ℕ, List, [], ◌++◌, Option, Result, Ok, Err, OnOk, OnErr, length, take, sym, ap, ◌∙◌, subst, arith}
use Rattle.std.specs.Io.KnownBytes.{Appends}
use Rattle.std.proofs.Math.Seq.{take-append-add}
use Rattle.std.proofs.lemmas.List.{length-append}
use Rattle.outside_spec.specs.Faults.{HasCause}
use Rattle.virt_types.specs.Below.types_base.declared.memory.Failed.{Failed}
use Rattle.packet.proofs.Known.{Appends-none, Appends-then}
use Rattle.virsh.specs.Outside.{Outside, with_out}
use Rattle.virsh.specs.Printing.{HasPut, IsCutOff, IsPut}

pub has_put : {O : Type 0} (held : O → Option (List ℕ)) (faults : O → ℕ) (text : List ℕ) (was is : O) (r : Result (Unit {0}) Failed) → OnOk r (Appends (held was) (held is) text)
    → OnErr r ((n : ℕ) × (n < length text) × Appends (held was) (held is) (take n text)) → HasCause (faults was) (faults is) r → HasPut held faults text was is r
has_put held faults text was is (Ok done) whole front cause = record { whole = whole; later = cause.later }
has_put held faults text was is (Err failed) whole front cause = record { rose = cause.failed; count = front.0; short = front.1; front = front.2 }

-- only standard output has changed
pub only_out : {S K O : Type 0} (was is : Outside S K O) (out : O) → is ≡ with_out out was → is ≡ with_out is.out was
only_out was is out e = e ∙ ap (λ o. with_out o was) (sym (ap (λ (w : Outside _ _ _). w.out) e))

pub out_again : {S K O : Type 0} (was then is : Outside S K O) → then ≡ with_out then.out was → is ≡ with_out is.out then → is ≡ with_out is.out was
out_again was then is first second = second ∙ ap (λ w. with_out is.out w) first

module _ {O : Type 0} (held : O → Option (List ℕ)) (faults : O → ℕ) where
  -- nothing yet
  pub put_none : (out : O) → IsPut held faults [] out out
  put_none out = record { whole = Appends-none (held out); later = omega arith }

  -- one text more
  pub put_more : (one other : List ℕ) (was then is : O) → IsPut held faults one was then → IsPut held faults other then is → IsPut held faults (one ++ other) was is
  put_more one other was then is first second = record { whole = Appends-then (held was) (held then) (held is) one other first.whole second.whole; later = omega (arith, first.later, second.later) }

  -- and it is cut off
  pub cut_more : (one other : List ℕ) (was then is : O) → IsPut held faults one was then → IsCutOff held faults other then is → IsCutOff held faults (one ++ other) was is
  cut_more one other was then is first cut = record {
    rose = omega (arith, first.later, cut.rose);
    count = length one + cut.count;
    short = omega (arith, length-append one other, cut.short);
    front = subst (λ (t : List ℕ). Appends (held was) (held is) t) (sym (take-append-add one other cut.count)) (Appends-then (held was) (held then) (held is) one (take cut.count other) first.whole cut.front);
  }
