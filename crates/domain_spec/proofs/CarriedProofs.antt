-- Why a Destroy carries no boot that it likes.
use Rattle.std.proofs.Common.{◌≡◌, ℕ, inl, inr, Option, Some, arith}
use Rattle.domain_spec.specs.CallLaws.{DestroyCarriesItsBoot}
use Rattle.domain_spec.proofs.ExitProofs.{live_boot-exit}

other_boot : (boot : Option ℕ) (n : ℕ) → boot ≡ Some 2 → boot ≡ Some n → n ≡ 2
other_boot boot n e f = cc

pub destroy_carries_its_boot : DestroyCarriesItsBoot
destroy_carries_its_boot b why live boots = record {
  not_zero = λ e. let two = other_boot _ 0 live e in absurd (omega arith);
  not_one = λ e. let two = other_boot _ 1 live e in absurd (omega arith);
  not_none = λ e. cc;
  waited = inl live;
  saw_none = inr (live_boot-exit b.state why);
  later_chapter = inr (omega arith, omega arith);
}
