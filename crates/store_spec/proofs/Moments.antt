-- What a crash leaves from moment to moment.
use Rattle.std.proofs.Common.{◌≤◌, ◌++◌, List, ℕ, length, sym, subst, arith, length-append}
use Rattle.std.proofs.lemmas.List.{take_all, take-append-le}
use Rattle.store_spec.specs.declared.operation.Operation.{Operation}
use Rattle.store_spec.specs.Directory.{Directory}
use Rattle.store_spec.specs.Disk.{LeftSince, MayLeave}
use Rattle.store_spec.specs.Laws.{MomentsGoOn}

pub left_now : (os : List Operation) (left : Directory) → MayLeave os left → LeftSince (length os) os left
left_now os left m = record {
  at = length os;
  later = omega arith;
  so_far = omega arith;
  leaves = subst (λ (l : List Operation). MayLeave l left) (sym (take_all (length os) os (omega arith))) m;
}

pub only_now : (os : List Operation) (left : Directory) → LeftSince (length os) os left → MayLeave os left
only_now os left s = subst (λ (l : List Operation). MayLeave l left) (take_all s.at os (omega (arith, s.later))) s.leaves

pub since_earlier : (os : List Operation) (left : Directory) (since earlier : ℕ) → earlier ≤ since → LeftSince since os left → LeftSince earlier os left
since_earlier os left since earlier le s = record { at = s.at; later = omega (arith, le, s.later); so_far = s.so_far; leaves = s.leaves }

pub since_more : (os : List Operation) (left : Directory) (since : ℕ) (more : List Operation) → LeftSince since os left → LeftSince since (os ++ more) left
since_more os left since more s = record {
  at = s.at;
  later = s.later;
  so_far = omega (arith, s.so_far, length-append os more);
  leaves = subst (λ (l : List Operation). MayLeave l left) (sym (take-append-le s.at os more s.so_far)) s.leaves;
}

pub moments_go_on : MomentsGoOn
moments_go_on os left = ((only_now os left, left_now os left), since_earlier os left, since_more os left)
