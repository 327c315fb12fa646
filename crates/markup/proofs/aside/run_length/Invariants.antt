use Rattle.std.proofs.Common.{◌≡◌, ◌+◌, length}
use Rattle.std.specs.List.{prefix_len}
use Rattle.text_spec.specs.Character.{is_run_char}
use Rattle.markup.proofs.aside.run_length.Given as goal

abbrev pub invariant-loop-c : goal.invariant-loop-c
invariant-loop-c l =
    (prefix_len is_run_char l.chars ≡ l.count + prefix_len is_run_char l.rest) × (l.count + length l.rest ≡ length l.chars)

abbrev pub decreases-loop-c : goal.decreases-loop-c
decreases-loop-c l = length l.rest
