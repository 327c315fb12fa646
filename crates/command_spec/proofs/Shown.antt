-- A table of one domain.
use Rattle.std.proofs.Common.{◌<◌, ◌≤◌, [], refl, arith}
use Rattle.std.specs.Fmt.{char_count}
use Rattle.command_spec.specs.Laws.{ShowsShutOff}

pub shows_shut_off : ShowsShutOff
unfolding char_count
shows_shut_off uuid = record { ordered = _; same = record { moves = []; below = tt; is = refl }; rising = λ k d low below. absurd (omega (arith, below)); text_is = refl }
