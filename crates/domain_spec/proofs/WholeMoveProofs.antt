-- Why the rows of migrations hold: both sides compute to the same.
use Rattle.std.proofs.Common.{refl}
use Rattle.domain_spec.specs.WholeMove.{MovesAreMade}

pub moves_are_made : MovesAreMade
moves_are_made d l def who = record {
  leaving = record {
    leaves = record { asked = refl; told = refl; led_to = refl; guest = refl };
    gone = record { asked = refl; told = refl; led_to = refl; guest = refl };
    back = record { asked = refl; told = refl; led_to = refl; guest = refl };
    info = refl;
    not_suspended = refl;
    nothing_rests = λ verdict. refl;
  };
  limited = refl;
  coming = record {
    comes = record { asked = refl; told = refl; led_to = refl; guest = refl };
    runs = record { asked = refl; told = refl; led_to = refl; guest = refl };
    dropped = record { asked = refl; told = refl; led_to = refl; guest = refl };
    active = λ e m. refl;
  };
}
