-- What ears report of the events that are still to be heard.
use Rattle.std.specs.Prelude.{◌≡◌, List, ◌∷◌, Option, None, option_map}
use Rattle.monitor_link.specs.declared.link.Heard.{Heard}
use Rattle.monitor_link.specs.declared.link.Heard.TheVariants as heard
use Rattle.virt_types.specs.declared.ask.GuestEvent.{GuestEvent}

-- an event that is heard was the first; whatever else is heard, none is lost
abbrev pub Hears : Option (List GuestEvent) → Option (List GuestEvent) → Heard → Type 0
Hears None now heard = Unit {0}
Hears before now (heard.Event event) = before ≡ option_map (λ rest. event ∷ rest) now
Hears before now other = now ≡ before
