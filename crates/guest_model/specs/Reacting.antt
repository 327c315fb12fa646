-- How a modelled guest is made, and what one call of it does.
use Rattle.std.specs.Prelude.{◌≡◌, ℕ, ◌⊎◌, [], None}
use Rattle.guest_model.specs.Machine.{counted, reaction}
use Rattle.guest_model.specs.declared.guest.SimGuest.{SimGuest}
use Rattle.virt_types.specs.declared.answer.Answer.{Answer}
use Rattle.virt_types.specs.declared.answer.Answer.TheVariants as answer
use Rattle.virt_types.specs.declared.ask.Command.{Command}
use Rattle.virt_types.specs.declared.ask.Command.TheVariants as command
use Rattle.virt_types.specs.Below.types_base.declared.domain_def.DomainDef.{DomainDef}

-- a guest of this definition that has had no command yet
abbrev pub made : DomainDef → ℕ → SimGuest
made def boot = record {
  script = def.guest.entries;
  boot = boot;
  commands = 0;
  memory = def.current_memory;
  rest = 0;
  queue = [];
  ended = None;
  counts = record { ends = 0; faults = 0 };
}

-- the commands that take memory
abbrev pub TakesMemory : Command → Type 0
TakesMemory command.CopyTake = Unit {0}
TakesMemory command.Powerdown = Unit {0}
TakesMemory (command.Kick number) = Unit {0}
TakesMemory other = ⊥

-- the machine answered, and its answer was counted
pub record IsReaction (before : SimGuest) (command : Command) (result : Answer) (after : SimGuest) : Type 0 where
  pub answer : result ≡ (reaction before command).answer
  pub guest : after ≡ counted (reaction before command)

-- there was no memory for the command, and nothing changed
pub record IsWithoutMemory (before : SimGuest) (command : Command) (result : Answer) (after : SimGuest) : Type 0 where
  pub takes : TakesMemory command
  pub answer : result ≡ answer.NoMemory
  pub guest : after ≡ before

-- the machine answered, or there was no memory
abbrev pub Reacts : SimGuest → Command → Answer → SimGuest → Type 0
Reacts before command result after = IsReaction before command result after ⊎ IsWithoutMemory before command result after
