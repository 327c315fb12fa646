-- Command lines: the job that words ask for, or the first word that fits no command.
use Rattle.std.specs.Prelude.{◌-◌, List, ◌∷◌, Option, Result, Ok}
use Rattle.command_spec.specs.Reading.{Left, Word, ◌>>=◌, all_of, ended, first_address, first_form, first_listen, first_listens, first_number, first_two, first_word}
use Rattle.command_spec.specs.declared.command.Command.{Command}
use Rattle.command_spec.specs.declared.command.Command.TheVariants as command
use Rattle.command_spec.specs.declared.command.Job.{Job}
use Rattle.command_spec.specs.declared.fault.WordFault.{WordFault}
use Rattle.command_spec.specs.declared.form.Flag.{Flag}
use Rattle.command_spec.specs.declared.form.Form.{Form}
use Rattle.command_spec.specs.declared.form.Form.TheVariants as form
use Rattle.command_spec.specs.declared.form.NumberVerb.{NumberVerb}
use Rattle.command_spec.specs.declared.limits.TheConstants.{MOST_DIGITS, MOST_LISTENS, MOST_MEMORY_DIGITS}

-- a domain and a number
unfoldable pub first_numbered : NumberVerb → Left → Result (Command × Left) WordFault
first_numbered verb l = do
  name ← first_word l
  n ← first_number MOST_DIGITS name.1
  Ok (command.Number verb name.0 n.0, n.1)

-- a domain and a memory
unfoldable pub first_memory : Left → Result (Command × Left) WordFault
first_memory l = do
  name ← first_word l
  n ← first_number MOST_MEMORY_DIGITS name.1
  Ok (command.SetMem name.0 n.0, n.1)

-- a number, and 1 to 16 addresses with domains
unfoldable pub first_events : Left → Result (Command × Left) WordFault
first_events l = do
  count ← first_number MOST_DIGITS l
  one ← first_listen count.1
  more ← first_listens (MOST_LISTENS - 1) one.1
  Ok (command.Events count.0 (one.0 ∷ more.0), more.1)

-- what follows the word of a command
abbrev pub first_command : Form → Left → Result (Command × Left) WordFault
first_command (form.Plain verb) l = Ok (command.Plain verb, l)
first_command (form.File verb) l = first_word l >>= λ file. Ok (command.File verb file.0, file.1)
first_command form.Restore l = first_word l >>= λ image. Ok (command.Restore image.0, image.1)
first_command (form.Domain verb) l = first_word l >>= λ name. Ok (command.Domain verb name.0, name.1)
first_command (form.Number verb) l = first_numbered verb l
first_command form.SetMem l = first_memory l
first_command (form.DomainFile verb) l = first_two l >>= λ two. Ok (command.DomainFile verb two.0.0 two.0.1, two.1)
first_command (form.Image verb) l = first_two l >>= λ two. Ok (command.Image verb two.0.0 two.0.1, two.1)
first_command (form.Snapshot verb) l = first_two l >>= λ two. Ok (command.Snapshot verb two.0.0 two.0.1, two.1)
first_command (form.Network verb) l = first_word l >>= λ name. Ok (command.Network verb name.0, name.1)
first_command (form.Pool verb) l = first_word l >>= λ name. Ok (command.Pool verb name.0, name.1)
first_command form.VolCreate l = first_two l >>= λ two. Ok (command.VolCreate two.0.0 two.0.1, two.1)
first_command (form.Volume verb) l = first_two l >>= λ two. Ok (command.Volume verb two.0.0 two.0.1, two.1)
first_command form.Events l = first_events l

-- a command with its option, up to the end
unfoldable pub whole_command : Left → Result (Command × Option Flag) WordFault
whole_command l = do
  shape ← first_form l
  asked ← first_command shape.0 shape.1
  option ← ended asked.1
  Ok (asked.0, option)

-- `virsh [-c ADDRESS] COMMAND WORDS`
unfoldable pub job_of : List Word → Result Job WordFault
job_of words = do
  address ← first_address (all_of words)
  asked ← whole_command address.1
  Ok (record { address = address.0; command = asked.0; option = asked.1 })
