-- The steps of a phase, each of which makes one ask.
use Rattle.std.specs.Prelude.{List, [], ℕ, Option, None, Some}
use Rattle.domain_spec.specs.Types.{Answer, Ask, Call, Domain, Live, Op}
use Rattle.domain_spec.specs.Types.ask
use Rattle.domain_spec.specs.Types.call
use Rattle.domain_spec.specs.Types.command
use Rattle.domain_spec.specs.Types.image
use Rattle.domain_spec.specs.declared.loaded.Loaded.{Loaded}
use Rattle.domain_spec.specs.Asks.{first_value}
use Rattle.domain_spec.specs.PhaseAsks.{copied_bytes, loaded_of}
use Rattle.save_core.specs.declared.loaded_from.LoadedFrom.{LoadedFrom}
use Rattle.save_core.specs.declared.steps.Step.{Step}
use Rattle.save_core.specs.declared.steps.Step.TheVariants as step

-- what is loaded, as it lies in an image or a snapshot
abbrev pub loaded_now : LoadedFrom → Loaded
loaded_now from = record { definition = from.definition.now; ran = from.ran; saved = from.saved.now }

-- the bytes that are loaded; none where nothing is
abbrev pub saved_in : Option Loaded → List ℕ
saved_in None = []
saved_in (Some loaded) = loaded.saved

-- the ask that writes what was taken; only a save and a dump write
abbrev pub written : Live → Op → Call → List Answer → Ask
written l op (call.Save name) answers = ask.WriteImage name image.Save op.was_running l.def (copied_bytes (first_value answers))
written l op (call.Dump name) answers = ask.WriteImage name image.Dump op.was_running l.def (copied_bytes (first_value answers))
written l op other answers = ask.Command command.CopyTake

-- the ask that a step makes
abbrev pub ask_of : Domain → Live → Op → Call → List Answer → Step → Ask
ask_of d l op c answers step.Stop = ask.Command command.Stop
ask_of d l op c answers step.Begin = ask.Command command.CopyBegin
ask_of d l op c answers step.Poll = ask.Command command.CopyPoll
ask_of d l op c answers step.Take = ask.Command command.CopyTake
ask_of d l op c answers step.Write = written l op c answers
ask_of d l op c answers step.GiveUp = ask.Command command.CopyCancel
ask_of d l op c answers step.Load = ask.Command (command.LoadState (saved_in (loaded_of d c)))
ask_of d l op c answers step.Cont = ask.Command command.Cont
ask_of d l op c answers step.Quit = ask.Command command.Quit
