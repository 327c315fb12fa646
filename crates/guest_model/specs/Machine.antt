-- What a modelled guest answers to a command, and what it is afterwards.
use Rattle.std.specs.Prelude.{ℕ, ◌+◌, ◌-◌, ◌^◌, ◌==◌, List, [], ◌∷◌, ◌++◌, length, min, Option, Some, None, if◌then◌else◌}
use Rattle.std.specs.Int.{w64, to_be_bytes, from_be_bytes}
use Rattle.guest_model.specs.declared.guest.SimGuest.{SimGuest}
use Rattle.guest_model.specs.declared.happening.Happening.{Happening}
use Rattle.guest_model.specs.declared.happening.Happening.TheVariants as happening
use Rattle.guest_model.specs.Script.{act_at, slowness, stalls}
use Rattle.monitor_link.specs.Counting.{after_answer}
use Rattle.virt_types.specs.declared.answer.Answer.{Answer}
use Rattle.virt_types.specs.declared.answer.Answer.TheVariants as answer
use Rattle.virt_types.specs.declared.answer.AnswerValue.TheVariants as given
use Rattle.virt_types.specs.declared.ask.Command.{Command}
use Rattle.virt_types.specs.declared.ask.Command.TheVariants as command
use Rattle.virt_types.specs.declared.ask.GuestEvent.TheVariants as event
use Rattle.virt_types.specs.declared.run_state.EndReason.{EndReason}
use Rattle.virt_types.specs.declared.run_state.EndReason.TheVariants as reason
use Rattle.virt_types.specs.Below.types_base.declared.script.ScriptAct.{ScriptAct}
use Rattle.virt_types.specs.Below.types_base.declared.script.ScriptAct.TheVariants as act

-- an answer, and the guest after it
pub record Reaction : Type 0 where
  pub answer : Answer
  pub guest : SimGuest

-- this answer, by the guest as it is now
abbrev pub react : Answer → SimGuest → Reaction
react a g = record { answer = a; guest = g }

-- the command was done, and gives nothing
abbrev pub done : SimGuest → Reaction
done g = react (answer.Ok given.Nothing) g

-- the number of the command that comes next; it stays at 2^62
abbrev pub next_command : SimGuest → ℕ
next_command g = min (g.commands + 1) (2 ^ 62)

-- these are to be heard after the others
abbrev pub queued : List Happening → SimGuest → SimGuest
queued more g = record g { queue = g.queue ++ more }

-- it shuts down by itself: that is heard, and then its end
abbrev pub shutdown : List Happening
shutdown = happening.Event event.Shutdown ∷ happening.End reason.Shutdown ∷ []

-- what a kick makes it do by itself
abbrev pub kicked : ℕ → List Happening
kicked number =
    (if number == 1 then shutdown
    else (if number == 2 then happening.Event event.Panic ∷ []
    else (if number == 3 then happening.End reason.Crashed ∷ []
    else (if number == 4 then happening.Event event.Stop ∷ []
    else (if number == 5 then happening.Event event.Resume ∷ [] else [])))))

-- a poll takes one off what is left of the copy, unless the script stalls
abbrev pub polled : SimGuest → ℕ
polled g = (if stalls g.script then g.rest else g.rest - 1)

-- a state of 8 bytes is the memory, the highest byte first
abbrev pub loaded : List ℕ → SimGuest → Reaction
loaded bytes g = (if length bytes == 8 then done (record g { memory = from_be_bytes w64 bytes }) else react (answer.Refused 2) g)

-- the answer of a live guest of which the script says nothing
abbrev pub obeyed : SimGuest → Command → Reaction
obeyed g command.QueryMemory = react (answer.Ok (given.Number g.memory)) g
obeyed g (command.SetMemory kib) = done (record g { memory = kib })
obeyed g command.CopyBegin = done (record g { rest = slowness g.script })
obeyed g command.CopyPoll = react (answer.Ok (given.Number (polled g))) (record g { rest = polled g })
obeyed g command.CopyTake = react (answer.Ok (given.Bytes (to_be_bytes w64 g.memory))) g
obeyed g (command.LoadState bytes) = loaded bytes g
obeyed g command.Powerdown = done (queued shutdown g)
obeyed g command.Quit = done (record g { ended = Some reason.Killed })
obeyed g (command.Kick number) = done (queued (kicked number) g)
obeyed g other = done g

-- what the script has in place of an answer
abbrev pub acted : SimGuest → ScriptAct → Reaction
acted g act.End = react (answer.Ended reason.Crashed) (record g { ended = Some reason.Crashed })
acted g act.Refuse = react (answer.Refused 1) g
acted g act.Lost = react answer.Lost g

-- the script comes first
abbrev pub lived : SimGuest → Option ScriptAct → Command → Reaction
lived g (Some act) command = acted g act
lived g None command = obeyed g command

-- the guest has had so many commands
abbrev pub numbered : ℕ → Reaction → Reaction
numbered commands r = react r.answer (record r.guest { commands = commands })

-- a live guest counts the command and answers it
abbrev pub alive : SimGuest → Command → Reaction
alive g command = numbered (next_command g) (lived g (act_at g.script g.boot (next_command g)) command)

-- once it has ended, it answers so for ever
abbrev pub reacted : SimGuest → Option EndReason → Command → Reaction
reacted g (Some why) command = react (answer.Ended why) g
reacted g None command = alive g command

-- the answer to a command, and the guest after it
abbrev pub reaction : SimGuest → Command → Reaction
reaction g command = reacted g g.ended command

-- that guest with its answer counted
abbrev pub counted : Reaction → SimGuest
counted r = record r.guest { counts = after_answer r.guest.counts r.answer }
