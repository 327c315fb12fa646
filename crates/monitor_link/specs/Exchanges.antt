-- What a monitor reports of the commands that it was sent.
use Rattle.std.specs.Prelude.{◌≡◌, List, [], ◌∷◌, ◌++◌, Option, Some, None}
use Rattle.monitor_link.specs.declared.exchange.Exchange.{Exchange}
use Rattle.virt_types.specs.declared.answer.Answer.{Answer}
use Rattle.virt_types.specs.declared.answer.Answer.TheVariants as answer
use Rattle.virt_types.specs.declared.ask.Command.{Command}

-- a command and its answer are added; one that found no memory was not sent
abbrev pub exchanges_after : List Exchange → Command → Answer → List Exchange
exchanges_after exchanges command answer.NoMemory = exchanges
exchanges_after exchanges command answer = exchanges ++ record { command = command; answer = answer } ∷ []

-- where a monitor reports its exchanges, it reports this one after them
abbrev pub Reports : Option (List Exchange) → Option (List Exchange) → Command → Answer → Type 0
Reports None now command answer = Unit {0}
Reports (Some exchanges) now command answer = now ≡ Some (exchanges_after exchanges command answer)

-- no command was sent yet
abbrev pub HasNoExchange : Option (List Exchange) → Type 0
HasNoExchange None = Unit {0}
HasNoExchange (Some exchanges) = exchanges ≡ []
