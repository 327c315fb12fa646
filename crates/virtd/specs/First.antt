-- What a daemon does before it serves anybody.
use Rattle.std.specs.Prelude.{List, Option, None, Some, Bool, true, false}
use Rattle.std.specs.List.{list_all}
use Rattle.daemon.specs.Below.held_tasks.OfOutcomes.{Outcome}
use Rattle.virt_types.specs.declared.request.Request.{Request}
use Rattle.virt_types.specs.declared.value.Reply.{Reply}
use Rattle.virt_types.specs.declared.value.Reply.TheVariants as reply
use Rattle.virtd.specs.declared.first.First.{First}
use Rattle.virtd.specs.declared.first.First.TheVariants.{Make, Start}

-- the requests that it makes: those which the store says, or the program's own
abbrev pub firsts : First → List Request → List Request
firsts Start found = found
firsts (Make requests) found = requests

-- the reply says that it was done
abbrev pub is_done : Reply → Bool
is_done (reply.Ok value) = true
is_done (reply.No why) = false

-- all of these were done
abbrev pub all_done : List Outcome → Bool
all_done outcomes = list_all (λ o. is_done o.reply) outcomes

-- whether somebody is served after them: where there was memory for them, and the program's own were all done
abbrev pub goes_on : First → Option (List Outcome) → Bool
goes_on first None = false
goes_on Start (Some outcomes) = true
goes_on (Make requests) (Some outcomes) = all_done outcomes
