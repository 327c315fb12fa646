-- What the caller is told of what the domain said.
use Rattle.std.specs.Prelude.{◌≡◌, ◌⊎◌, Bool, true, false, Option, None, Some}
use Rattle.domain_obj.specs.declared.place.Seen.{Seen}
use Rattle.domain_obj.specs.declared.queries.Queried.{Queried}
use Rattle.domain_obj.specs.declared.queries.Queried.TheVariants as queried
use Rattle.domain_obj.specs.Replies.{TellsSpent}
use Rattle.domain_spec.specs.Refusals.{bare}
use Rattle.domain_obj.specs.Below.refusals.Replies.{no_memory_reply}
use Rattle.outcome_spec.specs.Below.reply_texts.Printed.{told}
use Rattle.virt_types.specs.Below.types_base.declared.caller.Front.{Front}
use Rattle.virt_types.specs.Below.types_base.declared.refusal.RefusalCode.TheVariants as code
use Rattle.virt_types.specs.declared.value.Reply.{Reply}
use Rattle.virt_types.specs.declared.value.Reply.TheVariants as reply
use Rattle.virt_types.specs.declared.value.Value.{Value}
use Rattle.virt_types.specs.declared.value.Value.TheVariants as value

-- values that callers are told in another form, which takes memory
abbrev pub is_printed : Value → Bool
is_printed (value.Reference row) = true
is_printed (value.Definition d) = true
is_printed (value.Live l) = true
is_printed (value.Snapshot s) = true
is_printed (value.MigratedGuest g) = true
is_printed other = false

-- replies that are told in another form
abbrev pub takes_memory : Reply → Bool
takes_memory (reply.Ok v) = is_printed v
takes_memory (reply.No why) = false

-- the reply as it is told; only for one that is told in another form there may be no memory
abbrev pub IsPrinted : Reply → Reply → Type 0
IsPrinted said r = (r ≡ told said) ⊎ ((takes_memory said ≡ true) × (r ≡ no_memory_reply))

-- what is said of a query
abbrev pub TellsQueried : Queried → Reply → Type 0
TellsQueried (queried.Read r seen) said = said ≡ r
TellsQueried (queried.NoMemory seen) said = said ≡ no_memory_reply
TellsQueried queried.Spent said = TellsSpent said

-- what the pass saw in the query's turn
abbrev pub seen_by : Queried → Option Seen
seen_by (queried.Read r seen) = Some seen
seen_by (queried.NoMemory seen) = Some seen
seen_by queried.Spent = None

-- and how far the history went there
abbrev pub front_by : Queried → Option Front
front_by (queried.Read r seen) = Some seen.front
front_by (queried.NoMemory seen) = Some seen.front
front_by queried.Spent = None

-- what is told of a domain of which nothing was seen: no front is shorter, and it may be occupied
abbrev pub unseen : Seen
unseen = record { front = record { chapter = 0; marks = 0 }; occupied = true }

-- what is not built yet
abbrev pub not_built_reply : Reply
not_built_reply = reply.No (bare code.NotBuilt)
