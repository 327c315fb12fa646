-- What became of a request: what it asks was found out, and then that was done.
use Rattle.std.specs.Prelude.{◌≡◌, ℕ, List, Option}
use Rattle.held_tasks.specs.OfObjects.{TellsSpent}
use Rattle.domain_spec.specs.Types.{Reply, Who}
use Rattle.held_tasks.specs.OfRows.{DriverRow, known_row, no_front}
use Rattle.driver_lists.specs.Unmarked.{LeavesNoMark}
use Rattle.files_disk.specs.Telling.{Told}
use Rattle.held_tasks.specs.Course.{HasServedHeld}
use Rattle.held_tasks.specs.OfOutcomes.{HasOutcome, Outcome, ReadsNow}
use Rattle.refusals.specs.Replies.{no_memory_reply}
use Rattle.request_asks.specs.Found.{IsFound, Leaves, restored_from}
use Rattle.request_asks.specs.declared.asked.Asked.{Asked}
use Rattle.request_asks.specs.declared.asked.Asked.TheVariants as asked
use Rattle.request_asks.specs.declared.asked.Listing.{Listing}
use Rattle.request_asks.specs.declared.asked.Listing.TheVariants as listing
use Rattle.slot_holds.specs.Holds.{call_of}
use Rattle.virt_types.specs.declared.ask.GuestEvent.{GuestEvent}
use Rattle.virt_types.specs.Below.types_base.declared.caller.CellName.TheVariants as cell
use Rattle.virt_types.specs.Below.types_base.declared.caller.Front.{Front}
use Rattle.virt_types.specs.declared.request.Request.{Request}
use Rattle.virt_types.specs.declared.request.Request.TheVariants as request
use Rattle.virt_types.specs.declared.value.Reply.TheVariants as reply
use Rattle.virt_types.specs.declared.value.Value.TheVariants as value

-- this answer, which no cell decides
abbrev pub of_nobody : Reply → Outcome
of_nobody said = record { reply = said; cell = cell.Nowhere; front = no_front }

-- a refusal that a mark of the store at this place decides
abbrev pub of_store : Front → Reply → Outcome
of_store front said = record { reply = said; cell = cell.Store; front = front }

-- the request that asks for a list
abbrev pub request_of : Listing → Request
request_of listing.All = request.ListAll
request_of (listing.Idle most) = request.ListDefinedDomains most
request_of listing.Titles = request.Titles

module _ {G : Type 0} where
  -- which passes a list lets go on, with the rest of the row the same: that of the store for titles, and else those of the list
  -- and of the domains
  abbrev pub LetsGoOn : Listing → DriverRow G → DriverRow G → Type 0
  LetsGoOn listing.All before after = after ≡ record before { list = after.list; domains = after.domains }
  LetsGoOn (listing.Idle most) before after = after ≡ record before { list = after.list; domains = after.domains }
  LetsGoOn listing.Titles before after = after ≡ record before { store = after.store }

  -- the domains were listed without a mark, and nobody else was asked anything
  pub record HasListed (l : Listing) (before after : DriverRow G) (o : Outcome) : Type 0 where
    pub outcome : HasOutcome (known_row before) (known_row after) (request_of l) o
    pub now : ReadsNow (known_row after) (request_of l) o
    pub others : LetsGoOn l before after
    pub unmarked : LeavesNoMark before after

  -- nothing more was done, and this is the answer
  pub record IsAnswered (said : Outcome) (before after : DriverRow G) (o : Outcome) : Type 0 where
    pub same : after ≡ before
    pub is : o ≡ said

  -- no ticket was left
  pub record HasRunOut (before after : DriverRow G) (o : Outcome) : Type 0 where
    pub same : after ≡ before
    pub tells : TellsSpent o.reply
    pub name : o.cell ≡ cell.Nowhere

  module _ {F E : Type 0} (told : F → Told) (maker : G → ℕ) (ends faults : E → ℕ) (unheard : E → Option (List GuestEvent)) where
    -- what was done of what was asked
    abbrev pub CameTo : (F → ℕ) → Who → Asked → DriverRow G → DriverRow G → Outcome → Type 0
    CameTo store_faults who (asked.Task hold t) before after o = HasServedHeld told store_faults maker ends faults unheard who (call_of hold) t before after o
    CameTo store_faults who (asked.List listing) before after o = HasListed listing before after o
    CameTo store_faults who asked.Connection before after o = IsAnswered (of_nobody (reply.Ok value.Nothing)) before after o
    CameTo store_faults who (asked.Refused why) before after o = IsAnswered (of_nobody (reply.No why)) before after o
    CameTo store_faults who (asked.NotRestored why front) before after o = IsAnswered (of_store front (reply.No why)) before after o
    CameTo store_faults who asked.NoMemory before after o = IsAnswered (of_nobody no_memory_reply) before after o
    CameTo store_faults who asked.Spent before after o = HasRunOut before after o

    -- with these words drawn for what a text lacks, it was found out what the request asks, for which at most the row's pass of
    -- the store took a turn; and then that was done
    pub record HasCalled (store_faults : F → ℕ) (who : Who) (r : Request) (words : List ℕ) (before after : DriverRow G) (o : Outcome) : Type 0 where
      pub asked : Asked
      pub had : DriverRow G
      pub row : had ≡ record before { store = had.store }
      pub found : IsFound before.store had.store words r asked
      pub leaves : Leaves told store_faults (restored_from r) asked before.store had.store
      pub came : CameTo store_faults who asked had after o
