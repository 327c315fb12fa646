-- What comes of a request rests on what its outcome names.
use Rattle.std.proofs.Common.{◌≡◌, ℕ, List, Bool, true, false, Option, None, inl, inr, refl, sym, ap, ◌∙◌, subst}
use Rattle.domain_spec.specs.Types.{Reply, Who}
use Rattle.held_tasks.proofs.OfRows.{no_room, ran_out}
use Rattle.held_tasks.specs.OfRows.{DriverRow, known_row}
use Rattle.files_disk.specs.Telling.{Told}
use Rattle.held_tasks.proofs.Requests.{queries_now, tasks_answer}
use Rattle.held_tasks.proofs.Results.{now, outcome}
use Rattle.held_tasks.specs.Laws.{FindsTask}
use Rattle.held_tasks.specs.OfRequests.{Task}
use Rattle.held_tasks.specs.OfOutcomes.{HasGone, HasOutcome, IsNow, IsOfNobody, IsOfStore, KnownRow, Outcome, ReadsNow, is_read}
use Rattle.request_asks.specs.Found.{IsFound, Leaves, restored_from}
use Rattle.request_asks.specs.declared.asked.Asked.{Asked}
use Rattle.request_asks.specs.declared.asked.Asked.TheVariants as asked
use Rattle.slot_holds.specs.Holds.{call_of}
use Rattle.slot_holds.specs.declared.Hold.{Hold}
use Rattle.held_tasks.specs.OfDesks.{StorePass}
use Rattle.virt_types.specs.declared.ask.GuestEvent.{GuestEvent}
use Rattle.virt_types.specs.Below.types_base.declared.caller.CellName.{CellName}
use Rattle.virt_types.specs.Below.types_base.declared.caller.CellName.TheVariants as cell
use Rattle.virt_types.specs.Below.types_base.declared.caller.Front.{Front}
use Rattle.virt_types.specs.declared.request.Request.{Request}
use Rattle.virt_types.specs.declared.value.Reply.TheVariants as reply
use Rattle.driver.specs.Called.{CameTo, of_nobody, of_store}
use Rattle.driver.proofs.Requests.{asks_for, connection_of, not_restored, reads_no_image, restores_change, spent_store}

-- ---- answers that no domain gives

nobody : (before after : KnownRow) (r : Request) (said : Reply) (o : Outcome) → o ≡ of_nobody said → IsOfNobody r said → HasOutcome before after r o
nobody before after r said o is decides = subst (λ (x : Outcome). HasOutcome before after r x) (sym is) (inl decides)

store : (before after : KnownRow) (r : Request) (front : Front) (said : Reply) (o : Outcome) → o ≡ of_store front said → IsOfStore before after r front said → HasOutcome before after r o
store before after r front said o is decides = subst (λ (x : Outcome). HasOutcome before after r x) (sym is) (inl decides)

-- nothing is said of what was not read
nowhere : (row : KnownRow) (b : Bool) (front : Front) → IsNow row b cell.Nowhere front
nowhere row true front = tt
nowhere row false front = tt

now_nowhere : (row : KnownRow) (r : Request) (o : Outcome) → o.cell ≡ cell.Nowhere → ReadsNow row r o
now_nowhere row r o is = subst (λ (c : CellName). IsNow row (is_read r) c o.front) (sym is) (nowhere row (is_read r) o.front)

unread : (row : KnownRow) (r : Request) (o : Outcome) → o.cell ≡ cell.Store → is_read r ≡ false → ReadsNow row r o
unread row r o is changes =
    subst (λ (c : CellName). IsNow row (is_read r) c o.front) (sym is) (subst (λ (b : Bool). IsNow row b cell.Store o.front) (sym changes) tt)

module _ {G : Type 0} where
  -- the row stayed as it was where no image was read
  same_row : (before had : DriverRow G) → had ≡ record before { store = had.store } → had.store ≡ before.store → had ≡ before
  same_row before had row same = row ∙ ap (λ (p : StorePass). record before { store = p }) same

  module _ {F : Type 0} (told : F → Told) (store_faults : F → ℕ) where
    unchanged : (before had : DriverRow G) (r : Request) (a : Asked) → had ≡ record before { store = had.store } → restored_from r ≡ None → Leaves told store_faults (restored_from r) a before.store had.store → had ≡ before
    unchanged before had r a row none leaves =
        same_row before had row (subst (λ (from : Option (List ℕ)). Leaves told store_faults from a before.store had.store) none leaves)

  finds : (before had : DriverRow G) (words : List ℕ) (r : Request) (hold : Hold) (t : Task) → had ≡ record before { store = had.store } → IsFound before.store had.store words r (asked.Task hold t)
      → FindsTask (known_row before) (known_row had) r (call_of hold) t
  finds before had words r hold t row found = record {
    asks = found.asks (known_row before) (known_row had) refl refl;
    built = found.heard.built;
    row = ap known_row row;
  }

  module _ {F E : Type 0} (told : F → Told) (maker : G → ℕ) (ends faults : E → ℕ) (unheard : E → Option (List GuestEvent)) (store_faults : F → ℕ) where
    -- what the outcome names is what the reply rests on
    pub answers : (who : Who) (r : Request) (words : List ℕ) (a : Asked) (before had after : DriverRow G) (o : Outcome) → had ≡ record before { store = had.store } → IsFound before.store had.store words r a
        → Leaves told store_faults (restored_from r) a before.store had.store → CameTo told maker ends faults unheard store_faults who a had after o → HasGone (known_row had) (known_row after) → HasOutcome (known_row before) (known_row after) r o
    answers who r words (asked.Task hold t) before had after o row found leaves came gone =
        tasks_answer (known_row before) (known_row had) (known_row after) r (call_of hold) t o (finds before had words r hold t row found)
        (outcome told store_faults maker ends faults unheard who (call_of hold) t had after o came) gone
    answers who r words (asked.List listing) before had after o row found leaves came gone =
        subst (λ (b : DriverRow G). HasOutcome (known_row b) (known_row after) r o)
        (unchanged told store_faults before had r (asked.List listing) row (reads_no_image (asked.List listing) r found.asks) leaves)
        (subst (λ (q : Request). HasOutcome (known_row had) (known_row after) q o) (sym (asks_for listing r found.asks)) came.outcome)
    answers who r words asked.Connection before had after o row found leaves came gone =
        nobody (known_row before) (known_row after) r _ o came.is (inl (connection_of r found.asks))
    answers who r words (asked.Refused why) before had after o row found leaves came gone =
        nobody (known_row before) (known_row after) r (reply.No why) o came.is (inr (why, refl, found.asks))
    answers who r words (asked.NotRestored why front) before had after o row found leaves came gone =
        store (known_row before) (known_row after) r front (reply.No why) o came.is
        (subst (λ (k : DriverRow G). IsOfStore (known_row before) (known_row k) r front (reply.No why)) (sym came.same)
        (not_restored before.store had.store (known_row before) (known_row had) why front refl refl r found.asks))
    answers who r words asked.NoMemory before had after o row found leaves came gone =
        inr (no_room (known_row after) o.reply (ap (λ (x : Outcome). x.reply) came.is))
    answers who r words asked.Spent before had after o row found leaves came gone =
        inr (ran_out (known_row after) o.reply
        (inr (inl (ap (λ (k : DriverRow G). k.store.spent) came.same ∙ spent_store before.store had.store r found.asks))) came.tells)

    -- a request that reads has read what the row has seen when it comes back
    pub reads : (who : Who) (r : Request) (words : List ℕ) (a : Asked) (before had after : DriverRow G) (o : Outcome) → had ≡ record before { store = had.store } → IsFound before.store had.store words r a
        → CameTo told maker ends faults unheard store_faults who a had after o → ReadsNow (known_row after) r o
    reads who r words (asked.Task hold t) before had after o row found came =
        queries_now (known_row before) (known_row had) (known_row after) r (call_of hold) t o (finds before had words r hold t row found)
        (now told store_faults maker ends faults unheard who (call_of hold) t had after o came)
    reads who r words (asked.List listing) before had after o row found came =
        subst (λ (q : Request). ReadsNow (known_row after) q o) (sym (asks_for listing r found.asks)) came.now
    reads who r words asked.Connection before had after o row found came = now_nowhere (known_row after) r o (ap (λ (x : Outcome). x.cell) came.is)
    reads who r words (asked.Refused why) before had after o row found came = now_nowhere (known_row after) r o (ap (λ (x : Outcome). x.cell) came.is)
    reads who r words (asked.NotRestored why front) before had after o row found came =
        unread (known_row after) r o (ap (λ (x : Outcome). x.cell) came.is) (restores_change before.store had.store why front r found.asks)
    reads who r words asked.NoMemory before had after o row found came = now_nowhere (known_row after) r o (ap (λ (x : Outcome). x.cell) came.is)
    reads who r words asked.Spent before had after o row found came = now_nowhere (known_row after) r o came.name
