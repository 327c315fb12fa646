-- The titles of the store, by the passes of a row.
use Rattle.std.proofs.Common.{◌≡◌, inl, inr, List, [], true, map, Result, Ok, append-nil, refl, sym, ap, ◌∙◌, subst}
use Rattle.std.specs.List.{All}
use Rattle.atomic_table.specs.Seated.{TableId}
use Rattle.history_spec.proofs.Beginnings.{begins_itself}
use Rattle.def_keeper.specs.Turns.{meaning}
use Rattle.def_keeper.specs.declared.mark.StoreBase.{StoreBase}
use Rattle.def_keeper.specs.declared.mark.StoreMark.{StoreMark}
use Rattle.driver_cells.specs.Known.{DriverRow, known, known_row}
use Rattle.driver_cells.specs.Parts.{KeepsParts, parts_of}
use Rattle.driver_cells.specs.Ready.{IsReadyRow}
use Rattle.driver_cells.proofs.Going.{are_later_itself}
use Rattle.driver_cells.proofs.Passing.{later_itself, later_spent, later_went}
use Rattle.files_disk.specs.Telling.{Told}
use Rattle.driver_cells.specs.OfOutcomes.{AreLater, HasGone, HasOutcome, HasSpent, IsLater, level}
use Rattle.pass_rows.specs.Rows.{IsOf}
use Rattle.turn_cell.specs.Passes.{Passed}
use Rattle.virt_types.specs.Below.types_base.declared.caller.CellName.TheVariants as cell
use Rattle.virt_types.specs.Below.types_base.declared.caller.Front.{Front}
use Rattle.virt_types.specs.Below.types_base.declared.memory.NoMemory.{NoMemory}
use Rattle.virt_types.specs.declared.request.Request.TheVariants as request
use Rattle.virt_types.specs.declared.value.Reply.TheVariants as reply
use Rattle.virt_types.specs.declared.value.TitleRow.{TitleRow}
use Rattle.virt_types.specs.declared.value.Value.TheVariants as value
use Rattle.driver_lists.specs.Titling.{HasReadTitles}
use Rattle.driver_lists.specs.Unmarked.{HasSeenLegal, LeavesNoMark, mine_of}

abbrev pub StorePass : Type 0
StorePass = Passed StoreBase StoreMark (Unit {0})

-- a pass of the store went on without a mark
pub record StoreGoes (before after : StorePass) : Type 0 where
  pub later : IsLater level (known before) (known after)
  pub cell : after.cell ≡ before.cell
  pub parts : after.parts ≡ before.parts
  pub mine : after.mine ≡ before.mine

pub store_spent : (before after : StorePass) → after ≡ record before { spent = true } → StoreGoes before after
store_spent before after is = record { later = later_spent level before after is; cell = ap (λ (p : StorePass). p.cell) is; parts = ap (λ (p : StorePass). p.parts) is; mine = ap (λ (p : StorePass). p.mine) is }

pub store_went : {F : Type 0} (told : F → Told) (rows : Result (List TitleRow) NoMemory) (front : Front) (before after : StorePass) → HasReadTitles told rows front before after → StoreGoes before after
store_went told rows front before after read = record { later = later_went (meaning told) 1 [] before after read.went; cell = read.went.same.cell; parts = read.went.same.parts; mine = read.went.mine ∙ append-nil before.mine }

-- of passes that are these
pub store_goes_at : (before after was is : StorePass) → before ≡ was → after ≡ is → StoreGoes was is → StoreGoes before after
store_goes_at before after was is before_is after_is goes = subst (λ (x : StorePass × StorePass). StoreGoes x.0 x.1) (λ i. (sym before_is i, sym after_is i)) goes

module _ {G : Type 0} where
  -- of a row its pass of the store went on, and the rest of it is the same
  pub record StoreRowGoes (before after : DriverRow G) : Type 0 where
    pub store : StoreGoes before.store after.store
    pub others : after ≡ record before { store = after.store }

  -- by its parts
  pub store_row_goes : (before after was is : DriverRow G) → before ≡ was → after ≡ is → is ≡ record was { store = is.store } → StoreGoes was.store is.store → StoreRowGoes before after
  store_row_goes before after was is before_is after_is others store =
      subst (λ (x : DriverRow G × DriverRow G). StoreRowGoes x.0 x.1) (λ i. (sym before_is i, sym after_is i)) (record { store = store; others = others })

  pub has_gone : (before after : DriverRow G) → StoreRowGoes before after → HasGone (known_row before) (known_row after)
  has_gone before after goes = record {
    list = subst (λ (row : DriverRow G). IsLater level (known before.list) (known row.list)) (sym goes.others) (later_itself level (known before.list));
    store = goes.store.later;
    domains = subst (λ (row : DriverRow G). AreLater (map known before.domains) (map known row.domains)) (sym goes.others) (are_later_itself before.domains);
  }

  pub is_of : (list store : TableId) (domains : List TableId) (before after : DriverRow G) → IsOf list store domains before → StoreRowGoes before after → IsOf list store domains after
  is_of list store domains before after own goes =
      let moved : IsOf list store domains (record before { store = after.store }) = record { list_is = own.list_is; store_is = goes.store.cell ∙ own.store_is; domains_are = own.domains_are } in
      subst (IsOf list store domains) (sym goes.others) moved

  pub keeps_parts : (before after : DriverRow G) → StoreRowGoes before after → KeepsParts before after
  keeps_parts before after goes = record {
    list = ap (λ (row : DriverRow G). row.list.parts) goes.others;
    store = goes.store.parts;
    domains = ap (λ (row : DriverRow G). map parts_of row.domains) goes.others;
  }

  pub no_mark : (before after : DriverRow G) → StoreRowGoes before after → LeavesNoMark before after
  no_mark before after goes = record {
    list = ap (λ (row : DriverRow G). row.list.mine) goes.others;
    store = goes.store.mine;
    domains = ap (λ (row : DriverRow G). map mine_of row.domains) goes.others;
    legal = λ legal. subst (λ (row : DriverRow G). All HasSeenLegal row.domains) (sym goes.others) legal;
  }

  pub is_ready : (before after : DriverRow G) → IsReadyRow before → StoreRowGoes before after → IsReadyRow after
  is_ready before after ready goes =
      let moved : IsReadyRow (record before { store = after.store }) = record { list = ready.list; domains = ready.domains; slots = ready.slots } in
      subst (λ (row : DriverRow G). IsReadyRow row) (sym goes.others) moved

  -- no ticket was left for its pass of the store
  pub store_is_spent : (row is : DriverRow G) (before : StorePass) → row ≡ is → is.store ≡ record before { spent = true } → HasSpent (known_row row)
  store_is_spent row is before same spent = inr (inl (ap (λ (r : DriverRow G). r.store.spent) same ∙ ap (λ (p : StorePass). p.spent) spent))

  -- the titles are told
  pub titles_told : {F : Type 0} (told : F → Told) (before after : DriverRow G) (rows : List TitleRow) (front : Front) → HasReadTitles told (Ok rows) front before.store after.store
      → HasOutcome (known_row before) (known_row after) request.Titles (record { reply = reply.Ok (value.Titles rows); cell = cell.Store; front = front })
  titles_told told before after rows front read = inl (record {
    history = after.store.seen;
    rows = rows;
    between = record { from = read.went.seen; to = begins_itself level after.store.seen };
    front_is = read.front_is;
    titles = read.titles;
    tells = refl;
  })
