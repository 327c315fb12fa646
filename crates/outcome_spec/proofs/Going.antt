-- Each case of an outcome stays true of a row that goes on.
use Rattle.std.proofs.Common.{◌≡◌, ℕ, zero, suc, ◌≤◌, List, [], ◌∷◌, Option, None, Some, Result, Ok, Err, inl, inr, refl, subst, sym, le_refl}
use Rattle.std.specs.Prelude.{slice_get}
use Rattle.history_spec.proofs.Beginnings.{NoMarkLowers}
use Rattle.book_spec.specs.declared.list.ListCall.{ListCall}
use Rattle.book_spec.specs.declared.list.ListFault.{ListFault}
use Rattle.store_asks.specs.Below.def_keeper.declared.mark.StoreAction.{StoreAction}
use Rattle.store_asks.specs.Below.def_keeper.declared.mark.StoreAction.TheVariants as action
use Rattle.domain_requests.specs.declared.task.Task.{Task}
use Rattle.domain_requests.specs.declared.task.Task.TheVariants as task
use Rattle.domain_spec.specs.declared.mark.Mark.{Mark}
use Rattle.domain_spec.specs.declared.standing.Standing.{Standing}
use Rattle.domain_spec.specs.Chapter.{rising_number}
use Rattle.domain_spec.specs.Fold.{at_base, standing}
use Rattle.domain_spec.specs.Reading.{boots_of}
use Rattle.domain_spec.proofs.LawProofs.{standing-append}
use Rattle.domain_spec.proofs.PhaseBoots.{boots_rise}
use Rattle.virt_types.specs.declared.call.Call.{Call}
use Rattle.virt_types.specs.Below.types_base.declared.caller.CellName.{CellName}
use Rattle.virt_types.specs.Below.types_base.declared.caller.CellName.TheVariants as cell
use Rattle.virt_types.specs.Below.types_base.declared.caller.Front.{Front}
use Rattle.virt_types.specs.declared.domain.Domain.{Domain}
use Rattle.virt_types.specs.Below.types_base.declared.refusal.Refusal.{Refusal}
use Rattle.virt_types.specs.declared.request.Request.{Request}
use Rattle.virt_types.specs.declared.request.Request.TheVariants as request
use Rattle.virt_types.specs.declared.value.Reply.{Reply}
use Rattle.outcome_spec.specs.Asked.{Asks}
use Rattle.outcome_spec.specs.Done.{IsCallOf, IsDone, call_in}
use Rattle.outcome_spec.specs.Laws.{AnswersStayTrue}
use Rattle.outcome_spec.specs.Listed.{IsNotListed}
use Rattle.outcome_spec.specs.Lists.{AreRows, IsList, IsRow, Listed}
use Rattle.outcome_spec.specs.Marks.{HasLeft, StandsAt}
use Rattle.outcome_spec.specs.Outcomes.{IsGiven, IsOfDomain, IsOfList, IsOfStore, IsStopped, RestsOn}
use Rattle.outcome_spec.specs.Restored.{IsNotRestored}
use Rattle.outcome_spec.specs.Rows.{AreLater, DomainPass, HasGone, IsLater, KnownRow, level}
use Rattle.outcome_spec.specs.Spent.{HasSpent}
use Rattle.outcome_spec.specs.Titles.{IsTitles}
use Rattle.outcome_spec.proofs.Staying.{left_stays, read_stays, stands_stays}

pub level_stays : {B M : Type 0} → NoMarkLowers {B = B} {M = M} level
level_stays b xs ys = le_refl 0

pub boots_stay : NoMarkLowers rising_number
boots_stay b xs ys =
    subst (λ (s : Standing). boots_of (standing (at_base b) xs).state ≤ boots_of s.state) (sym (standing-append (at_base b) xs ys))
    (boots_rise (standing (at_base b) xs) ys)

-- the pass of a slot goes on
pass_goes : (ps qs : List DomainPass) (slot : ℕ) (p : DomainPass) → AreLater ps qs → slice_get ps slot ≡ Some p → (q : DomainPass) × (slice_get qs slot ≡ Some q) × IsLater rising_number p q
pass_goes [] [] slot p on e = absurd cc
pass_goes (x ∷ ps) (y ∷ qs) zero p on e =
    let same : x ≡ p = cc in (y, refl, subst (λ (z : DomainPass). IsLater rising_number z y) same on.0)
pass_goes (x ∷ ps) (y ∷ qs) (suc n) p on e = pass_goes ps qs n p on.1 e
pass_goes [] (y ∷ qs) slot p on e = absurd on
pass_goes (x ∷ ps) [] slot p on e = absurd on

-- ---- requests
list_mark : (before after later : KnownRow) (h : ListCall) (r : Result ℕ ListFault) → IsLater level after.list later.list
    → HasLeft before.list after.list (record { number = after.list.number; call = h; answer = r })
    → HasLeft before.list later.list (record { number = later.list.number; call = h; answer = r })
list_mark before after later h r on left =
    subst (λ n. HasLeft before.list later.list (record { number = n; call = h; answer = r })) (sym on.number) (left_stays level before.list after.list later.list _ left on)

pub list_stands : (before after later : KnownRow) (front : Front) (h : ListCall) (r : Result ℕ ListFault) → IsLater level after.list later.list
    → StandsAt before.list after.list front (record { number = after.list.number; call = h; answer = r })
    → StandsAt before.list later.list front (record { number = later.list.number; call = h; answer = r })
list_stands before after later front h r on stands =
    subst (λ n. StandsAt before.list later.list front (record { number = n; call = h; answer = r })) (sym on.number) (stands_stays level before.list after.list later.list front _ stands on)

store_mark : (before after later : KnownRow) (d : StoreAction) → IsLater level after.store later.store
    → HasLeft before.store after.store (record { number = after.store.number; action = d }) → HasLeft before.store later.store (record { number = later.store.number; action = d })
store_mark before after later d on left =
    subst (λ n. HasLeft before.store later.store (record { number = n; action = d })) (sym on.number) (left_stays level before.store after.store later.store _ left on)

pub store_stands : (before after later : KnownRow) (front : Front) (d : StoreAction) → IsLater level after.store later.store
    → StandsAt before.store after.store front (record { number = after.store.number; action = d }) → StandsAt before.store later.store front (record { number = later.store.number; action = d })
store_stands before after later front d on stands =
    subst (λ n. StandsAt before.store later.store front (record { number = n; action = d })) (sym on.number) (stands_stays level before.store after.store later.store front _ stands on)

pub asks_stay : (before after later : KnownRow) (asked : Request) (h : ListCall) (t : Task) → IsLater level after.store later.store → Asks before after asked h t → Asks before later asked h t
asks_stay before after later (request.OnDomain target asked) h t on asks = asks
asks_stay before after later (request.DomainLookupByName name) h t on asks = asks
asks_stay before after later (request.DomainLookupByUuid uuid) h t on asks = asks
asks_stay before after later (request.DomainDefineXml xml) h t on asks = asks
asks_stay before after later (request.DomainCreateXml xml flags) h t on asks = asks
asks_stay before after later (request.MigratePrepare xml running state) h t on asks = asks
asks_stay before after later (request.DomainRestore from) h t on (g, d, restored, held, is) =
    (g, d, (restored.0, store_mark before after later (action.ImageRead from (Ok restored.0)) on restored.1, restored.2, restored.3), held, is)
asks_stay before after later (request.ConnectOpen name flags) h t on asks = absurd asks
asks_stay before after later request.ConnectClose h t on asks = absurd asks
asks_stay before after later (request.ListDefinedDomains most) h t on asks = absurd asks
asks_stay before after later (request.ListDefinedNetworks most) h t on asks = absurd asks
asks_stay before after later (request.ListNetworks most) h t on asks = absurd asks
asks_stay before after later (request.NetworkDefineXml xml) h t on asks = absurd asks
asks_stay before after later (request.NetworkLookupByName name) h t on asks = absurd asks
asks_stay before after later request.ListAll h t on asks = absurd asks
asks_stay before after later request.Titles h t on asks = absurd asks
asks_stay before after later (request.PoolDefine xml) h t on asks = absurd asks
asks_stay before after later (request.PoolLookup name) h t on asks = absurd asks
asks_stay before after later request.PoolList h t on asks = absurd asks
asks_stay before after later (request.OnNetwork network asked) h t on asks = absurd asks
asks_stay before after later (request.OnPool pool asked) h t on asks = absurd asks

-- ---- a domain
call_stays : (before after later : DomainPass) (c : Call) (m : Mark ℕ) (own : Option Call) → IsLater rising_number after later → IsCallOf before after c m own → IsCallOf before later c m own
call_stays before after later c m None on (began, left, is) = (began, left_stays rising_number before after later began left on, is)
call_stays before after later c m (Some own) on of = of

done_stays : (before after later : DomainPass) (c : Call) (front : Front) (said : Reply) → IsLater rising_number after later → IsDone before after c front said → IsDone before later c front said
done_stays before after later c front said on done = record {
  mark = done.mark;
  said = done.said;
  stands = stands_stays rising_number before after later front done.mark done.stands on;
  says = done.says;
  tells = done.tells;
  of = call_stays before after later c done.mark (call_in done.mark) on done.of;
}

given_stays : (before after later : DomainPass) (t : Task) (front : Front) (said : Reply) → IsLater rising_number after later → IsGiven before after t front said → IsGiven before later t front said
given_stays before after later (task.Read q) front said on value = record {
  history = value.history;
  between = read_stays rising_number boots_stay before after later value.history value.between on;
  front_is = value.front_is;
  value = value.value;
}
given_stays before after later (task.Run c) front said on done = done_stays before after later c front said on done
given_stays before after later task.Register front said on gives = absurd gives
given_stays before after later task.Deregister front said on gives = absurd gives

domain_stays : (before after later : KnownRow) (asked : Request) (slot : ℕ) (front : Front) (said : Reply) → HasGone after later → IsOfDomain before after asked slot front said → IsOfDomain before later asked slot front said
domain_stays before after later asked slot front said on it =
    let goes = pass_goes after.domains later.domains slot it.new on.domains it.pass_after in
    record {
      held = it.held;
      task = it.task;
      old = it.old;
      new = goes.0;
      asks = asks_stay before after later asked it.held it.task on.store it.asks;
      slot_is = list_mark before after later it.held (Ok slot) on.list it.slot_is;
      pass_before = it.pass_before;
      pass_after = goes.1;
      gives = given_stays it.old it.new goes.0 it.task front said goes.2 it.gives;
    }

-- ---- the list
row_stays : (before after later : KnownRow) (r : Listed) (found : Option Domain) → HasGone after later → IsRow before after r found → IsRow before later r found
row_stays before after later r found on row =
    let goes = pass_goes after.domains later.domains r.slot row.new on.domains row.pass_after in
    record {
      old = row.old;
      new = goes.0;
      history = row.history;
      pass_before = row.pass_before;
      pass_after = goes.1;
      between = read_stays rising_number boots_stay row.old row.new goes.0 row.history row.between goes.2;
      is = row.is;
    }

rows_stay : (before after later : KnownRow) (rs : List Listed) (ds : List (Option Domain)) → HasGone after later → AreRows before after rs ds → AreRows before later rs ds
rows_stay before after later [] [] on rows = tt
rows_stay before after later (r ∷ rs) (d ∷ ds) on rows = (row_stays before after later r d on rows.0, rows_stay before after later rs ds on rows.1)
rows_stay before after later [] (d ∷ ds) on rows = absurd rows
rows_stay before after later (r ∷ rs) [] on rows = absurd rows

list_stays : (before after later : KnownRow) (front : Front) (found : List (Option Domain)) → HasGone after later → IsList before after front found → IsList before later front found
list_stays before after later front found on it = record {
  history = it.history;
  rows = it.rows;
  between = read_stays level level_stays before.list after.list later.list it.history it.between on.list;
  front_is = it.front_is;
  listed = it.listed;
  read = rows_stay before after later it.rows found on it.read;
}

not_listed_stays : (before after later : KnownRow) (asked : Request) (front : Front) (why : Refusal) → HasGone after later → IsNotListed before after asked front why → IsNotListed before later asked front why
not_listed_stays before after later asked front why on it = record {
  held = it.held;
  task = it.task;
  fault = it.fault;
  asks = asks_stay before after later asked it.held it.task on.store it.asks;
  stands = list_stands before after later front it.held (Err it.fault) on.list it.stands;
  tells = it.tells;
}

-- ---- the store
titles_stay : (before after later : KnownRow) (front : Front) (said : Reply) → HasGone after later → IsTitles before after front said → IsTitles before later front said
titles_stay before after later front said on it = record {
  history = it.history;
  rows = it.rows;
  between = read_stays level level_stays before.store after.store later.store it.history it.between on.store;
  front_is = it.front_is;
  titles = it.titles;
  tells = it.tells;
}

not_restored_stays : (before after later : KnownRow) (from : List ℕ) (front : Front) (why : Refusal) → HasGone after later → IsNotRestored before after from front why → IsNotRestored before later from front why
not_restored_stays before after later from front why on it = record {
  read = it.read;
  stands = store_stands before after later front (action.ImageRead from it.read) on.store it.stands;
  is = it.is;
}

-- ---- no cell
spent_stays : (after later : KnownRow) → HasGone after later → HasSpent after → HasSpent later
spent_stays after later on (inl list) = inl (on.list.spent list)
spent_stays after later on (inr (inl store)) = inr (inl (on.store.spent store))
spent_stays after later on (inr (inr (slot, at))) =
    let goes = pass_goes after.domains later.domains slot at.0 on.domains at.1 in inr (inr (slot, (goes.0, goes.1, goes.2.spent at.2)))

stopped_stays : (after later : KnownRow) (said : Reply) → HasGone after later → IsStopped after said → IsStopped later said
stopped_stays after later said on (why, is, inl (spent, tells)) = (why, is, inl (spent_stays after later on spent, tells))
stopped_stays after later said on (why, is, inr none) = (why, is, inr none)

-- ---- all cases
of_list_stays : (before after later : KnownRow) (asked : Request) (front : Front) (said : Reply) → HasGone after later → IsOfList before after asked front said → IsOfList before later asked front said
of_list_stays before after later (request.OnDomain target asked) front said on (why, is, it) = (why, is, not_listed_stays before after later (request.OnDomain target asked) front why on it)
of_list_stays before after later (request.DomainLookupByName name) front said on (why, is, it) = (why, is, not_listed_stays before after later (request.DomainLookupByName name) front why on it)
of_list_stays before after later (request.DomainLookupByUuid uuid) front said on (why, is, it) = (why, is, not_listed_stays before after later (request.DomainLookupByUuid uuid) front why on it)
of_list_stays before after later (request.DomainDefineXml xml) front said on (why, is, it) = (why, is, not_listed_stays before after later (request.DomainDefineXml xml) front why on it)
of_list_stays before after later (request.DomainCreateXml xml flags) front said on (why, is, it) = (why, is, not_listed_stays before after later (request.DomainCreateXml xml flags) front why on it)
of_list_stays before after later (request.MigratePrepare xml running state) front said on (why, is, it) = (why, is, not_listed_stays before after later (request.MigratePrepare xml running state) front why on it)
of_list_stays before after later (request.DomainRestore from) front said on (why, is, it) = (why, is, not_listed_stays before after later (request.DomainRestore from) front why on it)
of_list_stays before after later (request.ConnectOpen name flags) front said on (why, is, it) = (why, is, not_listed_stays before after later (request.ConnectOpen name flags) front why on it)
of_list_stays before after later request.ConnectClose front said on (why, is, it) = (why, is, not_listed_stays before after later request.ConnectClose front why on it)
of_list_stays before after later (request.ListDefinedDomains most) front said on (found, read, tells) = (found, list_stays before after later front found on read, tells)
of_list_stays before after later (request.ListDefinedNetworks most) front said on (why, is, it) = (why, is, not_listed_stays before after later (request.ListDefinedNetworks most) front why on it)
of_list_stays before after later (request.ListNetworks most) front said on (why, is, it) = (why, is, not_listed_stays before after later (request.ListNetworks most) front why on it)
of_list_stays before after later (request.NetworkDefineXml xml) front said on (why, is, it) = (why, is, not_listed_stays before after later (request.NetworkDefineXml xml) front why on it)
of_list_stays before after later (request.NetworkLookupByName name) front said on (why, is, it) = (why, is, not_listed_stays before after later (request.NetworkLookupByName name) front why on it)
of_list_stays before after later request.ListAll front said on (found, read, tells) = (found, list_stays before after later front found on read, tells)
of_list_stays before after later request.Titles front said on (why, is, it) = (why, is, not_listed_stays before after later request.Titles front why on it)
of_list_stays before after later (request.PoolDefine xml) front said on (why, is, it) = (why, is, not_listed_stays before after later (request.PoolDefine xml) front why on it)
of_list_stays before after later (request.PoolLookup name) front said on (why, is, it) = (why, is, not_listed_stays before after later (request.PoolLookup name) front why on it)
of_list_stays before after later request.PoolList front said on (why, is, it) = (why, is, not_listed_stays before after later request.PoolList front why on it)
of_list_stays before after later (request.OnNetwork network asked) front said on (why, is, it) = (why, is, not_listed_stays before after later (request.OnNetwork network asked) front why on it)
of_list_stays before after later (request.OnPool pool asked) front said on (why, is, it) = (why, is, not_listed_stays before after later (request.OnPool pool asked) front why on it)

of_store_stays : (before after later : KnownRow) (asked : Request) (front : Front) (said : Reply) → HasGone after later → IsOfStore before after asked front said → IsOfStore before later asked front said
of_store_stays before after later (request.OnDomain target asked) front said on it = absurd it
of_store_stays before after later (request.DomainLookupByName name) front said on it = absurd it
of_store_stays before after later (request.DomainLookupByUuid uuid) front said on it = absurd it
of_store_stays before after later (request.DomainDefineXml xml) front said on it = absurd it
of_store_stays before after later (request.DomainCreateXml xml flags) front said on it = absurd it
of_store_stays before after later (request.MigratePrepare xml running state) front said on it = absurd it
of_store_stays before after later (request.DomainRestore from) front said on (why, is, it) = (why, is, not_restored_stays before after later from front why on it)
of_store_stays before after later (request.ConnectOpen name flags) front said on it = absurd it
of_store_stays before after later request.ConnectClose front said on it = absurd it
of_store_stays before after later (request.ListDefinedDomains most) front said on it = absurd it
of_store_stays before after later (request.ListDefinedNetworks most) front said on it = absurd it
of_store_stays before after later (request.ListNetworks most) front said on it = absurd it
of_store_stays before after later (request.NetworkDefineXml xml) front said on it = absurd it
of_store_stays before after later (request.NetworkLookupByName name) front said on it = absurd it
of_store_stays before after later request.ListAll front said on it = absurd it
of_store_stays before after later request.Titles front said on it = titles_stay before after later front said on it
of_store_stays before after later (request.PoolDefine xml) front said on it = absurd it
of_store_stays before after later (request.PoolLookup name) front said on it = absurd it
of_store_stays before after later request.PoolList front said on it = absurd it
of_store_stays before after later (request.OnNetwork network asked) front said on it = absurd it
of_store_stays before after later (request.OnPool pool asked) front said on it = absurd it

rests_stay : (before after later : KnownRow) (asked : Request) (name : CellName) (front : Front) (said : Reply) → HasGone after later → RestsOn before after asked name front said → RestsOn before later asked name front said
rests_stay before after later asked (cell.Domain slot) front said on it = domain_stays before after later asked slot front said on it
rests_stay before after later asked cell.List front said on it = of_list_stays before after later asked front said on it
rests_stay before after later asked cell.Store front said on it = of_store_stays before after later asked front said on it
rests_stay before after later asked cell.Networks front said on it = absurd it
rests_stay before after later asked cell.Pools front said on it = absurd it
rests_stay before after later asked cell.Nowhere front said on it = it

pub answers_stay : AnswersStayTrue
answers_stay before after later asked o (inl rests) on = inl (rests_stay before after later asked o.cell o.front o.reply on rests)
answers_stay before after later asked o (inr stopped) on = inr (stopped_stays after later o.reply on stopped)
