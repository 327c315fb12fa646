-- What comes of the task that a request asks for is what comes of the request.
use Rattle.std.proofs.Common.{◌≡◌, ℕ, Bool, Ok, Err, inl, inr, refl, sym, ap, ◌∙◌, subst}
use Rattle.book_spec.specs.declared.list.ListCall.{ListCall}
use Rattle.book_spec.specs.declared.list.ListMark.{ListMark}
use Rattle.book_spec.specs.Slots.{Slots}
use Rattle.list_replies.specs.Below.domain_requests.declared.task.Task.{Task}
use Rattle.driver_cells.specs.OfTasks.{IsUnbuilt}
use Rattle.driver_cells.specs.OfOutcomes.{Asks, HasLeft, HasOutcome, IsNotListed, IsNow, IsOfDomain, IsOfList, Known, KnownRow, Outcome, RestsOn, StandsAt, is_read, list_refusal, pass_of}
use Rattle.driver_cells.proofs.OfOutcomes.{asks_stay}
use Rattle.virt_types.specs.Below.types_base.declared.caller.CellName.{CellName}
use Rattle.virt_types.specs.Below.types_base.declared.caller.CellName.TheVariants as cell
use Rattle.virt_types.specs.Below.types_base.declared.caller.Front.{Front}
use Rattle.virt_types.specs.Below.types_base.declared.refusal.Refusal.{Refusal}
use Rattle.virt_types.specs.declared.request.Request.{Request}
use Rattle.virt_types.specs.declared.request.Request.TheVariants as request
use Rattle.virt_types.specs.declared.value.Reply.{Reply}
use Rattle.virt_types.specs.declared.value.Reply.TheVariants as reply
use Rattle.held_tasks.specs.Laws.{QueriesReadNow, TasksAnswerRequests}
use Rattle.held_tasks.specs.Outcomes.{HasTaskOutcome, IsGivenIn, IsRefused, TaskRestsOn}
use Rattle.held_tasks.proofs.TaskKinds.{kind_of, not_unbuilt, query_is}

-- ---- the list gave no slot

abbrev IsListed : KnownRow → KnownRow → Request → Front → Reply → Type 0
IsListed before after r front said = (why : Refusal) × (said ≡ reply.No why) × IsNotListed before after r front why

-- a request for a domain
of_list : (before after : KnownRow) (r : Request) (held : ListCall) (t : Task) (front : Front) (said : Reply) → Asks before after r held t → IsListed before after r front said → IsOfList before after r front said
of_list before after (request.OnDomain target task) held t front said asks it = it
of_list before after (request.DomainLookupByName name) held t front said asks it = it
of_list before after (request.DomainLookupByUuid uuid) held t front said asks it = it
of_list before after (request.DomainDefineXml xml) held t front said asks it = it
of_list before after (request.DomainCreateXml xml flags) held t front said asks it = it
of_list before after (request.MigratePrepare xml running state) held t front said asks it = it
of_list before after (request.DomainRestore from) held t front said asks it = it
of_list before after (request.ListDefinedDomains most) held t front said asks it = absurd asks
of_list before after request.ListAll held t front said asks it = absurd asks
of_list before after (request.ConnectOpen name flags) held t front said asks it = it
of_list before after request.ConnectClose held t front said asks it = it
of_list before after (request.ListDefinedNetworks most) held t front said asks it = it
of_list before after (request.ListNetworks most) held t front said asks it = it
of_list before after (request.NetworkDefineXml xml) held t front said asks it = it
of_list before after (request.NetworkLookupByName name) held t front said asks it = it
of_list before after request.Titles held t front said asks it = it
of_list before after (request.PoolDefine xml) held t front said asks it = it
of_list before after (request.PoolLookup name) held t front said asks it = it
of_list before after request.PoolList held t front said asks it = it
of_list before after (request.OnNetwork network of) held t front said asks it = it
of_list before after (request.OnPool pool of) held t front said asks it = it

-- ---- any way

module _ (before asked after : KnownRow) (r : Request) (held : ListCall) (t : Task) (asks : Asks before after r held t) (row : asked ≡ record before { store = asked.store }) where
  list_is : asked.list ≡ before.list
  list_is = ap (λ (k : KnownRow). k.list) row

  listed : (front : Front) (said : Reply) → IsRefused asked after held front said → IsListed before after r front said
  listed front said it = (
    list_refusal held it.fault,
    it.tells,
    record {
      held = held;
      task = t;
      fault = it.fault;
      asks = asks;
      stands = subst (λ (p : Known Slots ListMark). StandsAt p after.list front (record { number = after.list.number; call = held; answer = Err it.fault })) list_is it.stands;
      tells = refl;
    },
  )

  of_domain : (slot : ℕ) (front : Front) (said : Reply) → IsGivenIn asked after held t slot front said → IsOfDomain before after r slot front said
  of_domain slot front said it = record {
    held = held;
    task = t;
    old = it.old;
    new = it.new;
    asks = asks;
    slot_is = subst (λ (p : Known Slots ListMark). HasLeft p after.list (record { number = after.list.number; call = held; answer = Ok slot })) list_is it.slot_is;
    pass_before = sym (ap (λ (k : KnownRow). pass_of k slot) row) ∙ it.pass_before;
    pass_after = it.pass_after;
    gives = it.gives;
  }

  rests_on : (name : CellName) (front : Front) (said : Reply) → TaskRestsOn asked after held t name front said → RestsOn before after r name front said
  rests_on (cell.Domain slot) front said it = of_domain slot front said it
  rests_on cell.List front said it = of_list before after r held t front said asks (listed front said it)
  rests_on cell.Store front said it = absurd it
  rests_on cell.Networks front said it = absurd it
  rests_on cell.Pools front said it = absurd it
  rests_on cell.Nowhere front said it = absurd it

  comes : (o : Outcome) → (IsUnbuilt t o.reply → ⊥) → HasTaskOutcome asked after held t o → HasOutcome before after r o
  comes o built (inl rests) = inl (rests_on o.cell o.front o.reply rests)
  comes o built (inr (inl stopped)) = inr stopped
  comes o built (inr (inr unbuilt)) = absurd (built unbuilt)

pub tasks_answer : TasksAnswerRequests
tasks_answer before asked after r held t o finds outcome gone =
    comes before asked after r held t (asks_stay before asked after r held t gone.store finds.asks) finds.row o
    (not_unbuilt t (is_read r) o.reply (kind_of before asked r held t finds.asks finds.built)) outcome

pub queries_now : QueriesReadNow
queries_now before asked after r held t o finds now =
    subst (λ (reads : Bool). IsNow after reads o.cell o.front) (query_is t (is_read r) (kind_of before asked r held t finds.asks finds.built)) now
