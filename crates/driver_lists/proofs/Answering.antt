-- The outcomes of the requests that list domains.
use Rattle.std.proofs.Common.{◌≡◌, inl, ℕ, ℤ, List, map, take, nat_abs, Ok, Err, ap, ◌∙◌}
use Rattle.std.specs.List.{filter}
use Rattle.driver_cells.proofs.Stopping.{no_room, ran_out}
use Rattle.driver_cells.specs.OfOutcomes.{HasOutcome, IsStopped, KnownRow}
use Rattle.virt_types.specs.Below.types_base.declared.caller.CellName.TheVariants as cell
use Rattle.virt_types.specs.Below.types_base.declared.caller.Front.{Front}
use Rattle.virt_types.specs.declared.request.Request.TheVariants as request
use Rattle.virt_types.specs.declared.value.DomainRow.{DomainRow}
use Rattle.virt_types.specs.declared.value.Reply.{Reply}
use Rattle.virt_types.specs.declared.value.Reply.TheVariants as reply
use Rattle.virt_types.specs.declared.value.Value.TheVariants as value
use Rattle.driver_lists.specs.Idle.{is_idle}
use Rattle.driver_lists.specs.Stopping.{TellsStop}
use Rattle.driver_lists.specs.Whole.{HasReadList}
use Rattle.driver_lists.specs.declared.stopping.Stop.{Stop}
use Rattle.driver_lists.specs.declared.stopping.Stop.TheVariants as stop
use Rattle.driver_lists.proofs.IdleNames.{idle_rows}

module _ (before after : KnownRow) where
  -- all are told
  pub all_told : (rows : List DomainRow) (front : Front) → HasReadList before after (Ok (rows, front)) → HasOutcome before after request.ListAll (record { reply = reply.Ok (value.Domains rows); cell = cell.List; front = front })
  all_told rows front (found, list, is) = inl (found, list, ap (λ (rows : List DomainRow). reply.Ok (value.Domains rows)) is)

  -- those that are not active are told
  pub idle_told : (rows : List DomainRow) (front : Front) (names : List (List ℕ)) (most : ℤ) → HasReadList before after (Ok (rows, front)) → names ≡ take (nat_abs most) (map (λ row. row.domain.name) (filter is_idle rows))
      → HasOutcome before after (request.ListDefinedDomains most) (record { reply = reply.Ok (value.Names names); cell = cell.List; front = front })
  idle_told rows front names most (found, list, is) told =
      inl (found, list, ap (λ (names : List (List ℕ)). reply.Ok (value.Names names)) (told ∙ ap (take (nat_abs most)) (ap (λ (rows : List DomainRow). map (λ row. row.domain.name) (filter is_idle rows)) is ∙ idle_rows found)))

  -- it came to no answer of a cell
  pub is_stopped : (why : Stop) (said : Reply) → HasReadList before after (Err why) → TellsStop why said → IsStopped after said
  is_stopped stop.Spent said spent tells = ran_out after said spent tells
  is_stopped stop.NoMemory said none tells = no_room after said tells
