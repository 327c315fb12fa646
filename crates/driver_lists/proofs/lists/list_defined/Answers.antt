use Rattle.std.proofs.Common.{◌≡◌, inr, map, nat_abs, take, w32, ap, subst, ◌∙◌}
use Rattle.std.specs.List.{filter}
use Rattle.std.proofs.lemmas.Int.{to_z-of_z}
use Rattle.driver_cells.specs.Known.{known_row}
use Rattle.driver_cells.proofs.Stopping.{no_room}
use Rattle.virt_types.specs.declared.value.DomainRow.{DomainRow}
use Rattle.driver_lists.specs.Idle.{is_idle}
use Rattle.driver_lists.specs.Whole.{HasReadList}
use Rattle.driver_lists.proofs.Answering.{idle_told, is_stopped}
use Rattle.driver_lists.proofs.lists.list_defined.Goals as goal

pub returns-in-Ok-idle_names-clause-outcome : goal.returns-in-Ok-idle_names-clause-outcome
returns-in-Ok-idle_names-clause-outcome g c =
    let size : c.unsigned_abs.result ≡ nat_abs c.args.most = c.unsigned_abs.ensures.value ∙ ap nat_abs (to_z-of_z w32 c.args.most c.ranges.most) in
    idle_told (known_row c.args.row) (known_row c.read_list-row.result.0) c.in-Ok.rows c.in-Ok.front c.of.result c.args.most
    (subst (HasReadList (known_row c.args.row) (known_row c.read_list-row.result.0)) c.in-Ok.is c.read_list-row.ensures.read)
    (c.of.ensures ∙ c.in-Ok-idle_names.ensures ∙ (λ i. take (size i) (map (λ (row : DomainRow). row.domain.name) (filter is_idle (c.as_slice.ensures i)))))

pub returns-clause-outcome : goal.returns-clause-outcome
returns-clause-outcome g c = inr (is_stopped (known_row c.args.row) (known_row c.read_list-row.result.0) c.in-Err.why c.stopped-in-Err.result.reply
    (subst (HasReadList (known_row c.args.row) (known_row c.read_list-row.result.0)) c.in-Err.is c.read_list-row.ensures.read) c.stopped-in-Err.ensures.tells)

pub returns-in-Ok-clause-outcome : goal.returns-in-Ok-clause-outcome
returns-in-Ok-clause-outcome g c = inr (no_room (known_row c.read_list-row.result.0) c.stopped.result.reply c.stopped.ensures.tells)
