-- The names of the domains that are not active, among rows.
use Rattle.std.proofs.Common.{◌≡◌, Bool, true, false, cond, List, [], ◌∷◌, ℕ, Option, None, Some, is_none, map, refl, ap, ◌∙◌}
use Rattle.std.specs.List.{filter}
use Rattle.domain_spec.specs.Reading.{state_in, state_running}
use Rattle.virt_types.specs.declared.domain.Domain.{Domain}
use Rattle.virt_types.specs.declared.domain.Live.{Live}
use Rattle.virt_types.specs.declared.run_state.RunState.{RunState}
use Rattle.virt_types.specs.declared.run_state.RunState.TheVariants as run
use Rattle.driver_lists.specs.Idle.{is_idle, is_shut_off}
use Rattle.driver_cells.specs.OfOutcomes.{idle_names, row_of, rows_of}

of_run : (r : RunState) → is_shut_off (state_running r) ≡ false
of_run run.Running = refl
of_run (run.Paused why) = refl
of_run run.Crashed = refl

of_live : (live : Option Live) → is_shut_off (state_in live) ≡ is_none live
of_live None = refl
of_live (Some l) = of_run l.run

-- they are those of the rows of domains that are shut off
pub idle_rows : (ds : List (Option Domain)) → map (λ row. row.domain.name) (filter is_idle (rows_of ds)) ≡ idle_names ds
idle_rows [] = refl
idle_rows (None ∷ ds) = idle_rows ds
idle_rows (Some d ∷ ds) =
    (λ i. map (λ row. row.domain.name) (cond (of_live d.live i) (row_of d ∷ filter is_idle (rows_of ds)) (filter is_idle (rows_of ds))))
    ∙ by_case (is_none d.live) (idle_rows ds)
  where
    by_case : (b : Bool) → map (λ row. row.domain.name) (filter is_idle (rows_of ds)) ≡ idle_names ds → map (λ row. row.domain.name) (cond b (row_of d ∷ filter is_idle (rows_of ds)) (filter is_idle (rows_of ds))) ≡ cond b (d.name ∷ idle_names ds) (idle_names ds)
    by_case true rest = ap (λ (names : List (List ℕ)). d.name ∷ names) rest
    by_case false rest = rest
