-- The ask at a place of a plan is the one that the step at that place makes.
use Rattle.std.proofs.Common.{◌≡◌, ◌∙◌, ◌==◌, ◌&&◌, ◌++◌, ◌<◌, ◌≤◌, ℕ, zero, suc, List, Bool, true, false, None, if◌then◌else◌, option_map, nat_lt, length, map, slice_get, refl, sym, ap, arith}
use Rattle.std.proofs.lemmas.Bool.{eqb-true}
use Rattle.std.proofs.lemmas.Bool.Decides.{nat_tests}
use Rattle.std.proofs.lemmas.List.{length-map}
use Rattle.std.proofs.lemmas.Option.{slice_get-map}
use Rattle.domain_spec.specs.Types.{Ask, Live}
use Rattle.domain_spec.specs.Types.command
use Rattle.domain_spec.specs.declared.planned.PlannedAsk.{PlannedAsk}
use Rattle.domain_spec.specs.Asks.{plain, undone_by}
use Rattle.domain_spec.specs.Call.{tell, tell_if}
use Rattle.domain_spec.specs.PhaseAsks.{migrate_take_plan}
use Rattle.domain_spec.specs.Reading.{is_running}
use Rattle.core_rules.specs.Place.{planned_at, undo_step}
use Rattle.core_rules.proofs.Plans.{planned_in, undone_in}
use Rattle.save_core.specs.declared.steps.Step.{Step}

-- a planned ask
pub step_planned :
    (f : Step → Ask) (steps : List Step) (undo asks : List Ask) (n : ℕ)
    → map f steps ≡ asks → planned_at (undone_by undo asks) n ≡ option_map f (slice_get steps n)
step_planned f steps undo asks n e = planned_in undo asks n ∙ ap (λ (xs : List Ask). slice_get xs n) (sym e) ∙ slice_get-map f steps n

is_below : (a b : ℕ) → a < b → nat_lt a b ≡ true
is_below a b h = grind (arith, nat_tests)

is_past : (a b : ℕ) → b ≤ a → nat_lt a b ≡ false
is_past a b h = grind (arith, nat_tests)

undone_if : (f : Step → Ask) (steps : List Step) (undos asks : List Ask) (of step : ℕ) (b : Bool) → map f steps ≡ asks
    → nat_lt of (length steps) ≡ b → undo_step (undone_by undos asks) of step ≡ (if b then slice_get undos step else None)
undone_if f steps undos asks of step b e t =
    undone_in undos asks of step
    ∙ ap (λ (v : Bool). if v then slice_get undos step else None) (ap (λ (n : ℕ). nat_lt of n) (sym (ap length e) ∙ length-map steps f) ∙ t)

-- a step of what undoes a planned ask
pub step_undone :
    (f : Step → Ask) (steps undo : List Step) (undos asks : List Ask) (of step : ℕ)
    → map f steps ≡ asks → map f undo ≡ undos → of < length steps
    → undo_step (undone_by undos asks) of step ≡ option_map f (slice_get undo step)
step_undone f steps undo undos asks of step e g h =
    undone_if f steps undos asks of step true e (is_below of (length steps) h)
    ∙ ap (λ (xs : List Ask). slice_get xs step) (sym g) ∙ slice_get-map f undo step

-- nothing undoes an ask that was not planned
pub step_not_undone :
    (f : Step → Ask) (steps : List Step) (undos asks : List Ask) (of step : ℕ)
    → map f steps ≡ asks → length steps ≤ of → undo_step (undone_by undos asks) of step ≡ None
step_not_undone f steps undos asks of step e h = undone_if f steps undos asks of step false e (is_past of (length steps) h)

-- a planned ask of any plan
pub step_planned_in :
    (f : Step → Ask) (steps : List Step) (plan : List PlannedAsk) (n : ℕ)
    → map f steps ≡ map (λ p. p.ask) plan → planned_at plan n ≡ option_map f (slice_get steps n)
step_planned_in f steps plan n e =
    sym (slice_get-map (λ (p : PlannedAsk). p.ask) plan n) ∙ ap (λ (xs : List Ask). slice_get xs n) (sym e) ∙ slice_get-map f steps n

take_undone :
    (runs b : Bool) (of step : ℕ) → (of == 1) ≡ b
    → undo_step (plain (tell_if runs command.Stop) ++ undone_by (tell_if runs command.Cont) (tell command.CopyTake)) of step
    ≡ slice_get (tell_if (runs && b) command.Cont) step
take_undone true true zero step e = cc
take_undone true true (suc zero) step e = refl
take_undone true true (suc (suc of)) step e = let one : suc (suc of) ≡ 1 = eqb-true (suc (suc of)) 1 e in absurd (omega arith)
take_undone true false zero step e = refl
take_undone true false (suc zero) step e = cc
take_undone true false (suc (suc of)) step e = refl
take_undone false b zero step e = refl
take_undone false b (suc of) step e = refl

-- a step of what undoes a take that stops the guest
pub step_take_undone :
    (f : Step → Ask) (undo : List Step) (l : Live) (of step : ℕ)
    → map f undo ≡ tell_if (is_running l.run && of == 1) command.Cont
    → undo_step (migrate_take_plan l) of step ≡ option_map f (slice_get undo step)
step_take_undone f undo l of step e =
    take_undone (is_running l.run) (of == 1) of step refl ∙ ap (λ (xs : List Ask). slice_get xs step) (sym e) ∙ slice_get-map f undo step
