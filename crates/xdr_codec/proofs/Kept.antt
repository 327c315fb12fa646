-- What a call answers that keeps what its step left.
use Rattle.std.proofs.Common.{◌≡◌, ℕ, List, Result, Ok, Err, refl, sym, ap, subst, ◌∙◌}
use Rattle.std.specs.Borrow.{Bor}
use Rattle.types_base.specs.declared.memory.OrNoMemory.{OrNoMemory}
use Rattle.types_base.specs.declared.memory.OrNoMemory.TheVariants.{Fault, NoMemory}
use Rattle.wire_spec.specs.declared.fault.XdrFault.{XdrFault}
use Rattle.wire_spec.specs.XdrAnswer.{Answers, AnswersOrNoMemory, Reads, ReadsOrNoMemory}
use Rattle.wire_spec.specs.XdrReading.{Left}
use Rattle.wire_spec.proofs.Items.{IsItem}
use Rattle.wire_spec.proofs.Wholes.{answers, answers_or_no_memory}
use Rattle.xdr_codec.specs.Rest.{Copies, Keeps, Slices, Steps, StepsOrNoMemory, seen}
use Rattle.xdr_codec.specs.declared.rest.Rest.{Rest}

reads : {A : Type 0} (first : Left → Result (A × Left) XdrFault) (old new : Rest) (step : Result (A × Rest) XdrFault) (result : Result A XdrFault) → Steps (first (seen old)) step → Keeps old step result new → Reads first (seen old) result (seen new)
reads {A = A} first old new (Ok x) result steps keeps =
    subst (λ (r : Result A XdrFault). Reads first (seen old) r (seen new)) (sym keeps.0) (rw keeps.1 steps)
reads {A = A} first old new (Err f) result steps keeps =
    subst (λ (r : Result A XdrFault). Reads first (seen old) r (seen new)) (sym keeps.0) (steps, ap seen keeps.1)

pub kept_reads : {A : Type 0} (first : Left → Result (A × Left) XdrFault) (l : Left) (old new : Rest) (step : Result (A × Rest) XdrFault) (result : Result A XdrFault) → seen old ≡ l → Steps (first (seen old)) step → Keeps old step result new → Reads first l result (seen new)
kept_reads first l old new step result view_is steps keeps = subst (λ (m : Left). Reads first m result (seen new)) view_is (reads first old new step result steps keeps)

pub kept_answers : {A : Type 0} (IsValue : A → Type 0) (spelled : A → List ℕ) (first : Left → Result (A × Left) XdrFault) → IsItem IsValue spelled first → (l : Left) (old new : Rest) (step : Result (A × Rest) XdrFault) (result : Result A XdrFault) → seen old ≡ l → Steps (first (seen old)) step → Keeps old step result new → Answers IsValue spelled l result (seen new)
kept_answers IsValue spelled first item l old new step result view_is steps keeps =
    subst (λ (m : Left). Answers IsValue spelled m result (seen new)) view_is (answers IsValue spelled first item (seen old) (seen new) result old.each (reads first old new step result steps keeps))

-- what was found, and copied
pub copied_steps : (read : Result (List ℕ × Left) XdrFault) (found : Result (Bor (List ℕ) × Rest) XdrFault) (step : Result (List ℕ × Rest) (OrNoMemory XdrFault)) → Slices read found → Copies found step → StepsOrNoMemory read step
copied_steps read (Ok x) (Ok y) slices copies = slices ∙ ap (λ (z : List ℕ × Rest). Ok (z.0, seen z.1)) (λ i. (sym copies.0 i, sym copies.1 i))
copied_steps read (Ok x) (Err (Fault f)) slices copies = absurd cc
copied_steps read (Ok x) (Err NoMemory) slices copies = rw slices refl
copied_steps read (Err f) (Ok y) slices copies = absurd cc
copied_steps read (Err f) (Err (Fault g)) slices copies = rw slices cc
copied_steps read (Err f) (Err NoMemory) slices copies = absurd cc

reads_or_no_memory : {A : Type 0} (first : Left → Result (A × Left) XdrFault) (old new : Rest) (step : Result (A × Rest) (OrNoMemory XdrFault)) (result : Result A (OrNoMemory XdrFault)) → StepsOrNoMemory (first (seen old)) step → Keeps old step result new → ReadsOrNoMemory first (seen old) result (seen new)
reads_or_no_memory {A = A} first old new (Ok x) result steps keeps =
    subst (λ (r : Result A (OrNoMemory XdrFault)). ReadsOrNoMemory first (seen old) r (seen new)) (sym keeps.0) (rw keeps.1 steps)
reads_or_no_memory {A = A} first old new (Err (Fault f)) result steps keeps =
    subst (λ (r : Result A (OrNoMemory XdrFault)). ReadsOrNoMemory first (seen old) r (seen new)) (sym keeps.0) (steps, ap seen keeps.1)
reads_or_no_memory {A = A} first old new (Err NoMemory) result steps keeps =
    subst (λ (r : Result A (OrNoMemory XdrFault)). ReadsOrNoMemory first (seen old) r (seen new)) (sym keeps.0) (steps, ap seen keeps.1)

pub copied_reads : (first : Left → Result (List ℕ × Left) XdrFault) (l : Left) (old new : Rest) (found : Result (Bor (List ℕ) × Rest) XdrFault) (step : Result (List ℕ × Rest) (OrNoMemory XdrFault)) (result : Result (List ℕ) (OrNoMemory XdrFault)) → seen old ≡ l → Slices (first (seen old)) found → Copies found step → Keeps old step result new → ReadsOrNoMemory first l result (seen new)
copied_reads first l old new found step result view_is slices copies keeps =
    subst (λ (m : Left). ReadsOrNoMemory first m result (seen new)) view_is (reads_or_no_memory first old new step result (copied_steps (first (seen old)) found step slices copies) keeps)

pub copied_answers : (IsValue : List ℕ → Type 0) (spelled : List ℕ → List ℕ) (first : Left → Result (List ℕ × Left) XdrFault) → IsItem IsValue spelled first → (l : Left) (old new : Rest) (found : Result (Bor (List ℕ) × Rest) XdrFault) (step : Result (List ℕ × Rest) (OrNoMemory XdrFault)) (result : Result (List ℕ) (OrNoMemory XdrFault)) → seen old ≡ l → Slices (first (seen old)) found → Copies found step → Keeps old step result new → AnswersOrNoMemory IsValue spelled l result (seen new)
copied_answers IsValue spelled first item l old new found step result view_is slices copies keeps =
    subst (λ (m : Left). AnswersOrNoMemory IsValue spelled m result (seen new)) view_is (answers_or_no_memory IsValue spelled first item (seen old) (seen new) result old.each (reads_or_no_memory first old new step result (copied_steps (first (seen old)) found step slices copies) keeps))
