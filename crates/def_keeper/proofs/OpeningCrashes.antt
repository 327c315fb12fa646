-- What a crash in the middle of an opening leaves.
use Rattle.std.proofs.Common.{◌≡◌, ⊎_elim, ◌+◌, ◌-◌, ◌++◌, true, false, List, [], ◌∷◌, ℕ, suc, Option, None, Some, All, length, option_map, take, refl, sym, ◌∙◌, ap, subst, arith, append_assoc, append-nil}
use Rattle.std.proofs.Math.Seq.{take-append-add}
use Rattle.std.proofs.lemmas.List.Elements.{All-take}
use Rattle.store_spec.specs.declared.operation.Operation.{Operation}
use Rattle.store_spec.specs.declared.operation.Operation.TheVariants as op
use Rattle.store_spec.specs.Directory.{Directory, File, Files, directory, files_after, put}
use Rattle.store_spec.specs.Disk.{Leaves, MayLeave}
use Rattle.store_spec.specs.FileNames.{IsDefinitionName}
use Rattle.store_spec.specs.Laws.{IsUpToDate, SameBut}
use Rattle.store_spec.proofs.Crashes.{images_go_on}
use Rattle.store_spec.proofs.Operating.{files_more, put_else, put_here, same_or_not}
use Rattle.def_keeper.specs.Laws.{OpeningsKeepDefinitions}
use Rattle.def_keeper.specs.Tidying.{IsTidying}
use Rattle.def_keeper.proofs.Tidies.{status_apart}

-- a directory that a crash leaves of these operations, with the same files of definitions
pub record HasBefore (os : List Operation) (left : Directory) : Type 0 where
  pub before : Directory
  pub leaves : MayLeave os before
  pub same : (n : List ℕ) → IsDefinitionName n → left n ≡ before n

leaves_itself : (f : Option File) → Leaves f (option_map (λ g. g.bytes) f)
leaves_itself None = refl
leaves_itself (Some f) = λ is. refl

-- all that was done is on the disk
leaves_all : (os : List Operation) (left : Directory) → ((n : List ℕ) → Leaves (files_after os n) (left n)) → MayLeave os left
leaves_all os left all = record { kept = os; lost = []; parts = append-nil os; loses = tt; files = λ n none. all n }

true_false : true ≡ false → ⊥
true_false is = cc

tidy_one : (os : List Operation) (o : Operation) (left : Directory) → IsTidying o → MayLeave (os ++ o ∷ []) left → HasBefore os left
tidy_one os (op.Remove name) left says m = ⊎_elim
    (λ (all : IsUpToDate (os ++ op.Remove name ∷ []) left). record {
      before = put name (directory os name) left;
      leaves = leaves_all os (put name (directory os name) left) (λ n. ⊎_elim
          (λ (same : n ≡ name). subst (λ (o : Option (List ℕ)). Leaves (files_after os n) o) (sym (put_here name n (directory os name) left same ∙ ap (λ (m : List ℕ). directory os m) (sym same))) (leaves_itself (files_after os n)))
          (λ (differ : n ≡ name → ⊥). subst (λ (o : Option (List ℕ)). Leaves (files_after os n) o) (sym (put_else name n (directory os name) left differ))
          (subst (λ (f : Option File). Leaves f (left n)) (ap (λ (fs : Files). fs n) (files_more os (op.Remove name)) ∙ put_else name n None (files_after os) differ) (all n)))
          (same_or_not n name));
      same = λ n is. sym (put_else name n (directory os name) left (λ same. status_apart name says (subst IsDefinitionName same is)));
    })
    (λ (b : (false ≡ false) × (before : Directory) × MayLeave os before × SameBut (op.Remove name) left before). record { before = b.1; leaves = b.2; same = λ n is. b.3 n refl })
    (images_go_on os (op.Remove name) left m)
tidy_one os op.SyncDirectory left says m = ⊎_elim
    (λ (all : IsUpToDate (os ++ op.SyncDirectory ∷ []) left). record {
      before = left;
      leaves = leaves_all os left (λ n. subst (λ (f : Option File). Leaves f (left n)) (ap (λ (fs : Files). fs n) (files_more os op.SyncDirectory)) (all n));
      same = λ n is. refl;
    })
    (λ (b : (true ≡ false) × (before : Directory) × MayLeave os before × SameBut op.SyncDirectory left before). absurd (true_false b.0))
    (images_go_on os op.SyncDirectory left m)
tidy_one os (op.Write n bytes) left says m = absurd says
tidy_one os (op.Sync n) left says m = absurd says
tidy_one os (op.Rename from to) left says m = absurd says

tidy_all : (os added : List Operation) (left : Directory) → All IsTidying added → MayLeave (os ++ added) left → HasBefore os left
tidy_all os [] left all m = record { before = left; leaves = subst (λ (l : List Operation). MayLeave l left) (append-nil os) m; same = λ n is. refl }
tidy_all os (o ∷ rest) left all m =
    let x = tidy_all (os ++ o ∷ []) rest left (λ k d lt. all (suc k) d (omega (arith, lt))) (subst (λ (l : List Operation). MayLeave l left) (sym (append_assoc os (o ∷ []) rest)) m) in
    let y = tidy_one os o x.before (all 0 o (omega arith)) x.leaves in
    record { before = y.before; leaves = y.leaves; same = λ n is. x.same n is ∙ y.same n is }

pub openings_keep_definitions : OpeningsKeepDefinitions
openings_keep_definitions os added left all since =
    let n = since.at - length os in
    let at : since.at ≡ length os + n = omega (arith, since.later) in
    let cut : take since.at (os ++ added) ≡ os ++ take n added = ap (λ (k : ℕ). take k (os ++ added)) at ∙ take-append-add os added n in
    let x = tidy_all os (take n added) left (All-take IsTidying n added all) (subst (λ (l : List Operation). MayLeave l left) cut since.leaves) in
    (x.before, x.leaves, x.same)
