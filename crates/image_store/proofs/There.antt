-- An image that was written is there.
use Rattle.std.proofs.Common.{◌≡◌, ◌⊎◌, ⊎_elim, ◌<◌, ◌++◌, Bool, true, false, List, [], ◌∷◌, ℕ, suc, Option, None, Some, All, option_map, refl, sym, ◌∙◌, ap, subst, arith, append_assoc, append-nil, length}
use Rattle.store_spec.specs.declared.image.Image.{Image}
use Rattle.store_spec.specs.declared.operation.Operation.{Operation}
use Rattle.store_spec.specs.declared.operation.Operation.TheVariants as op
use Rattle.store_spec.specs.Directory.{Directory, File, Files, as_synced, directory, files_after, operated, put}
use Rattle.store_spec.specs.Disk.{Leaves, MayLeave, syncs_directory, writes}
use Rattle.store_spec.specs.ImageFile.{image_bytes}
use Rattle.store_spec.specs.ImageSteps.{image_draft, image_name, image_steps}
use Rattle.store_spec.specs.Laws.{IsUpToDate, SameBut}
use Rattle.store_spec.proofs.Crashes.{images_go_on}
use Rattle.store_spec.proofs.Operating.{bytes_eq_not, files_more, put_else, put_here, same_or_not}
use Rattle.image_store.specs.Laws.{ImagesStay, IsApart, IsThere}

-- a synced file of these bytes
abbrev pub synced : List ℕ → Option File
synced bytes = Some (record { bytes = bytes; synced = true })

-- the file stays, whatever a crash leaves
record Stays (os : List Operation) (n bytes : List ℕ) : Type 0 where
  now : files_after os n ≡ synced bytes
  left : (d : Directory) → MayLeave os d → d n ≡ Some bytes

-- what a crash leaves of a file that was synced
up_to_date : (os : List Operation) (n bytes : List ℕ) (d : Directory) → files_after os n ≡ synced bytes → IsUpToDate os d → d n ≡ Some bytes
up_to_date os n bytes d is all = subst (λ (f : Option File). Leaves f (d n)) is (all n) refl

-- an operation on other files
apart_leaves : (o : Operation) (fs : Files) (n bytes : List ℕ) → IsApart n o → fs n ≡ synced bytes → operated o fs n ≡ synced bytes
apart_leaves (op.Write other content) fs n bytes apart is = put_else other n (Some (record { bytes = content; synced = false })) fs apart ∙ is
apart_leaves (op.Sync other) fs n bytes apart is = ⊎_elim
    (λ (same : n ≡ other). put_here other n (option_map as_synced (fs other)) fs same ∙ ap (λ (m : List ℕ). option_map as_synced (fs m)) (sym same) ∙ ap (λ (f : Option File). option_map as_synced f) is)
    (λ differ. put_else other n (option_map as_synced (fs other)) fs differ ∙ is)
    (same_or_not n other)
apart_leaves (op.Rename from to) fs n bytes apart is = put_else to n (fs from) (put from None fs) apart.1 ∙ put_else from n None fs apart.0 ∙ is
apart_leaves (op.Remove other) fs n bytes apart is = put_else other n None fs apart ∙ is
apart_leaves op.SyncDirectory fs n bytes apart is = is

apart_writes : (o : Operation) (n : List ℕ) → IsApart n o → writes n o ≡ false
apart_writes (op.Write other content) n apart = bytes_eq_not n other apart
apart_writes (op.Sync other) n apart = refl
apart_writes (op.Rename from to) n apart = refl
apart_writes (op.Remove other) n apart = refl
apart_writes op.SyncDirectory n apart = refl

stays_one : (os : List Operation) (o : Operation) (n bytes : List ℕ) → IsApart n o → Stays os n bytes → Stays (os ++ o ∷ []) n bytes
stays_one os o n bytes apart s = record {
  now = here;
  left = λ d m. ⊎_elim
      (λ (all : IsUpToDate (os ++ o ∷ []) d). up_to_date (os ++ o ∷ []) n bytes d here all)
      (λ (before : (syncs_directory o ≡ false) × (b : Directory) × MayLeave os b × SameBut o d b). before.3 n (apart_writes o n apart) ∙ s.left before.1 before.2)
      (images_go_on os o d m);
}
  where
    here : files_after (os ++ o ∷ []) n ≡ synced bytes
    here = ap (λ (fs : Files). fs n) (files_more os o) ∙ apart_leaves o (files_after os) n bytes apart s.now

stays_all : (os others : List Operation) (n bytes : List ℕ) → All (IsApart n) others → Stays os n bytes → Stays (os ++ others) n bytes
stays_all os [] n bytes apart s = subst (λ (l : List Operation). Stays l n bytes) (sym (append-nil os)) s
stays_all os (o ∷ others) n bytes apart s = subst (λ (l : List Operation). Stays l n bytes) (append_assoc os (o ∷ []) others)
    (stays_all (os ++ o ∷ []) others n bytes (λ k d lt. apart (suc k) d (omega (arith, lt))) (stays_one os o n bytes (apart 0 o (omega arith)) s))

true_false : true ≡ false → ⊥
true_false is = cc

-- once it was written
written : (os : List Operation) (draft n bytes : List ℕ) → Stays (os ++ op.Write draft bytes ∷ op.Sync draft ∷ op.Rename draft n ∷ op.SyncDirectory ∷ []) n bytes
written os draft n bytes = subst (λ (l : List Operation). Stays l n bytes) together (record {
  now = here;
  left = λ d m. ⊎_elim
      (λ (all : IsUpToDate (three ++ op.SyncDirectory ∷ []) d). up_to_date (three ++ op.SyncDirectory ∷ []) n bytes d here all)
      (λ (before : (true ≡ false) × (b : Directory) × MayLeave three b × SameBut op.SyncDirectory d b). absurd (true_false before.0))
      (images_go_on three op.SyncDirectory d m);
})
  where
    one : List Operation
    one = os ++ op.Write draft bytes ∷ []

    two : List Operation
    two = one ++ op.Sync draft ∷ []

    three : List Operation
    three = two ++ op.Rename draft n ∷ []

    drafted : files_after one draft ≡ Some (record { bytes = bytes; synced = false })
    drafted = ap (λ (fs : Files). fs draft) (files_more os (op.Write draft bytes)) ∙ put_here draft draft (Some (record { bytes = bytes; synced = false })) (files_after os) refl

    sure : files_after two draft ≡ synced bytes
    sure = ap (λ (fs : Files). fs draft) (files_more one (op.Sync draft)) ∙ put_here draft draft (option_map as_synced (files_after one draft)) (files_after one) refl ∙ ap (λ (f : Option File). option_map as_synced f) drafted

    named : files_after three n ≡ synced bytes
    named = ap (λ (fs : Files). fs n) (files_more two (op.Rename draft n)) ∙ put_here n n (files_after two draft) (put draft None (files_after two)) refl ∙ sure

    here : files_after (three ++ op.SyncDirectory ∷ []) n ≡ synced bytes
    here = ap (λ (fs : Files). fs n) (files_more three op.SyncDirectory) ∙ named

    together : three ++ op.SyncDirectory ∷ [] ≡ os ++ op.Write draft bytes ∷ op.Sync draft ∷ op.Rename draft n ∷ op.SyncDirectory ∷ []
    together = append_assoc two (op.Rename draft n ∷ []) (op.SyncDirectory ∷ []) ∙ append_assoc one (op.Sync draft ∷ []) (op.Rename draft n ∷ op.SyncDirectory ∷ []) ∙ append_assoc os (op.Write draft bytes ∷ []) (op.Sync draft ∷ op.Rename draft n ∷ op.SyncDirectory ∷ [])

pub images_stay : ImagesStay
images_stay os others name i apart = record { read = ap (λ (f : Option File). option_map (λ g. g.bytes) f) there.now; left = there.left }
  where
    steps : Stays (os ++ image_steps name i) (image_name i.kind name) (image_bytes i)
    steps = written os (image_draft name) (image_name i.kind name) (image_bytes i)

    there : Stays (os ++ image_steps name i ++ others) (image_name i.kind name) (image_bytes i)
    there = stays_all (os ++ image_steps name i) others (image_name i.kind name) (image_bytes i) apart steps
