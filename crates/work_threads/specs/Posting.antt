-- Pieces of work that were posted: each in a thread of its own, or done at once.
use Rattle.std.specs.Prelude.{◌≡◌, Bool, true, false}
use Rattle.work_threads.specs.declared.posted.Posted.{Posted}
use Rattle.work_threads.specs.declared.posted.Posted.TheVariants.{Running, Done}

-- it has a thread of its own
abbrev pub is_running : {C O J X : Type 0} → Posted C O J X → Bool
is_running (Running handle) = true
is_running (Done left) = false

module _ {C O J X : Type 0} (HasDone : C → O → J → X → Type 0) where
  -- this work over these things is under way, or was done
  abbrev pub IsPosted : C → O → J → Posted C O J X → Type 0
  IsPosted shared own job (Running handle) = (handle.promise.shared.value ≡ shared) × (handle.promise.own.value ≡ own) × (handle.promise.job.value ≡ job)
  IsPosted shared own job (Done left) = HasDone shared own job left

  -- what is left of it, once it was waited for
  abbrev pub IsLeftOf : Posted C O J X → X → Type 0
  IsLeftOf posted left = (shared : C) (own : O) (job : J) → IsPosted shared own job posted → HasDone shared own job left
