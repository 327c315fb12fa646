-- A pool of 100 bytes.
use Rattle.std.specs.Prelude.{◌≡◌, ℕ, List, [], ◌∷◌, ◌++◌, codes, None}
use Rattle.uuid.specs.Parts.{zero_bytes}
use Rattle.virt_types.specs.Below.types_base.declared.storage_def.PoolDef.{PoolDef}
use Rattle.virt_types.specs.Below.types_base.declared.storage_def.PoolType.TheVariants.{Dir}
use Rattle.virt_types.specs.Below.types_base.declared.storage_def.VolDef.{VolDef}
use Rattle.book_spec.specs.declared.pool_book.PoolAnswer.{PoolAnswer}
use Rattle.book_spec.specs.declared.pool_book.PoolAnswer.TheVariants.{Done, Refused}
use Rattle.book_spec.specs.declared.pool_book.PoolCall.{PoolCall}
use Rattle.book_spec.specs.declared.pool_book.PoolCall.TheVariants as call
use Rattle.book_spec.specs.Pools.{Pools}
use Rattle.book_spec.specs.PoolCalls.{answer, pools_after, too_large, is_inactive, volume_exists, no_volume}

abbrev pub hundred_bytes : PoolDef
hundred_bytes = record { kind = Dir; name = codes "default"; uuid = None; capacity = 100; path = codes "/p" }

-- a volume of this name that takes so many bytes
abbrev pub volume : List ℕ → ℕ → VolDef
volume name bytes = record { name = name; capacity = bytes; allocation = bytes; format = codes "raw" }

-- the book after these calls, each as it is answered
abbrev pub after_calls : List PoolCall → Pools → Pools
after_calls [] pools = pools
after_calls (c ∷ cs) pools = after_calls cs (pools_after c (answer c pools) pools)

-- the answer to a call after these
abbrev pub answer_after : List PoolCall → PoolCall → PoolAnswer
answer_after before c = answer c (after_calls before [])

abbrev pub makes : List ℕ → ℕ → PoolCall
makes name bytes = call.MakeVolume zero_bytes (volume name bytes)

abbrev pub the_book : List PoolCall
the_book = call.Define hundred_bytes ∷ call.Start zero_bytes ∷ []

pub record WorkedVolumes : Type 0 where
  pub fits : answer_after the_book (makes (codes "a") 60) ≡ Done
  -- 110 bytes are more than 100, until the first is deleted
  pub full : answer_after (the_book ++ makes (codes "a") 60 ∷ []) (makes (codes "b") 50) ≡ Refused (too_large 110 100)
  pub fits_then : answer_after (the_book ++ makes (codes "a") 60 ∷ call.DropVolume zero_bytes (codes "a") ∷ []) (makes (codes "b") 50) ≡ Done
  pub exists : answer_after (the_book ++ makes (codes "a") 60 ∷ []) (makes (codes "a") 1) ≡ Refused (volume_exists (codes "a"))
  pub exact : answer_after (the_book ++ makes (codes "a") 60 ∷ []) (makes (codes "b") 40) ≡ Done
  pub none : answer_after the_book (call.DropVolume zero_bytes (codes "a")) ≡ Refused (no_volume (codes "a"))
  pub inactive : answer_after (the_book ++ call.Stop zero_bytes ∷ []) (makes (codes "a") 1) ≡ Refused is_inactive
