-- The store's pass goes on, whatever a request asks.
use Rattle.std.proofs.Common.{◌≡◌, ◌∙◌, ℕ, List, [], true, Option, None, Some, append-nil, inl, inr, refl, subst, sym}
use Rattle.history_spec.proofs.Beginnings.{begins_itself}
use Rattle.history_spec.specs.Chapter.{tagged}
use Rattle.files_disk.specs.Telling.{Told}
use Rattle.outcome_spec.specs.Rows.{IsLater, level}
use Rattle.outcome_spec.specs.Below.store_asks.Turning.{StorePass}
use Rattle.turn_cell.specs.Turning.{SamePass}
use Rattle.virt_types.specs.declared.request.Request.{Request}
use Rattle.virt_types.specs.declared.request.Request.TheVariants as request
use Rattle.request_asks.specs.Found.{HasReadOnce, Leaves, RestoreLeaves, restored_from}
use Rattle.request_asks.specs.Passes.{known}
use Rattle.request_asks.specs.declared.asked.Asked.{Asked}
use Rattle.request_asks.specs.declared.asked.Asked.TheVariants as asked

-- the same pass, later
pub record GoesOn (before after : StorePass) : Type 0 where
  pub same : SamePass before after
  pub later : IsLater level (known before) (known after)

stays : (before after : StorePass) → after ≡ before → GoesOn before after
stays before after is = subst (GoesOn before) (sym is) (record {
  same = record { cell = refl; first = refl; number = refl; parts = refl; ended = refl };
  later = record { number = refl; seen = begins_itself level before.seen; mine = ([], append-nil before.mine); spent = λ was. was };
})

spends : (before after : StorePass) → after ≡ record before { spent = true } → GoesOn before after
spends before after is = subst (GoesOn before) (sym is) (record {
  same = record { cell = refl; first = refl; number = refl; parts = refl; ended = refl };
  later = record { number = refl; seen = begins_itself level before.seen; mine = ([], append-nil before.mine); spent = λ was. refl };
})

module _ {F : Type 0} (told : F → Told) (faults : F → ℕ) where
  reads : (from : List ℕ) (before after : StorePass) → HasReadOnce told faults from before after → GoesOn before after
  reads from before after (saved, h) = record {
    same = h.went.same;
    later = record { number = h.went.same.number; seen = h.went.seen; mine = (tagged after.seen.chapter h.more, sym h.went.mine); spent = λ was. h.went.spent ∙ was };
  }

  restore_goes : (from : List ℕ) (a : Asked) (before after : StorePass) → RestoreLeaves told faults from a before after → GoesOn before after
  restore_goes from (asked.Task hold task) before after it = reads from before after it
  restore_goes from (asked.List listing) before after it = reads from before after it
  restore_goes from asked.Connection before after it = reads from before after it
  restore_goes from (asked.Refused why) before after it = stays before after it
  restore_goes from (asked.NotRestored why front) before after it = reads from before after it
  restore_goes from asked.NoMemory before after (inl it) = stays before after it
  restore_goes from asked.NoMemory before after (inr it) = reads from before after it
  restore_goes from asked.Spent before after it = spends before after it

  pub goes_on : (from : Option (List ℕ)) (a : Asked) (before after : StorePass) → Leaves told faults from a before after → GoesOn before after
  goes_on (Some from) a before after it = restore_goes from a before after it
  goes_on None a before after it = stays before after it

-- what is no restore
pub no_restore : (r : Request) → ((from : List ℕ) → r ≡ request.DomainRestore from → ⊥) → restored_from r ≡ None
no_restore (request.ConnectOpen name flags) is_not = refl
no_restore request.ConnectClose is_not = refl
no_restore (request.DomainCreateXml xml flags) is_not = refl
no_restore (request.DomainDefineXml xml) is_not = refl
no_restore (request.ListDefinedDomains most) is_not = refl
no_restore (request.DomainLookupByName name) is_not = refl
no_restore (request.DomainLookupByUuid uuid) is_not = refl
no_restore (request.ListDefinedNetworks most) is_not = refl
no_restore (request.ListNetworks most) is_not = refl
no_restore (request.NetworkDefineXml xml) is_not = refl
no_restore (request.NetworkLookupByName name) is_not = refl
no_restore request.ListAll is_not = refl
no_restore request.Titles is_not = refl
no_restore (request.PoolDefine xml) is_not = refl
no_restore (request.PoolLookup name) is_not = refl
no_restore request.PoolList is_not = refl
no_restore (request.MigratePrepare xml running state) is_not = refl
no_restore (request.OnDomain target it) is_not = refl
no_restore (request.OnNetwork target it) is_not = refl
no_restore (request.OnPool target it) is_not = refl
no_restore (request.DomainRestore from) is_not = absurd (is_not from refl)
