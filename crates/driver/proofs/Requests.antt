-- What an answer rests on, by what the request was found to ask.
use Rattle.std.proofs.Common.{◌≡◌, ℕ, ℤ, true, false, Option, None, Some, refl, ap}
use Rattle.held_tasks.specs.OfOutcomes.{IsOfConnection, IsOfStore, KnownRow, is_read}
use Rattle.request_asks.specs.Found.{IsAsked, restored_from}
use Rattle.request_asks.specs.Passes.{known}
use Rattle.request_asks.specs.Plain.{names_asked, plainly_asked}
use Rattle.request_asks.specs.declared.asked.Asked.{Asked}
use Rattle.request_asks.specs.declared.asked.Asked.TheVariants as asked
use Rattle.request_asks.specs.declared.asked.Listing.{Listing}
use Rattle.request_asks.specs.declared.asked.Listing.TheVariants as listing
use Rattle.request_asks.specs.Below.session_spec.Bounds.{passed}
use Rattle.held_tasks.specs.OfDesks.{StorePass}
use Rattle.virt_types.specs.Below.types_base.declared.caller.Front.{Front}
use Rattle.virt_types.specs.Below.types_base.declared.refusal.Refusal.{Refusal}
use Rattle.virt_types.specs.declared.request.Request.{Request}
use Rattle.virt_types.specs.declared.request.Request.TheVariants as request
use Rattle.virt_types.specs.declared.value.Reply.TheVariants as reply
use Rattle.virt_types.specs.declared.value.Value.TheVariants as value
use Rattle.driver.specs.Called.{request_of}

-- ---- names are listed for a request alone that asks for them

no_names : (A : Type 0) (count : ℤ) (o : Option ℕ) (a : Asked) → ((k : ℤ) → asked.List (listing.Idle k) ≡ a → ⊥) → names_asked count o ≡ Some a → A
no_names A count None a not e = absurd (not count (some_same (asked.List (listing.Idle count)) a e))
  where
    some_same : (x y : Asked) → Some x ≡ Some y → x ≡ y
    some_same x y e = cc
no_names A count (Some bound) a not e = absurd cc

so_many : (count most : ℤ) (o : Option ℕ) → names_asked count o ≡ Some (asked.List (listing.Idle most)) → count ≡ most
so_many count most None e = cc
so_many count most (Some bound) e = absurd cc

-- ---- a list is asked for by one request alone

all_is : (r : Request) → plainly_asked r ≡ Some (asked.List listing.All) → r ≡ request.ListAll
all_is (request.OnDomain target what) e = absurd cc
all_is (request.DomainLookupByName name) e = absurd cc
all_is (request.DomainLookupByUuid uuid) e = absurd cc
all_is (request.DomainDefineXml xml) e = absurd cc
all_is (request.DomainCreateXml xml flags) e = absurd cc
all_is (request.MigratePrepare xml running state) e = absurd cc
all_is (request.DomainRestore from) e = absurd cc
all_is (request.ConnectOpen name flags) e = absurd cc
all_is request.ConnectClose e = absurd cc
all_is (request.ListDefinedDomains count) e = no_names (request.ListDefinedDomains count ≡ request.ListAll) count (passed count) (asked.List listing.All) (λ k e. absurd cc) e
all_is (request.ListDefinedNetworks count) e = absurd cc
all_is (request.ListNetworks count) e = absurd cc
all_is (request.NetworkDefineXml xml) e = absurd cc
all_is (request.NetworkLookupByName name) e = absurd cc
all_is request.ListAll e = refl
all_is request.Titles e = absurd cc
all_is (request.PoolDefine xml) e = absurd cc
all_is (request.PoolLookup name) e = absurd cc
all_is request.PoolList e = absurd cc
all_is (request.OnNetwork network what) e = absurd cc
all_is (request.OnPool pool what) e = absurd cc

titles_is : (r : Request) → plainly_asked r ≡ Some (asked.List listing.Titles) → r ≡ request.Titles
titles_is (request.OnDomain target what) e = absurd cc
titles_is (request.DomainLookupByName name) e = absurd cc
titles_is (request.DomainLookupByUuid uuid) e = absurd cc
titles_is (request.DomainDefineXml xml) e = absurd cc
titles_is (request.DomainCreateXml xml flags) e = absurd cc
titles_is (request.MigratePrepare xml running state) e = absurd cc
titles_is (request.DomainRestore from) e = absurd cc
titles_is (request.ConnectOpen name flags) e = absurd cc
titles_is request.ConnectClose e = absurd cc
titles_is (request.ListDefinedDomains count) e = no_names (request.ListDefinedDomains count ≡ request.Titles) count (passed count) (asked.List listing.Titles) (λ k e. absurd cc) e
titles_is (request.ListDefinedNetworks count) e = absurd cc
titles_is (request.ListNetworks count) e = absurd cc
titles_is (request.NetworkDefineXml xml) e = absurd cc
titles_is (request.NetworkLookupByName name) e = absurd cc
titles_is request.ListAll e = absurd cc
titles_is request.Titles e = refl
titles_is (request.PoolDefine xml) e = absurd cc
titles_is (request.PoolLookup name) e = absurd cc
titles_is request.PoolList e = absurd cc
titles_is (request.OnNetwork network what) e = absurd cc
titles_is (request.OnPool pool what) e = absurd cc

idle_is : (most : ℤ) (r : Request) → plainly_asked r ≡ Some (asked.List (listing.Idle most)) → r ≡ request.ListDefinedDomains most
idle_is most (request.OnDomain target what) e = absurd cc
idle_is most (request.DomainLookupByName name) e = absurd cc
idle_is most (request.DomainLookupByUuid uuid) e = absurd cc
idle_is most (request.DomainDefineXml xml) e = absurd cc
idle_is most (request.DomainCreateXml xml flags) e = absurd cc
idle_is most (request.MigratePrepare xml running state) e = absurd cc
idle_is most (request.DomainRestore from) e = absurd cc
idle_is most (request.ConnectOpen name flags) e = absurd cc
idle_is most request.ConnectClose e = absurd cc
idle_is most (request.ListDefinedDomains count) e = ap request.ListDefinedDomains (so_many count most (passed count) e)
idle_is most (request.ListDefinedNetworks count) e = absurd cc
idle_is most (request.ListNetworks count) e = absurd cc
idle_is most (request.NetworkDefineXml xml) e = absurd cc
idle_is most (request.NetworkLookupByName name) e = absurd cc
idle_is most request.ListAll e = absurd cc
idle_is most request.Titles e = absurd cc
idle_is most (request.PoolDefine xml) e = absurd cc
idle_is most (request.PoolLookup name) e = absurd cc
idle_is most request.PoolList e = absurd cc
idle_is most (request.OnNetwork network what) e = absurd cc
idle_is most (request.OnPool pool what) e = absurd cc

pub asks_for : (l : Listing) (r : Request) → plainly_asked r ≡ Some (asked.List l) → r ≡ request_of l
asks_for listing.All r e = all_is r e
asks_for (listing.Idle most) r e = idle_is most r e
asks_for listing.Titles r e = titles_is r e

-- ---- the connection

pub connection_of : (r : Request) → plainly_asked r ≡ Some asked.Connection → IsOfConnection r (reply.Ok value.Nothing)
connection_of (request.OnDomain target what) e = absurd cc
connection_of (request.DomainLookupByName name) e = absurd cc
connection_of (request.DomainLookupByUuid uuid) e = absurd cc
connection_of (request.DomainDefineXml xml) e = absurd cc
connection_of (request.DomainCreateXml xml flags) e = absurd cc
connection_of (request.MigratePrepare xml running state) e = absurd cc
connection_of (request.DomainRestore from) e = absurd cc
connection_of (request.ConnectOpen name flags) e = refl
connection_of request.ConnectClose e = refl
connection_of (request.ListDefinedDomains count) e = no_names (IsOfConnection (request.ListDefinedDomains count) (reply.Ok value.Nothing)) count (passed count) asked.Connection (λ k e. absurd cc) e
connection_of (request.ListDefinedNetworks count) e = absurd cc
connection_of (request.ListNetworks count) e = absurd cc
connection_of (request.NetworkDefineXml xml) e = absurd cc
connection_of (request.NetworkLookupByName name) e = absurd cc
connection_of request.ListAll e = absurd cc
connection_of request.Titles e = absurd cc
connection_of (request.PoolDefine xml) e = absurd cc
connection_of (request.PoolLookup name) e = absurd cc
connection_of request.PoolList e = absurd cc
connection_of (request.OnNetwork network what) e = absurd cc
connection_of (request.OnPool pool what) e = absurd cc

-- ---- images that are not restored

-- of the requests a restore alone may find one
pub not_restored : (before after : StorePass) (old new : KnownRow) (why : Refusal) (front : Front) → old.store ≡ known before → new.store ≡ known after → (r : Request) → IsAsked before after (asked.NotRestored why front) r → IsOfStore old new r front (reply.No why)
not_restored before after old new why front was is (request.OnDomain target what) asks = absurd cc
not_restored before after old new why front was is (request.DomainLookupByName name) asks = absurd cc
not_restored before after old new why front was is (request.DomainLookupByUuid uuid) asks = absurd cc
not_restored before after old new why front was is (request.DomainDefineXml xml) asks = absurd cc
not_restored before after old new why front was is (request.DomainCreateXml xml flags) asks = absurd cc
not_restored before after old new why front was is (request.MigratePrepare xml running state) asks = absurd cc
not_restored before after old new why front was is (request.DomainRestore from) asks = (why, refl, asks old new was is)
not_restored before after old new why front was is (request.ConnectOpen name flags) asks = absurd cc
not_restored before after old new why front was is request.ConnectClose asks = absurd cc
not_restored before after old new why front was is (request.ListDefinedDomains count) asks = no_names (IsOfStore old new (request.ListDefinedDomains count) front (reply.No why)) count (passed count) (asked.NotRestored why front) (λ k e. absurd cc) asks
not_restored before after old new why front was is (request.ListDefinedNetworks count) asks = absurd cc
not_restored before after old new why front was is (request.ListNetworks count) asks = absurd cc
not_restored before after old new why front was is (request.NetworkDefineXml xml) asks = absurd cc
not_restored before after old new why front was is (request.NetworkLookupByName name) asks = absurd cc
not_restored before after old new why front was is request.ListAll asks = absurd cc
not_restored before after old new why front was is request.Titles asks = absurd cc
not_restored before after old new why front was is (request.PoolDefine xml) asks = absurd cc
not_restored before after old new why front was is (request.PoolLookup name) asks = absurd cc
not_restored before after old new why front was is request.PoolList asks = absurd cc
not_restored before after old new why front was is (request.OnNetwork network what) asks = absurd cc
not_restored before after old new why front was is (request.OnPool pool what) asks = absurd cc

-- for a restore alone there may be no ticket
pub spent_store : (before after : StorePass) (r : Request) → IsAsked before after asked.Spent r → after.spent ≡ true
spent_store before after (request.OnDomain target what) asks = absurd cc
spent_store before after (request.DomainLookupByName name) asks = absurd cc
spent_store before after (request.DomainLookupByUuid uuid) asks = absurd cc
spent_store before after (request.DomainDefineXml xml) asks = absurd cc
spent_store before after (request.DomainCreateXml xml flags) asks = absurd cc
spent_store before after (request.MigratePrepare xml running state) asks = absurd cc
spent_store before after (request.DomainRestore from) asks = asks
spent_store before after (request.ConnectOpen name flags) asks = absurd cc
spent_store before after request.ConnectClose asks = absurd cc
spent_store before after (request.ListDefinedDomains count) asks = no_names (after.spent ≡ true) count (passed count) asked.Spent (λ k e. absurd cc) asks
spent_store before after (request.ListDefinedNetworks count) asks = absurd cc
spent_store before after (request.ListNetworks count) asks = absurd cc
spent_store before after (request.NetworkDefineXml xml) asks = absurd cc
spent_store before after (request.NetworkLookupByName name) asks = absurd cc
spent_store before after request.ListAll asks = absurd cc
spent_store before after request.Titles asks = absurd cc
spent_store before after (request.PoolDefine xml) asks = absurd cc
spent_store before after (request.PoolLookup name) asks = absurd cc
spent_store before after request.PoolList asks = absurd cc
spent_store before after (request.OnNetwork network what) asks = absurd cc
spent_store before after (request.OnPool pool what) asks = absurd cc

-- a restore does not only read
pub restores_change : (before after : StorePass) (why : Refusal) (front : Front) (r : Request) → IsAsked before after (asked.NotRestored why front) r → is_read r ≡ false
restores_change before after why front (request.OnDomain target what) asks = absurd cc
restores_change before after why front (request.DomainLookupByName name) asks = absurd cc
restores_change before after why front (request.DomainLookupByUuid uuid) asks = absurd cc
restores_change before after why front (request.DomainDefineXml xml) asks = absurd cc
restores_change before after why front (request.DomainCreateXml xml flags) asks = absurd cc
restores_change before after why front (request.MigratePrepare xml running state) asks = absurd cc
restores_change before after why front (request.DomainRestore from) asks = refl
restores_change before after why front (request.ConnectOpen name flags) asks = absurd cc
restores_change before after why front request.ConnectClose asks = absurd cc
restores_change before after why front (request.ListDefinedDomains count) asks = no_names (true ≡ false) count (passed count) (asked.NotRestored why front) (λ k e. absurd cc) asks
restores_change before after why front (request.ListDefinedNetworks count) asks = absurd cc
restores_change before after why front (request.ListNetworks count) asks = absurd cc
restores_change before after why front (request.NetworkDefineXml xml) asks = absurd cc
restores_change before after why front (request.NetworkLookupByName name) asks = absurd cc
restores_change before after why front request.ListAll asks = absurd cc
restores_change before after why front request.Titles asks = absurd cc
restores_change before after why front (request.PoolDefine xml) asks = absurd cc
restores_change before after why front (request.PoolLookup name) asks = absurd cc
restores_change before after why front request.PoolList asks = absurd cc
restores_change before after why front (request.OnNetwork network what) asks = absurd cc
restores_change before after why front (request.OnPool pool what) asks = absurd cc

-- ---- no image is read for a request of which no word has to be read

pub reads_no_image : (a : Asked) (r : Request) → plainly_asked r ≡ Some a → restored_from r ≡ None
reads_no_image a (request.OnDomain target what) e = refl
reads_no_image a (request.DomainLookupByName name) e = refl
reads_no_image a (request.DomainLookupByUuid uuid) e = refl
reads_no_image a (request.DomainDefineXml xml) e = refl
reads_no_image a (request.DomainCreateXml xml flags) e = refl
reads_no_image a (request.MigratePrepare xml running state) e = refl
reads_no_image a (request.DomainRestore from) e = absurd cc
reads_no_image a (request.ConnectOpen name flags) e = refl
reads_no_image a request.ConnectClose e = refl
reads_no_image a (request.ListDefinedDomains count) e = refl
reads_no_image a (request.ListDefinedNetworks count) e = refl
reads_no_image a (request.ListNetworks count) e = refl
reads_no_image a (request.NetworkDefineXml xml) e = refl
reads_no_image a (request.NetworkLookupByName name) e = refl
reads_no_image a request.ListAll e = refl
reads_no_image a request.Titles e = refl
reads_no_image a (request.PoolDefine xml) e = refl
reads_no_image a (request.PoolLookup name) e = refl
reads_no_image a request.PoolList e = refl
reads_no_image a (request.OnNetwork network what) e = refl
reads_no_image a (request.OnPool pool what) e = refl
