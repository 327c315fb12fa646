-- A request that is built asks for a query where it only reads, and else for a call.
use Rattle.std.proofs.Common.{◌≡◌, ℕ, ℤ, List, Bool, true, false, Option, None, Some, Result, Ok, Err, refl, sym, subst}
use Rattle.book_spec.specs.declared.list.ListCall.{ListCall}
use Rattle.list_replies.specs.Below.domain_requests.Requests.{IsTaskOf, attaches, detaches, parsed_as, passed_one, reads, runs, takes, with_bound, with_name, yes_or_no}
use Rattle.list_replies.specs.Below.domain_requests.Texts.{device_in, snapshot_in}
use Rattle.list_replies.specs.Below.domain_requests.declared.task.Parsed.{Parsed}
use Rattle.list_replies.specs.Below.domain_requests.declared.task.Parsed.TheVariants as parsed
use Rattle.list_replies.specs.Below.domain_requests.declared.task.Task.{Task}
use Rattle.list_replies.specs.Below.domain_requests.declared.task.Task.TheVariants as task
use Rattle.driver_cells.specs.OfTasks.{IsUnbuilt}
use Rattle.driver_cells.specs.OfOutcomes.{Asks, IsTask, KnownRow, is_built, is_built_of_domain, is_read, is_read_of_domain}
use Rattle.virt_types.specs.Name.{bad_place}
use Rattle.virt_types.specs.declared.call.Call.{Call}
use Rattle.virt_types.specs.declared.call.Call.TheVariants as call
use Rattle.virt_types.specs.declared.call.Query.TheVariants as query
use Rattle.virt_types.specs.Below.types_base.declared.device_def.DeviceDef.{DeviceDef}
use Rattle.virt_types.specs.declared.domain.SnapInfo.{SnapInfo}
use Rattle.virt_types.specs.declared.object_request.DomainRequest.{DomainRequest}
use Rattle.virt_types.specs.declared.object_request.DomainRequest.TheVariants as on_domain
use Rattle.virt_types.specs.Below.types_base.declared.refusal.Refusal.{Refusal}
use Rattle.virt_types.specs.declared.request.Request.{Request}
use Rattle.virt_types.specs.declared.request.Request.TheVariants as request
use Rattle.virt_types.specs.declared.value.Reply.{Reply}
use Rattle.held_tasks.specs.Outcomes.{is_query}

-- a query where it reads, and else a call
abbrev pub IsKind : Task → Bool → Type 0
IsKind (task.Read q) reads = reads ≡ true
IsKind (task.Run c) reads = reads ≡ false
IsKind other reads = ⊥

abbrev IsParsedKind : Parsed → Bool → Type 0
IsParsedKind (parsed.Attach d) reads = reads ≡ false
IsParsedKind (parsed.Ready t) reads = IsKind t reads

abbrev IsResultKind : Result Parsed Refusal → Bool → Type 0
IsResultKind (Ok p) reads = IsParsedKind p reads
IsResultKind (Err why) reads = Unit {0}

-- ---- what a request for one domain is

attach_kind : (x : Result DeviceDef (List ℕ)) → IsResultKind (attaches x) false
attach_kind (Ok d) = refl
attach_kind (Err kept) = tt

detach_kind : (x : Result DeviceDef (List ℕ)) → IsResultKind (detaches x) false
detach_kind (Ok d) = refl
detach_kind (Err kept) = tt

take_kind : (x : Result SnapInfo (List ℕ)) → IsResultKind (takes x) false
take_kind (Ok s) = refl
take_kind (Err kept) = tt

bound_kind : (n : ℤ) (bound : Option ℕ) (one other : Call) → IsResultKind (with_bound n bound one other) false
bound_kind n None one other = refl
bound_kind n (Some bound) one other = tt

name_kind : (text : List ℕ) (place : Option ℕ) (asked : Result Parsed Refusal) (reads : Bool) → IsResultKind asked reads → IsResultKind (with_name text place asked) reads
name_kind text None asked reads k = k
name_kind text (Some at) asked reads k = tt

result_kind : (asked : DomainRequest) → is_built_of_domain asked ≡ true → IsResultKind (parsed_as asked) (is_read_of_domain asked)
result_kind (on_domain.AttachDevice xml) built = attach_kind (device_in xml)
result_kind (on_domain.DetachDevice xml) built = detach_kind (device_in xml)
result_kind (on_domain.SnapCreate xml) built = take_kind (snapshot_in xml)
result_kind (on_domain.SetAutostart n) built = bound_kind n (passed_one n) (call.SetAutostart true) (call.SetAutostart false)
result_kind (on_domain.MigrateConfirm n) built = bound_kind n (passed_one n) (call.Confirm true) (call.Confirm false)
result_kind (on_domain.MigrateFinish n) built = bound_kind n (passed_one n) (call.Finish true) (call.Finish false)
result_kind (on_domain.SnapDelete name children) built =
    name_kind name (bad_place name) (yes_or_no children (λ all. call.SnapDelete name all)) false (bound_kind children (passed_one children) (call.SnapDelete name true) (call.SnapDelete name false))
result_kind (on_domain.SnapRevert name) built = name_kind name (bad_place name) (runs (call.Revert name)) false refl
result_kind (on_domain.SnapParent name) built = name_kind name (bad_place name) (reads (query.SnapParent name)) true refl
result_kind (on_domain.SnapXml name) built = name_kind name (bad_place name) (reads (query.SnapText name)) true refl
result_kind (on_domain.CoreDump to flags) built = name_kind to (bad_place to) (runs (call.Dump to)) false refl
result_kind (on_domain.Save to) built = name_kind to (bad_place to) (runs (call.Save to)) false refl
result_kind (on_domain.GetXmlDesc flags) built = refl
result_kind on_domain.GetAutostart built = refl
result_kind on_domain.GetInfo built = refl
result_kind on_domain.JobInfo built = refl
result_kind on_domain.SnapList built = refl
result_kind on_domain.EventRegister built = absurd cc
result_kind on_domain.EventDeregister built = absurd cc
result_kind on_domain.Create built = refl
result_kind on_domain.Destroy built = refl
result_kind on_domain.Resume built = refl
result_kind on_domain.Suspend built = refl
result_kind on_domain.Shutdown built = refl
result_kind (on_domain.Reboot flags) built = refl
result_kind on_domain.Undefine built = refl
result_kind (on_domain.SetMemory memory) built = refl
result_kind (on_domain.SetVcpus vcpus) built = refl
result_kind on_domain.JobAbort built = refl
result_kind on_domain.MemoryStats built = refl
result_kind (on_domain.Kick action) built = refl
result_kind on_domain.MigratePerform built = refl
result_kind (on_domain.MigrateLimit rest) built = refl

task_kind : (words : List ℕ) (p : Parsed) (t : Task) (reads : Bool) → IsTaskOf words p t → IsParsedKind p reads → IsKind t reads
task_kind words (parsed.Attach d) (task.Read q) reads of k = absurd of
task_kind words (parsed.Attach d) (task.Run c) reads of k = k
task_kind words (parsed.Attach d) task.Register reads of k = absurd of
task_kind words (parsed.Attach d) task.Deregister reads of k = absurd of
task_kind words (parsed.Ready s) t reads of k = subst (λ (x : Task). IsKind x reads) (sym of.1) k

domain_kind : (asked : DomainRequest) (t : Task) → IsTask asked t → is_built_of_domain asked ≡ true → IsKind t (is_read_of_domain asked)
domain_kind asked t (p, words, parse, of) built =
    task_kind words p t (is_read_of_domain asked) of (subst (λ (x : Result Parsed Refusal). IsResultKind x (is_read_of_domain asked)) parse (result_kind asked built))

-- ---- any request

is_kind : (t s : Task) (reads : Bool) → t ≡ s → IsKind s reads → IsKind t reads
is_kind t s reads e k = subst (λ (x : Task). IsKind x reads) (sym e) k

pub kind_of : (before after : KnownRow) (r : Request) (held : ListCall) (t : Task) → Asks before after r held t → is_built r ≡ true → IsKind t (is_read r)
kind_of before after (request.OnDomain target asked) held t (is, asks) built = domain_kind asked t asks built
kind_of before after (request.DomainLookupByName name) held t (is, asks) built = is_kind t _ true asks refl
kind_of before after (request.DomainLookupByUuid uuid) held t (is, asks) built = is_kind t _ true asks refl
kind_of before after (request.DomainDefineXml xml) held t (d, read, is, asks) built = is_kind t _ false asks refl
kind_of before after (request.DomainCreateXml xml flags) held t (d, read, is, asks) built = is_kind t _ false asks refl
kind_of before after (request.MigratePrepare xml running state) held t (d, bound, read, is, asks) built = is_kind t _ false asks refl
kind_of before after (request.DomainRestore from) held t (g, d, restored, is, asks) built = is_kind t _ false asks refl
kind_of before after (request.ConnectOpen name flags) held t asks built = absurd asks
kind_of before after request.ConnectClose held t asks built = absurd asks
kind_of before after (request.ListDefinedDomains most) held t asks built = absurd asks
kind_of before after (request.ListDefinedNetworks most) held t asks built = absurd asks
kind_of before after (request.ListNetworks most) held t asks built = absurd asks
kind_of before after (request.NetworkDefineXml xml) held t asks built = absurd asks
kind_of before after (request.NetworkLookupByName name) held t asks built = absurd asks
kind_of before after request.ListAll held t asks built = absurd asks
kind_of before after request.Titles held t asks built = absurd asks
kind_of before after (request.PoolDefine xml) held t asks built = absurd asks
kind_of before after (request.PoolLookup name) held t asks built = absurd asks
kind_of before after request.PoolList held t asks built = absurd asks
kind_of before after (request.OnNetwork network asked) held t asks built = absurd asks
kind_of before after (request.OnPool pool asked) held t asks built = absurd asks

-- it is built
pub not_unbuilt : (t : Task) (reads : Bool) (r : Reply) → IsKind t reads → IsUnbuilt t r → ⊥
not_unbuilt (task.Read q) reads r k unbuilt = unbuilt
not_unbuilt (task.Run c) reads r k unbuilt = unbuilt
not_unbuilt task.Register reads r k unbuilt = k
not_unbuilt task.Deregister reads r k unbuilt = k

pub query_is : (t : Task) (reads : Bool) → IsKind t reads → is_query t ≡ reads
query_is (task.Read q) reads k = sym k
query_is (task.Run c) reads k = sym k
query_is task.Register reads k = absurd k
query_is task.Deregister reads k = absurd k
