-- No command makes more than three calls.
use Rattle.std.proofs.Common.{◌≡◌, ◌+◌, ◌≤◌, ◌<◌, ℕ, suc, zero, List, [], ◌∷◌, Option, None, Some, Result, Ok, Err, length, refl, subst, arith}
use Rattle.std.specs.Prelude.{IfOk, IsSome, slice_get}
use Rattle.virt_types.specs.Below.types_base.declared.memory.NoMemory.{NoMemory}
use Rattle.virt_types.specs.declared.object_request.DomainRequest.{DomainRequest}
use Rattle.virt_types.specs.declared.object_request.DomainRequest.TheVariants as ask
use Rattle.virt_types.specs.declared.object_request.NetworkRequest.{NetworkRequest}
use Rattle.virt_types.specs.declared.object_request.PoolRequest.{PoolRequest}
use Rattle.virt_types.specs.declared.object_request.PoolRequest.TheVariants as ask_pool
use Rattle.virt_types.specs.declared.request.Request.{Request}
use Rattle.virt_types.specs.declared.request.Request.TheVariants as request
use Rattle.virt_types.specs.declared.value.Value.{Value}
use Rattle.command_spec.specs.declared.command.Command.{Command}
use Rattle.command_spec.specs.declared.command.Command.TheVariants as command
use Rattle.command_spec.specs.declared.form.DomainVerb.{DomainVerb}
use Rattle.command_spec.specs.declared.form.DomainVerb.TheVariants as domain
use Rattle.command_spec.specs.declared.form.Flag.{Flag}
use Rattle.command_spec.specs.declared.form.PlainVerb.{PlainVerb}
use Rattle.command_spec.specs.declared.form.PlainVerb.TheVariants as plain
use Rattle.virsh_plan.specs.Asks.{domain_asks, image_ask, network_ask, number_ask, pool_ask, snapshot_ask, text_ask, volume_ask}
use Rattle.virsh_plan.specs.Plan.{file_request, next_request, of_domain, of_network, of_pool, on_domain, on_network, on_pool, plain_requests}

no_some : (A : Type 0) → IsSome {T = A} None → ⊥
no_some A some = cc

got : {A : Type 0} (xs : List A) (n : ℕ) → IsSome (slice_get xs n) → n < length xs
got {A} [] n some = absurd (no_some A some)
got (x ∷ xs) zero some = omega arith
got (x ∷ xs) (suc n) some = omega (arith, got xs n some)

asked_domain : (v : Value) (o : Option DomainRequest) → IsSome (on_domain v o) → IsSome o
asked_domain v None some = absurd (no_some Request some)
asked_domain v (Some it) some = refl

few_domain : (name : List ℕ) (asks : List DomainRequest) (values : List Value) → length asks ≤ 2 → IsSome (of_domain name asks values) → length values < 3
few_domain name asks [] two some = omega arith
few_domain name asks (found ∷ values) two some = omega (arith, two, got asks (length values) (asked_domain found (slice_get asks (length values)) some))

asked_network : (v : Value) (o : Option NetworkRequest) → IsSome (on_network v o) → IsSome o
asked_network v None some = absurd (no_some Request some)
asked_network v (Some it) some = refl

few_network : (name : List ℕ) (asks : List NetworkRequest) (values : List Value) → length asks ≤ 2 → IsSome (of_network name asks values) → length values < 3
few_network name asks [] two some = omega arith
few_network name asks (found ∷ values) two some = omega (arith, two, got asks (length values) (asked_network found (slice_get asks (length values)) some))

asked_pool : (v : Value) (o : Option PoolRequest) → IsSome (on_pool v o) → IsSome o
asked_pool v None some = absurd (no_some Request some)
asked_pool v (Some it) some = refl

few_pool : (name : List ℕ) (asks : List PoolRequest) (values : List Value) → length asks ≤ 2 → IsSome (of_pool name asks values) → length values < 3
few_pool name asks [] two some = omega arith
few_pool name asks (found ∷ values) two some = omega (arith, two, got asks (length values) (asked_pool found (slice_get asks (length values)) some))

two_asks : (verb : DomainVerb) (option : Option Flag) → length (domain_asks verb option) ≤ 2
two_asks domain.Info option = omega arith
two_asks domain.State option = omega arith
two_asks domain.Start option = omega arith
two_asks domain.Shutdown option = omega arith
two_asks domain.Reboot option = omega arith
two_asks domain.Suspend option = omega arith
two_asks domain.Resume option = omega arith
two_asks domain.Destroy option = omega arith
two_asks domain.Undefine option = omega arith
two_asks domain.Autostart option = omega arith
two_asks domain.DumpXml option = omega arith
two_asks domain.JobInfo option = omega arith
two_asks domain.JobAbort option = omega arith
two_asks domain.MemStat option = omega arith
two_asks domain.SnapshotList option = omega arith

two_plain : (verb : PlainVerb) → length (plain_requests verb) ≤ 2
two_plain plain.List = omega arith
two_plain plain.NetList = omega arith
two_plain plain.PoolList = omega arith

within : {A : Type 0} (xs : List A) (n : ℕ) → length xs ≤ 2 → IsSome (slice_get xs n) → n < 3
within xs n two some = omega (arith, two, got xs n some)

few_of : (c : Command) (option : Option Flag) (xml : List ℕ) (values : List Value) → IsSome (next_request c option xml values) → length values < 3
few_of (command.Plain verb) option xml values some = within (plain_requests verb) (length values) (two_plain verb) some
few_of (command.File verb path) option xml values some = within (file_request verb xml ∷ []) (length values) (omega arith) some
few_of (command.Restore image) option xml values some = within (request.DomainRestore image ∷ []) (length values) (omega arith) some
few_of (command.Domain verb name) option xml values some = few_domain name (domain_asks verb option) values (two_asks verb option) some
few_of (command.Number verb name n) option xml values some = few_domain name (number_ask verb n ∷ []) values (omega arith) some
few_of (command.SetMem name memory) option xml values some = few_domain name (ask.SetMemory memory ∷ []) values (omega arith) some
few_of (command.DomainFile verb name path) option xml values some = few_domain name (text_ask verb xml ∷ []) values (omega arith) some
few_of (command.Image verb name image) option xml values some = few_domain name (image_ask verb image ∷ []) values (omega arith) some
few_of (command.Snapshot verb name s) option xml values some = few_domain name (snapshot_ask verb option s ∷ []) values (omega arith) some
few_of (command.Network verb name) option xml values some = few_network name (network_ask verb ∷ []) values (omega arith) some
few_of (command.Pool verb name) option xml values some = few_pool name (pool_ask verb ∷ []) values (omega arith) some
few_of (command.VolCreate pool path) option xml values some = few_pool pool (ask_pool.VolCreate xml ∷ []) values (omega arith) some
few_of (command.Volume verb pool v) option xml values some = few_pool pool (volume_ask verb v ∷ []) values (omega arith) some
few_of (command.Events count listens) option xml values some = absurd (no_some Request some)

few : (c : Command) (option : Option Flag) (xml : List ℕ) (values : List Value) (next : Option Request) → next ≡ next_request c option xml values → IsSome next → length values < 3
few c option xml values next is some = few_of c option xml values (subst (λ (o : Option Request). IsSome o) is some)

-- so it is for the answer of a call
pub few_if : (c : Command) (option : Option Flag) (xml : List ℕ) (values : List Value) (r : Result (Option Request) NoMemory) → IfOk r (λ next. next ≡ next_request c option xml values) → IfOk r (λ next. IsSome next → length values < 3)
few_if c option xml values (Ok next) is = λ some. few c option xml values next is some
few_if c option xml values (Err e) is = tt
