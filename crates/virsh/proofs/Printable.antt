-- The answers to all calls of a command have a text.
use Rattle.std.proofs.Common.{◌≡◌, ℕ, pos, List, [], ◌∷◌, ◌++◌, Option, None, Some, refl, sym, ap, ◌∙◌, subst}
use Rattle.std.specs.Prelude.{is_some}
use Rattle.virt_types.specs.declared.object_request.DomainRequest.{DomainRequest}
use Rattle.virt_types.specs.declared.object_request.DomainRequest.TheVariants as ask
use Rattle.virt_types.specs.declared.object_request.NetworkRequest.{NetworkRequest}
use Rattle.virt_types.specs.declared.object_request.PoolRequest.{PoolRequest}
use Rattle.virt_types.specs.declared.object_request.PoolRequest.TheVariants as ask_pool
use Rattle.virt_types.specs.declared.reference.DomainRef.{DomainRef}
use Rattle.virt_types.specs.declared.reference.NetworkRef.{NetworkRef}
use Rattle.virt_types.specs.declared.reference.PoolRef.{PoolRef}
use Rattle.virt_types.specs.declared.request.Request.{Request}
use Rattle.virt_types.specs.declared.request.Request.TheVariants as request
use Rattle.virt_types.specs.declared.value.DomainRow.{DomainRow}
use Rattle.virt_types.specs.declared.value.Value.{Value}
use Rattle.virt_types.specs.declared.value.Value.TheVariants as value
use Rattle.procedure_spec.specs.Results.{HasShape, result_shape}
use Rattle.procedure_spec.specs.declared.shape.ResultShape.TheVariants as shape
use Rattle.command_spec.specs.Output.{Prints}
use Rattle.command_spec.specs.Printed.{shown}
use Rattle.command_spec.specs.declared.command.Command.{Command}
use Rattle.command_spec.specs.declared.command.Command.TheVariants as command
use Rattle.command_spec.specs.declared.command.Job.{Job}
use Rattle.command_spec.specs.declared.form.DomainFileVerb.{DomainFileVerb}
use Rattle.command_spec.specs.declared.form.DomainFileVerb.TheVariants as text
use Rattle.command_spec.specs.declared.form.DomainVerb.{DomainVerb}
use Rattle.command_spec.specs.declared.form.DomainVerb.TheVariants as domain
use Rattle.command_spec.specs.declared.form.FileVerb.{FileVerb}
use Rattle.command_spec.specs.declared.form.FileVerb.TheVariants as file
use Rattle.command_spec.specs.declared.form.Flag.{Flag}
use Rattle.command_spec.specs.declared.form.ImageVerb.{ImageVerb}
use Rattle.command_spec.specs.declared.form.ImageVerb.TheVariants as image
use Rattle.command_spec.specs.declared.form.NetworkVerb.{NetworkVerb}
use Rattle.command_spec.specs.declared.form.NetworkVerb.TheVariants as network
use Rattle.command_spec.specs.declared.form.NumberVerb.{NumberVerb}
use Rattle.command_spec.specs.declared.form.NumberVerb.TheVariants as number
use Rattle.command_spec.specs.declared.form.PlainVerb.{PlainVerb}
use Rattle.command_spec.specs.declared.form.PlainVerb.TheVariants as plain
use Rattle.command_spec.specs.declared.form.PoolVerb.{PoolVerb}
use Rattle.command_spec.specs.declared.form.PoolVerb.TheVariants as pool
use Rattle.command_spec.specs.declared.form.SnapshotVerb.{SnapshotVerb}
use Rattle.command_spec.specs.declared.form.SnapshotVerb.TheVariants as snapshot
use Rattle.command_spec.specs.declared.form.VolumeVerb.{VolumeVerb}
use Rattle.command_spec.specs.declared.form.VolumeVerb.TheVariants as volume
use Rattle.virsh_plan.specs.Asks.{autostart_number, domain_asks, image_ask, network_ask, number_ask, pool_ask, snapshot_ask, stored_bit, text_ask, volume_ask}
use Rattle.virsh_plan.specs.Plan.{next_request, of_domain, of_network, of_pool, on_domain}
use Rattle.virsh_plan.specs.Targets.{domain_target, network_target, pool_target}
use Rattle.rpc_client.specs.Calling.{Connection}
use Rattle.virsh.specs.Calls.{Asked, IsAsked, next_of}
use Rattle.virsh.specs.Ends.{IsPrintable}
use Rattle.virsh.specs.Top.{IsServedCommand}
use Rattle.virsh.proofs.Ordered.{have_order}
use Rattle.virsh.proofs.Shapes.{are_domains, are_leases, are_names, are_pools, is_autostart, is_domain, is_info, is_job, is_memory, is_name, is_network, is_nothing, is_parent, is_pool, is_text}

-- each value has the shape of the reply to what was asked before it
abbrev pub Shaped : (List Value → Option Request) → List Value → List Value → Type 0
Shaped next done [] = Unit {0}
Shaped next done (v ∷ values) = (asked : Request) × (next done ≡ Some asked) × HasShape v (result_shape asked) × Shaped next (done ++ v ∷ []) values

module _ {S K : Type 0} (left : S → Option (List ℕ)) (source_faults : S → ℕ) (held : K → Option (List ℕ)) (sink_faults : K → ℕ) where
  pub shaped_all : (job : Job) (xml : List ℕ) (done : List Value) (old : Connection S K) (values : List Value) (new : Connection S K)
      → Asked left source_faults held sink_faults job xml done old values new → Shaped (next_of job xml) done values
  unfolding Asked
  shaped_all job xml done old [] new asked = tt
  shaped_all job xml done old (v ∷ values) new (asked, then, next, one, more) =
      (asked, next, one.answers.spelled.shaped, shaped_all job xml (done ++ v ∷ []) then values new more)

same_request : (asked other : Request) → Some asked ≡ Some other → asked ≡ other
same_request asked other e = cc

-- the value answers this request
shape_at : (v : Value) (next : Option Request) (wanted asked : Request) → next ≡ Some wanted → next ≡ Some asked → HasShape v (result_shape asked) → HasShape v (result_shape wanted)
shape_at v next wanted asked is was shaped = let same : asked ≡ wanted = same_request asked wanted (sym was ∙ is) in subst (λ (r : Request). HasShape v (result_shape r)) same shaped

none_left : {A : Type 0} (r : Request) → Some r ≡ None → A
none_left r e = absurd cc

none_asked : {A : Type 0} (r : Request) → None ≡ Some r → A
none_asked r e = absurd cc

-- ---- commands without a lookup

pub record Single (values : List Value) (asked : Request) : Type 0 where
  pub v : Value
  pub are : values ≡ v ∷ []
  pub shaped : HasShape v (result_shape asked)

single : (asked : Request) (next : List Value → Option Request) (values : List Value) → next [] ≡ Some asked → ((v w : Value) (more : List Value) → next (v ∷ []) ≡ None)
    → Shaped next [] values → next values ≡ None → Single values asked
single asked next [] first then shaped over = none_left asked (sym first ∙ over)
single asked next (v ∷ []) first then (made, was, is, more) over = record { v = v; are = refl; shaped = shape_at v (next []) asked made first was is }
single asked next (v ∷ w ∷ values) first then (made, was, is, (other, follows, has, more)) over = none_asked other (sym (then v w values) ∙ follows)

pub record Double (values : List Value) (one other : Request) : Type 0 where
  pub v : Value
  pub w : Value
  pub are : values ≡ v ∷ w ∷ []
  pub shaped : HasShape v (result_shape one)
  pub after : HasShape w (result_shape other)

double : (one other : Request) (next : List Value → Option Request) (values : List Value) → next [] ≡ Some one → ((v : Value) → next (v ∷ []) ≡ Some other) → ((v w : Value) → next (v ∷ w ∷ []) ≡ None)
    → Shaped next [] values → next values ≡ None → Double values one other
double one other next [] first second then shaped over = none_left one (sym first ∙ over)
double one other next (v ∷ []) first second then shaped over = none_left other (sym (second v) ∙ over)
double one other next (v ∷ w ∷ []) first second then (made, was, is, (made2, was2, is2, more)) over = record {
  v = v;
  w = w;
  are = refl;
  shaped = shape_at v (next []) one made first was is;
  after = shape_at w (next (v ∷ [])) other made2 (second v) was2 is2;
}
double one other next (v ∷ w ∷ u ∷ values) first second then (made, was, is, (made2, was2, is2, (made3, follows, has, more))) over = none_asked made3 (sym (then v w) ∙ follows)

-- ---- commands with a lookup

-- what was looked up, and the one answer that followed
pub record Pair {X : Type 0} (make : X → Value) (values : List Value) (asked : X → Request) : Type 0 where
  pub x : X
  pub v : Value
  pub are : values ≡ make x ∷ v ∷ []
  pub shaped : HasShape v (result_shape (asked x))

pair : {X : Type 0} (make : X → Value) (lookup : Request) (asked : X → Request) (next : List Value → Option Request) (values : List Value)
    → ((v : Value) → HasShape v (result_shape lookup) → (x : X) × (v ≡ make x))
    → next [] ≡ Some lookup → ((x : X) → next (make x ∷ []) ≡ Some (asked x)) → ((v w : Value) → next (v ∷ w ∷ []) ≡ None)
    → Shaped next [] values → next values ≡ None → Pair make values asked
pair make lookup asked next [] found first second then shaped over = none_left lookup (sym first ∙ over)
pair make lookup asked next (v ∷ []) found first second then (made, was, is, more) over =
    let x = found v (shape_at v (next []) lookup made first was is) in
    none_left (asked x.0) (sym (second x.0) ∙ (ap (λ (y : Value). next (y ∷ [])) (sym x.1) ∙ over))
pair make lookup asked next (v ∷ w ∷ []) found first second then (made, was, is, (made2, was2, is2, more)) over =
    let x = found v (shape_at v (next []) lookup made first was is) in
    let at : next (v ∷ []) ≡ Some (asked x.0) = ap (λ (y : Value). next (y ∷ [])) x.1 ∙ second x.0 in
    record { x = x.0; v = w; are = ap (λ (y : Value). y ∷ w ∷ []) x.1; shaped = shape_at w (next (v ∷ [])) (asked x.0) made2 at was2 is2 }
pair make lookup asked next (v ∷ w ∷ u ∷ values) found first second then (made, was, is, (made2, was2, is2, (made3, follows, has, more))) over = none_asked made3 (sym (then v w) ∙ follows)

domain_pair : (name : List ℕ) (a : DomainRequest) (values : List Value) → Shaped (of_domain name (a ∷ [])) [] values → of_domain name (a ∷ []) values ≡ None
    → Pair value.Domain values (λ (d : DomainRef). request.OnDomain (domain_target d) a)
domain_pair name a values shaped over = pair value.Domain (request.DomainLookupByName name) (λ (d : DomainRef). request.OnDomain (domain_target d) a) (of_domain name (a ∷ [])) values is_domain refl (λ d. refl) (λ v w. refl) shaped over

network_pair : (name : List ℕ) (a : NetworkRequest) (values : List Value) → Shaped (of_network name (a ∷ [])) [] values → of_network name (a ∷ []) values ≡ None
    → Pair value.Network values (λ (n : NetworkRef). request.OnNetwork (network_target n) a)
network_pair name a values shaped over = pair value.Network (request.NetworkLookupByName name) (λ (n : NetworkRef). request.OnNetwork (network_target n) a) (of_network name (a ∷ [])) values is_network refl (λ n. refl) (λ v w. refl) shaped over

pool_pair : (name : List ℕ) (a : PoolRequest) (values : List Value) → Shaped (of_pool name (a ∷ [])) [] values → of_pool name (a ∷ []) values ≡ None
    → Pair value.Pool values (λ (p : PoolRef). request.OnPool (pool_target p) a)
pool_pair name a values shaped over = pair value.Pool (request.PoolLookup name) (λ (p : PoolRef). request.OnPool (pool_target p) a) (of_pool name (a ∷ [])) values is_pool refl (λ p. refl) (λ v w. refl) shaped over

-- ---- texts

-- the command prints something for these values
abbrev pub HasText : Command → Option Flag → List Value → Type 0
HasText c option values = (t : List ℕ) × Prints c option values [] t

at : (c : Command) (option : Option Flag) (values others : List Value) → values ≡ others → HasText c option others → HasText c option values
at c option values others are has = subst (λ (vs : List Value). HasText c option vs) (sym are) has

said : (t : List ℕ) → (u : List ℕ) × (u ≡ t)
said t = (t, refl)

-- by what was looked up, and by the answer that followed
with_one : {X Y : Type 0} (c : Command) (option : Option Flag) (make : X → Value) (values : List Value) (asked : X → Request) (p : Pair make values asked) (of : Y → Value)
    → (y : Y) × (p.v ≡ of y) → ((x : X) (y : Y) → HasText c option (make x ∷ of y ∷ [])) → HasText c option values
with_one c option make values asked p of found has = at c option values (make p.x ∷ of found.0 ∷ []) (p.are ∙ ap (λ (v : Value). make p.x ∷ v ∷ []) found.1) (has p.x found.0)

-- where nothing is answered
with_none : {X : Type 0} (c : Command) (option : Option Flag) (make : X → Value) (values : List Value) (asked : X → Request) (p : Pair make values asked)
    → HasShape p.v shape.Nothing → ((x : X) → HasText c option (make x ∷ value.Nothing ∷ [])) → HasText c option values
with_none c option make values asked p shaped has = at c option values (make p.x ∷ value.Nothing ∷ []) (p.are ∙ ap (λ (v : Value). make p.x ∷ v ∷ []) (is_nothing p.v shaped)) (has p.x)

-- dominfo, which asks two things of the domain
info_text_of : (name : List ℕ) (option : Option Flag) (values : List Value) → Shaped (of_domain name (ask.GetInfo ∷ ask.GetAutostart ∷ [])) [] values → of_domain name (ask.GetInfo ∷ ask.GetAutostart ∷ []) values ≡ None
    → HasText (command.Domain domain.Info name) option values
info_text_of name option [] s over = none_left (request.DomainLookupByName name) over
info_text_of name option (v ∷ []) (made, was, is, more) over =
    let d = is_domain v (shape_at v (Some (request.DomainLookupByName name)) (request.DomainLookupByName name) made refl was is) in
    none_left (request.OnDomain (domain_target d.0) ask.GetInfo) (subst (λ (y : Value). on_domain y (Some ask.GetInfo) ≡ None) d.1 over)
info_text_of name option (v ∷ w ∷ []) (made, was, is, more) over =
    let d = is_domain v (shape_at v (Some (request.DomainLookupByName name)) (request.DomainLookupByName name) made refl was is) in
    none_left (request.OnDomain (domain_target d.0) ask.GetAutostart) (subst (λ (y : Value). on_domain y (Some ask.GetAutostart) ≡ None) d.1 over)
info_text_of name option (v ∷ w ∷ u ∷ []) (made, was, is, (made2, was2, is2, (made3, was3, is3, more))) over =
    let d = is_domain v (shape_at v (Some (request.DomainLookupByName name)) (request.DomainLookupByName name) made refl was is) in
    let one : on_domain v (Some ask.GetInfo) ≡ Some (request.OnDomain (domain_target d.0) ask.GetInfo) = ap (λ (y : Value). on_domain y (Some ask.GetInfo)) d.1 in
    let other : on_domain v (Some ask.GetAutostart) ≡ Some (request.OnDomain (domain_target d.0) ask.GetAutostart) = ap (λ (y : Value). on_domain y (Some ask.GetAutostart)) d.1 in
    let i = is_info w (shape_at w (on_domain v (Some ask.GetInfo)) (request.OnDomain (domain_target d.0) ask.GetInfo) made2 one was2 is2) in
    let b = is_autostart u (shape_at u (on_domain v (Some ask.GetAutostart)) (request.OnDomain (domain_target d.0) ask.GetAutostart) made3 other was3 is3) in
    let are : v ∷ w ∷ u ∷ [] ≡ value.Domain d.0 ∷ value.Info i.0 ∷ value.Autostart b.0 ∷ [] = cc (d.1, i.1, b.1) in
    at (command.Domain domain.Info name) option (v ∷ w ∷ u ∷ []) (value.Domain d.0 ∷ value.Info i.0 ∷ value.Autostart b.0 ∷ []) are (said _)
info_text_of name option (v ∷ w ∷ u ∷ z ∷ values) (made, was, is, (made2, was2, is2, (made3, was3, is3, (made4, follows, has, more)))) over = none_asked made4 follows

domain_text : (verb : DomainVerb) (name : List ℕ) (option : Option Flag) (values : List Value) → Shaped (of_domain name (domain_asks verb option)) [] values → of_domain name (domain_asks verb option) values ≡ None
    → HasText (command.Domain verb name) option values
domain_text domain.Info name option values s o = info_text_of name option values s o
domain_text domain.State name option values s o = let p = domain_pair name (ask.GetInfo) values s o in with_one (command.Domain domain.State name) option value.Domain values _ p value.Info (is_info p.v p.shaped) (λ x y. said _)
domain_text domain.Start name option values s o = let p = domain_pair name (ask.Create) values s o in with_none (command.Domain domain.Start name) option value.Domain values _ p p.shaped (λ x. said _)
domain_text domain.Shutdown name option values s o = let p = domain_pair name (ask.Shutdown) values s o in with_none (command.Domain domain.Shutdown name) option value.Domain values _ p p.shaped (λ x. said _)
domain_text domain.Reboot name option values s o = let p = domain_pair name (ask.Reboot 0) values s o in with_none (command.Domain domain.Reboot name) option value.Domain values _ p p.shaped (λ x. said _)
domain_text domain.Suspend name option values s o = let p = domain_pair name (ask.Suspend) values s o in with_none (command.Domain domain.Suspend name) option value.Domain values _ p p.shaped (λ x. said _)
domain_text domain.Resume name option values s o = let p = domain_pair name (ask.Resume) values s o in with_none (command.Domain domain.Resume name) option value.Domain values _ p p.shaped (λ x. said _)
domain_text domain.Destroy name option values s o = let p = domain_pair name (ask.Destroy) values s o in with_none (command.Domain domain.Destroy name) option value.Domain values _ p p.shaped (λ x. said _)
domain_text domain.Undefine name option values s o = let p = domain_pair name (ask.Undefine) values s o in with_none (command.Domain domain.Undefine name) option value.Domain values _ p p.shaped (λ x. said _)
domain_text domain.Autostart name option values s o = let p = domain_pair name (ask.SetAutostart (autostart_number option)) values s o in with_none (command.Domain domain.Autostart name) option value.Domain values _ p p.shaped (λ x. said _)
domain_text domain.DumpXml name option values s o = let p = domain_pair name (ask.GetXmlDesc (stored_bit option)) values s o in with_one (command.Domain domain.DumpXml name) option value.Domain values _ p value.Text (is_text p.v p.shaped) (λ x y. said _)
domain_text domain.JobInfo name option values s o = let p = domain_pair name (ask.JobInfo) values s o in with_one (command.Domain domain.JobInfo name) option value.Domain values _ p value.Job (is_job p.v p.shaped) (λ x y. said _)
domain_text domain.JobAbort name option values s o = let p = domain_pair name (ask.JobAbort) values s o in with_none (command.Domain domain.JobAbort name) option value.Domain values _ p p.shaped (λ x. said _)
domain_text domain.MemStat name option values s o = let p = domain_pair name (ask.MemoryStats) values s o in with_one (command.Domain domain.MemStat name) option value.Domain values _ p value.Memory (is_memory p.v p.shaped) (λ x y. said _)
domain_text domain.SnapshotList name option values s o = let p = domain_pair name (ask.SnapList) values s o in with_one (command.Domain domain.SnapshotList name) option value.Domain values _ p value.Names (are_names p.v p.shaped) (λ x y. said _)

number_text : (verb : NumberVerb) (name : List ℕ) (n : ℕ) (option : Option Flag) (values : List Value) → Shaped (of_domain name (number_ask verb n ∷ [])) [] values → of_domain name (number_ask verb n ∷ []) values ≡ None
    → HasText (command.Number verb name n) option values
number_text number.SetVcpus name n option values s o = let p = domain_pair name (number_ask number.SetVcpus n) values s o in with_none (command.Number number.SetVcpus name n) option value.Domain values _ p p.shaped (λ x. said _)
number_text number.Kick name n option values s o = let p = domain_pair name (number_ask number.Kick n) values s o in with_none (command.Number number.Kick name n) option value.Domain values _ p p.shaped (λ x. said _)
number_text number.Event name n option values s o = let p = domain_pair name (number_ask number.Event n) values s o in with_none (command.Number number.Event name n) option value.Domain values _ p p.shaped (λ x. said _)

memory_text_of : (name : List ℕ) (n : ℕ) (option : Option Flag) (values : List Value) → Shaped (of_domain name (ask.SetMemory n ∷ [])) [] values → of_domain name (ask.SetMemory n ∷ []) values ≡ None
    → HasText (command.SetMem name n) option values
memory_text_of name n option values s o = let p = domain_pair name (ask.SetMemory n) values s o in with_none (command.SetMem name n) option value.Domain values _ p p.shaped (λ x. said _)

file_done : (verb : DomainFileVerb) (name path xml : List ℕ) (option : Option Flag) (values : List Value) → Shaped (of_domain name (text_ask verb xml ∷ [])) [] values → of_domain name (text_ask verb xml ∷ []) values ≡ None
    → HasText (command.DomainFile verb name path) option values
file_done text.AttachDevice name path xml option values s o = let p = domain_pair name (text_ask text.AttachDevice xml) values s o in with_none (command.DomainFile text.AttachDevice name path) option value.Domain values _ p p.shaped (λ x. said _)
file_done text.DetachDevice name path xml option values s o = let p = domain_pair name (text_ask text.DetachDevice xml) values s o in with_none (command.DomainFile text.DetachDevice name path) option value.Domain values _ p p.shaped (λ x. said _)
file_done text.SnapshotCreate name path xml option values s o = let p = domain_pair name (text_ask text.SnapshotCreate xml) values s o in with_one (command.DomainFile text.SnapshotCreate name path) option value.Domain values _ p value.Name (is_name p.v p.shaped) (λ x y. said _)

image_text_of : (verb : ImageVerb) (name im : List ℕ) (option : Option Flag) (values : List Value) → Shaped (of_domain name (image_ask verb im ∷ [])) [] values → of_domain name (image_ask verb im ∷ []) values ≡ None
    → HasText (command.Image verb name im) option values
image_text_of image.Save name im option values s o = let p = domain_pair name (image_ask image.Save im) values s o in with_none (command.Image image.Save name im) option value.Domain values _ p p.shaped (λ x. (_, record { jobs = []; values_are = refl; text_is = refl }))
image_text_of image.Dump name im option values s o = let p = domain_pair name (image_ask image.Dump im) values s o in with_none (command.Image image.Dump name im) option value.Domain values _ p p.shaped (λ x. (_, record { jobs = []; values_are = refl; text_is = refl }))

snapshot_text_of : (verb : SnapshotVerb) (name sn : List ℕ) (option : Option Flag) (values : List Value) → Shaped (of_domain name (snapshot_ask verb option sn ∷ [])) [] values → of_domain name (snapshot_ask verb option sn ∷ []) values ≡ None
    → HasText (command.Snapshot verb name sn) option values
snapshot_text_of snapshot.Parent name sn option values s o = let p = domain_pair name (snapshot_ask snapshot.Parent option sn) values s o in with_one (command.Snapshot snapshot.Parent name sn) option value.Domain values _ p value.Parent (is_parent p.v p.shaped) (λ x y. said _)
snapshot_text_of snapshot.DumpXml name sn option values s o = let p = domain_pair name (snapshot_ask snapshot.DumpXml option sn) values s o in with_one (command.Snapshot snapshot.DumpXml name sn) option value.Domain values _ p value.Text (is_text p.v p.shaped) (λ x y. said _)
snapshot_text_of snapshot.Delete name sn option values s o = let p = domain_pair name (snapshot_ask snapshot.Delete option sn) values s o in with_none (command.Snapshot snapshot.Delete name sn) option value.Domain values _ p p.shaped (λ x. said _)
snapshot_text_of snapshot.Revert name sn option values s o = let p = domain_pair name (snapshot_ask snapshot.Revert option sn) values s o in with_none (command.Snapshot snapshot.Revert name sn) option value.Domain values _ p p.shaped (λ x. said _)

network_text_of : (verb : NetworkVerb) (name : List ℕ) (option : Option Flag) (values : List Value) → Shaped (of_network name (network_ask verb ∷ [])) [] values → of_network name (network_ask verb ∷ []) values ≡ None
    → HasText (command.Network verb name) option values
network_text_of network.Start name option values s o = let p = network_pair name (network_ask network.Start) values s o in with_none (command.Network network.Start name) option value.Network values _ p p.shaped (λ x. said _)
network_text_of network.Destroy name option values s o = let p = network_pair name (network_ask network.Destroy) values s o in with_none (command.Network network.Destroy name) option value.Network values _ p p.shaped (λ x. said _)
network_text_of network.Undefine name option values s o = let p = network_pair name (network_ask network.Undefine) values s o in with_none (command.Network network.Undefine name) option value.Network values _ p p.shaped (λ x. said _)
network_text_of network.Autostart name option values s o = let p = network_pair name (network_ask network.Autostart) values s o in with_none (command.Network network.Autostart name) option value.Network values _ p p.shaped (λ x. said _)
network_text_of network.DumpXml name option values s o = let p = network_pair name (network_ask network.DumpXml) values s o in with_one (command.Network network.DumpXml name) option value.Network values _ p value.Text (is_text p.v p.shaped) (λ x y. said _)
network_text_of network.Leases name option values s o = let p = network_pair name (network_ask network.Leases) values s o in with_one (command.Network network.Leases name) option value.Network values _ p value.Leases (are_leases p.v p.shaped) (λ x y. said _)

pool_text_of : (verb : PoolVerb) (name : List ℕ) (option : Option Flag) (values : List Value) → Shaped (of_pool name (pool_ask verb ∷ [])) [] values → of_pool name (pool_ask verb ∷ []) values ≡ None
    → HasText (command.Pool verb name) option values
pool_text_of pool.Start name option values s o = let p = pool_pair name (pool_ask pool.Start) values s o in with_none (command.Pool pool.Start name) option value.Pool values _ p p.shaped (λ x. said _)
pool_text_of pool.Destroy name option values s o = let p = pool_pair name (pool_ask pool.Destroy) values s o in with_none (command.Pool pool.Destroy name) option value.Pool values _ p p.shaped (λ x. said _)
pool_text_of pool.Undefine name option values s o = let p = pool_pair name (pool_ask pool.Undefine) values s o in with_none (command.Pool pool.Undefine name) option value.Pool values _ p p.shaped (λ x. said _)
pool_text_of pool.Autostart name option values s o = let p = pool_pair name (pool_ask pool.Autostart) values s o in with_none (command.Pool pool.Autostart name) option value.Pool values _ p p.shaped (λ x. said _)
pool_text_of pool.DumpXml name option values s o = let p = pool_pair name (pool_ask pool.DumpXml) values s o in with_one (command.Pool pool.DumpXml name) option value.Pool values _ p value.Text (is_text p.v p.shaped) (λ x y. said _)
pool_text_of pool.VolList name option values s o = let p = pool_pair name (pool_ask pool.VolList) values s o in with_one (command.Pool pool.VolList name) option value.Pool values _ p value.Names (are_names p.v p.shaped) (λ x y. said _)

made_text_of : (name path xml : List ℕ) (option : Option Flag) (values : List Value) → Shaped (of_pool name (ask_pool.VolCreate xml ∷ [])) [] values → of_pool name (ask_pool.VolCreate xml ∷ []) values ≡ None
    → HasText (command.VolCreate name path) option values
made_text_of name path xml option values s o = let p = pool_pair name (ask_pool.VolCreate xml) values s o in with_one (command.VolCreate name path) option value.Pool values _ p value.Name (is_name p.v p.shaped) (λ x y. said _)

volume_text_of : (verb : VolumeVerb) (name vol : List ℕ) (option : Option Flag) (values : List Value) → Shaped (of_pool name (volume_ask verb vol ∷ [])) [] values → of_pool name (volume_ask verb vol ∷ []) values ≡ None
    → HasText (command.Volume verb name vol) option values
volume_text_of volume.Delete name vol option values s o = let p = pool_pair name (volume_ask volume.Delete vol) values s o in with_none (command.Volume volume.Delete name vol) option value.Pool values _ p p.shaped (λ x. said _)
volume_text_of volume.DumpXml name vol option values s o = let p = pool_pair name (volume_ask volume.DumpXml vol) values s o in with_one (command.Volume volume.DumpXml name vol) option value.Pool values _ p value.Text (is_text p.v p.shaped) (λ x y. said _)

file_text_of : (verb : FileVerb) (path xml : List ℕ) (option : Option Flag) (values : List Value) → Shaped (λ vs. next_request (command.File verb path) option xml vs) [] values → next_request (command.File verb path) option xml values ≡ None
    → HasText (command.File verb path) option values
file_text_of file.Define path xml option values s o =
    let p = single (request.DomainDefineXml xml) (λ vs. next_request (command.File file.Define path) option xml vs) values refl (λ v w more. refl) s o in
    let x = is_domain p.v p.shaped in
    at (command.File file.Define path) option values (value.Domain x.0 ∷ []) (p.are ∙ ap (λ (v : Value). v ∷ []) x.1) (said _)
file_text_of file.Create path xml option values s o =
    let p = single (request.DomainCreateXml xml (pos 0)) (λ vs. next_request (command.File file.Create path) option xml vs) values refl (λ v w more. refl) s o in
    let x = is_domain p.v p.shaped in
    at (command.File file.Create path) option values (value.Domain x.0 ∷ []) (p.are ∙ ap (λ (v : Value). v ∷ []) x.1) (said _)
file_text_of file.NetDefine path xml option values s o =
    let p = single (request.NetworkDefineXml xml) (λ vs. next_request (command.File file.NetDefine path) option xml vs) values refl (λ v w more. refl) s o in
    let x = is_network p.v p.shaped in
    at (command.File file.NetDefine path) option values (value.Network x.0 ∷ []) (p.are ∙ ap (λ (v : Value). v ∷ []) x.1) (said _)
file_text_of file.PoolDefine path xml option values s o =
    let p = single (request.PoolDefine xml) (λ vs. next_request (command.File file.PoolDefine path) option xml vs) values refl (λ v w more. refl) s o in
    let x = is_pool p.v p.shaped in
    at (command.File file.PoolDefine path) option values (value.Pool x.0 ∷ []) (p.are ∙ ap (λ (v : Value). v ∷ []) x.1) (said _)

restored_text_of : (im xml : List ℕ) (option : Option Flag) (values : List Value) → Shaped (λ vs. next_request (command.Restore im) option xml vs) [] values → next_request (command.Restore im) option xml values ≡ None
    → HasText (command.Restore im) option values
restored_text_of im xml option values s o =
    let p = single (request.DomainRestore im) (λ vs. next_request (command.Restore im) option xml vs) values refl (λ v w more. refl) s o in
    at (command.Restore im) option values (value.Nothing ∷ []) (p.are ∙ ap (λ (v : Value). v ∷ []) (is_nothing p.v p.shaped)) (said _)

table_of : (option : Option Flag) (rows : List DomainRow) → HasText (command.Plain plain.List) option (value.Domains rows ∷ [])
table_of option rows = let o = have_order (shown (is_some option) rows) in (_, record { ordered = o.ordered; same = o.same; rising = o.rising; text_is = refl })

plain_text_of : (verb : PlainVerb) (xml : List ℕ) (option : Option Flag) (values : List Value) → Shaped (λ vs. next_request (command.Plain verb) option xml vs) [] values → next_request (command.Plain verb) option xml values ≡ None
    → HasText (command.Plain verb) option values
plain_text_of plain.List xml option values s o =
    let p = single request.ListAll (λ vs. next_request (command.Plain plain.List) option xml vs) values refl (λ v w more. refl) s o in
    let x = are_domains p.v p.shaped in
    at (command.Plain plain.List) option values (value.Domains x.0 ∷ []) (p.are ∙ ap (λ (v : Value). v ∷ []) x.1) (table_of option x.0)
plain_text_of plain.PoolList xml option values s o =
    let p = single request.PoolList (λ vs. next_request (command.Plain plain.PoolList) option xml vs) values refl (λ v w more. refl) s o in
    let x = are_pools p.v p.shaped in
    at (command.Plain plain.PoolList) option values (value.Pools x.0 ∷ []) (p.are ∙ ap (λ (v : Value). v ∷ []) x.1) (said _)
plain_text_of plain.NetList xml option values s o =
    let p = double (request.ListNetworks (pos 1024)) (request.ListDefinedNetworks (pos 1024)) (λ vs. next_request (command.Plain plain.NetList) option xml vs) values refl (λ v. refl) (λ v w. refl) s o in
    let x = are_names p.v p.shaped in
    let y = are_names p.w p.after in
    let are : values ≡ value.Names x.0 ∷ value.Names y.0 ∷ [] = cc (p.are, x.1, y.1) in
    at (command.Plain plain.NetList) option values (value.Names x.0 ∷ value.Names y.0 ∷ []) are (said _)

texts : (c : Command) (option : Option Flag) (xml : List ℕ) (values : List Value) → IsServedCommand c → Shaped (λ vs. next_request c option xml vs) [] values → next_request c option xml values ≡ None → HasText c option values
texts (command.Plain verb) option xml values served s o = plain_text_of verb xml option values s o
texts (command.File verb path) option xml values served s o = file_text_of verb path xml option values s o
texts (command.Restore im) option xml values served s o = restored_text_of im xml option values s o
texts (command.Domain verb name) option xml values served s o = domain_text verb name option values s o
texts (command.Number verb name n) option xml values served s o = number_text verb name n option values s o
texts (command.SetMem name n) option xml values served s o = memory_text_of name n option values s o
texts (command.DomainFile verb name path) option xml values served s o = file_done verb name path xml option values s o
texts (command.Image verb name im) option xml values served s o = image_text_of verb name im option values s o
texts (command.Snapshot verb name sn) option xml values served s o = snapshot_text_of verb name sn option values s o
texts (command.Network verb name) option xml values served s o = network_text_of verb name option values s o
texts (command.Pool verb name) option xml values served s o = pool_text_of verb name option values s o
texts (command.VolCreate name path) option xml values served s o = made_text_of name path xml option values s o
texts (command.Volume verb name vol) option xml values served s o = volume_text_of verb name vol option values s o
texts (command.Events count listens) option xml values served s o = absurd served

module _ {S K : Type 0} (left : S → Option (List ℕ)) (source_faults : S → ℕ) (held : K → Option (List ℕ)) (sink_faults : K → ℕ) where
  pub printable : (job : Job) (xml : List ℕ) (old new : Connection S K) (values : List Value) → IsServedCommand job.command → IsAsked left source_faults held sink_faults job xml old values new → IsPrintable job values
  printable job xml old new values served asked = texts job.command job.option xml values served (shaped_all left source_faults held sink_faults job xml [] old values new asked.answered) asked.all
