-- The parts of what replies carry are read where they are spelled, and what is read is spelled so.
use Rattle.std.proofs.Common.{◌≡◌, ◌==◌, ℕ, ◌+◌, ◌≤◌, ◌<◌, ◌^◌, Bool, true, false, cond, List, ◌++◌, length, Option, None, Some, Result, Ok, refl, sym, ap, subst, ◌∙◌, append_assoc, arith, lit<}
use Rattle.std.specs.Prelude.{IfSome}
use Rattle.std.proofs.lemmas.Bool.{eqb-true}
use Rattle.std.proofs.lemmas.List.{length-append}
use Rattle.virt_types.specs.Limits.{most_state_bytes}
use Rattle.virt_types.specs.Mac.{mac_text}
use Rattle.virt_types.specs.Name.{IsName}
use Rattle.virt_types.specs.declared.operation.OpKind.{OpKind}
use Rattle.virt_types.specs.declared.operation.Phase.{Phase}
use Rattle.virt_types.specs.declared.reference.DomainRef.{DomainRef}
use Rattle.virt_types.specs.declared.reference.NetworkRef.{NetworkRef}
use Rattle.virt_types.specs.declared.reference.PoolRef.{PoolRef}
use Rattle.virt_types.specs.declared.run_state.DomainState.{DomainState}
use Rattle.virt_types.specs.declared.value.DomainInfo.{DomainInfo}
use Rattle.virt_types.specs.declared.value.DomainRow.{DomainRow}
use Rattle.virt_types.specs.declared.value.JobInfo.{JobInfo}
use Rattle.virt_types.specs.declared.value.LeaseRow.{LeaseRow}
use Rattle.virt_types.specs.declared.value.MigratedText.{MigratedText}
use Rattle.virt_types.specs.declared.value.PoolRow.{PoolRow}
use Rattle.virt_types.specs.declared.value.TitleRow.{TitleRow}
use Rattle.wire_spec.specs.Xdr.{IsDoubleWord, IsInteger, IsString, IsTruth, IsWord, double_word, fixed, integer, opaque, optional, truth, word}
use Rattle.wire_spec.specs.XdrAnswer.{Takes}
use Rattle.wire_spec.specs.XdrReading.{IsBytes, Left, first_double_word, first_fixed, first_integer, first_opaque, first_string, first_truth, first_word}
use Rattle.wire_spec.proofs.Items.{IsItem-double_word, IsItem-word, taken}
use Rattle.wire_spec.proofs.Seen.{IsItem-integer, IsItem-truth}
use Rattle.wire_spec.proofs.Steps.{Takes-then}
use Rattle.wire_spec.proofs.Strings.{IsItem-fixed, IsItem-opaque, IsItem-string}
use Rattle.text_laws.specs.Given.{IsMac}
use Rattle.procedure_spec.specs.LeaseText.{address_text, address_written, mac_written}
use Rattle.procedure_spec.specs.Numbered.{job_numbered, phase_numbered, state_numbered}
use Rattle.procedure_spec.specs.Reading.{◌>>=◌, item}
use Rattle.procedure_spec.specs.ResultItems.{IsDomainRow, IsInfo, IsJob, IsLeaseRow, IsMigrated, IsObjectReference, IsPoolRow, IsReference, IsTitleRow, domain_reference, domain_row, info, job, kind_item, lease_row, migrated, object_reference, phase_item, pool_row, state_item, title_row}
use Rattle.procedure_spec.specs.ResultItemsReading.{first_domain_row, first_info, first_job, first_kind, first_lease_row, first_migrated, first_object, first_name, first_optional_name, first_phase, first_pool_row, first_reference, first_state, first_time, first_title_row, first_written, meant, name_behind, no_time}
use Rattle.procedure_spec.specs.declared.fault.ArgFault.{ArgFault}
use Rattle.procedure_spec.proofs.LeaseTexts.{address_again, address_found, address_string, mac_again, mac_found, mac_string}
use Rattle.procedure_spec.proofs.NameParts.{IsPart-name}
use Rattle.procedure_spec.proofs.NumberedProofs.{operation_again, operation_found, operation_small, phase_again, phase_found, phase_small, state_again, state_found, state_small}
use Rattle.procedure_spec.proofs.Parts.{IsPart, IsPart-item, bind_ok, ok_is}
use Rattle.procedure_spec.proofs.Targets.{IsItem-name}
use Rattle.procedure_spec.specs.declared.words.TheConstants.{PACKET_BOUND, TITLE_BOUND}

-- ---- items

pub part_fixed : IsPart (λ u. length u ≡ 16) fixed (item (first_fixed 16))
part_fixed = IsPart-item (λ u. length u ≡ 16) fixed (first_fixed 16) (IsItem-fixed 16)

part_integer : IsPart IsInteger integer (item first_integer)
part_integer = IsPart-item IsInteger integer first_integer IsItem-integer

pub part_word : IsPart IsWord word (item first_word)
part_word = IsPart-item IsWord word first_word IsItem-word

pub part_double_word : IsPart IsDoubleWord double_word (item first_double_word)
part_double_word = IsPart-item IsDoubleWord double_word first_double_word IsItem-double_word

pub part_truth : IsPart IsTruth truth (item first_truth)
part_truth = IsPart-item IsTruth truth first_truth IsItem-truth

pub part_text : IsPart (IsString PACKET_BOUND) opaque (item (first_string PACKET_BOUND))
part_text = IsPart-item (IsString PACKET_BOUND) opaque (first_string PACKET_BOUND) IsItem-name

part_title : IsPart (IsString TITLE_BOUND) opaque (item (first_string TITLE_BOUND))
part_title = IsPart-item (IsString TITLE_BOUND) opaque (first_string TITLE_BOUND) (IsItem-string TITLE_BOUND (lit< tt))

part_saved : IsPart (λ v. length v ≤ most_state_bytes) opaque (item (first_opaque most_state_bytes))
part_saved = IsPart-item (λ v. length v ≤ most_state_bytes) opaque (first_opaque most_state_bytes) (IsItem-opaque most_state_bytes (lit< tt))

-- ---- items that stand for something

meant_ok : {A : Type 0} (place : ℕ) (o : Option A) (l : Left) (x : A × Left) → meant place o l ≡ Ok x → (o ≡ Some x.0) × (l ≡ x.1)
meant_ok place None l x e = absurd cc
meant_ok place (Some a) l x e = let same = ok_is (a, l) x e in (ap (λ (y : _). Some y.0) same, ap (λ (y : _). y.1) same)

-- what a word stands for
pub record IsMeant {A N : Type 0} (IsNumber : N → Type 0) (code : A → N) (see : N → Option A) : Type 0 where
  pub small : (a : A) → IsNumber (code a)
  pub found : (n : N) (a : A) → see n ≡ Some a → code a ≡ n
  pub again : (a : A) → see (code a) ≡ Some a

pub IsPart-meant : {A N : Type 0} (IsNumber : N → Type 0) (spelled : N → List ℕ) (first : Left → Result (N × Left) ArgFault) (code : A → N) (see : N → Option A) → IsPart IsNumber spelled first → IsMeant IsNumber code see → IsPart (λ (a : A). Unit {0}) (λ a. spelled (code a)) (λ l. first l >>= λ n. meant l.place (see n.0) n.1)
IsPart-meant {A = A} {N = N} IsNumber spelled first code see part is = record {
  found = λ l x fits e.
      let m = bind_ok (first l) (λ n. meant l.place (see n.0) n.1) x e in
      let f = part.found l m.0 fits m.1 in
      let s = meant_ok l.place (see m.0.0) m.0.1 x m.2 in
      (tt, subst (λ (y : Left). Takes l (spelled (code x.0)) y) s.1 (subst (λ (n : N). Takes l (spelled n) m.0.1) (sym (is.found m.0.0 x.0 s.0)) f.1), subst (λ (y : Left). IsBytes y.bytes) s.1 f.2);
  again = λ l a rest value e. rw (part.again l (code a) rest (is.small a) e, is.again a) refl;
}

part_state : IsPart (λ (s : DomainState). Unit {0}) state_item first_state
unfolding first_state
part_state = IsPart-meant IsWord word (item first_word) _ state_numbered part_word (record { small = state_small; found = state_found; again = state_again })

part_kind : IsPart (λ (k : Option OpKind). Unit {0}) kind_item first_kind
unfolding first_kind
part_kind = IsPart-meant IsWord word (item first_word) _ job_numbered part_word (record { small = operation_small; found = operation_found; again = operation_again })

part_phase : IsPart (λ (p : Phase). Unit {0}) phase_item first_phase
unfolding first_phase
part_phase = IsPart-meant IsWord word (item first_word) _ phase_numbered part_word (record { small = phase_small; found = phase_found; again = phase_again })

time_found : (b : Bool) (n : ℕ) (u : Unit {0}) → (n == 0) ≡ b → (let o : Option (Unit {0}) = cond b (Some tt) None in o ≡ Some u) → 0 ≡ n
time_found true n u t e = sym (eqb-true n 0 t)
time_found false n u t e = absurd cc

part_time : IsPart (λ (u : Unit {0}). Unit {0}) (λ u. double_word 0) first_time
unfolding first_time
part_time = IsPart-meant IsDoubleWord double_word (item first_double_word) (λ (u : Unit {0}). 0) no_time part_double_word (record { small = λ u. lit< tt; found = λ n u e. time_found (n == 0) n u refl e; again = λ u. refl })

-- ---- items one after the other

parts_2 : (a b rest : List ℕ) → (a ++ b) ++ rest ≡ a ++ (b ++ rest)
parts_2 a b rest = simp append_assoc

after_2 : (a b : List ℕ) (place : ℕ) → place + length a + length b ≡ place + length (a ++ b)
after_2 a b place = omega (arith, length-append (a) b)

pub parts_3 : (a b c rest : List ℕ) → ((a ++ b) ++ c) ++ rest ≡ a ++ (b ++ (c ++ rest))
parts_3 a b c rest = simp append_assoc

pub after_3 : (a b c : List ℕ) (place : ℕ) → place + length a + length b + length c ≡ place + length (a ++ b ++ c)
after_3 a b c place = omega (arith, length-append (a) b, length-append (a ++ b) c)

pub parts_5 : (a b c d e rest : List ℕ) → ((((a ++ b) ++ c) ++ d) ++ e) ++ rest ≡ a ++ (b ++ (c ++ (d ++ (e ++ rest))))
parts_5 a b c d e rest = simp append_assoc

pub after_5 : (a b c d e : List ℕ) (place : ℕ) → place + length a + length b + length c + length d + length e ≡ place + length (a ++ b ++ c ++ d ++ e)
after_5 a b c d e place = omega (arith, length-append (a) b, length-append (a ++ b) c, length-append (a ++ b ++ c) d, length-append (a ++ b ++ c ++ d) e)

-- ---- a name that may be absent

behind_found : (l r : Left) (there : Bool) (x : Option (List ℕ) × Left) → IsBytes r.bytes → Takes l (truth there) r → name_behind there r ≡ Ok x → IfSome x.0 IsName × Takes l (optional opaque x.0) x.1 × IsBytes x.1.bytes
behind_found l r true x fits flag e =
    let a = bind_ok (first_name r) (λ v. Ok (Some v.0, v.1)) x e in
    let f = IsPart-name.found r a.0 fits a.1 in
    let made : IsName a.0.0 × Takes l (word 1 ++ opaque a.0.0) a.0.1 × IsBytes a.0.1.bytes = (f.0, Takes-then l r a.0.1 (word 1) (opaque a.0.0) flag f.1, f.2) in
    subst (λ (y : Option (List ℕ) × Left). IfSome y.0 IsName × Takes l (optional opaque y.0) y.1 × IsBytes y.1.bytes) (ok_is (Some a.0.0, a.0.1) x a.2) made
behind_found l r false x fits flag e =
    subst (λ (y : Option (List ℕ) × Left). IfSome y.0 IsName × Takes l (optional opaque y.0) y.1 × IsBytes y.1.bytes) (ok_is (None, r) x e) (tt, flag, fits)

optional_found : (l : Left) (x : Option (List ℕ) × Left) → IsBytes l.bytes → first_optional_name l ≡ Ok x → IfSome x.0 IsName × Takes l (optional opaque x.0) x.1 × IsBytes x.1.bytes
unfolding first_optional_name
optional_found l x fits e =
    let a = bind_ok (item first_truth l) (λ t. name_behind t.0 t.1) x e in
    let t = part_truth.found l a.0 fits a.1 in
    behind_found l a.0.1 a.0.0 x t.2 t.1 a.2

optional_again : (l : Left) (v : Option (List ℕ)) (rest : List ℕ) → IfSome v IsName → l.bytes ≡ optional opaque v ++ rest → first_optional_name l ≡ Ok (taken l v (optional opaque v) rest)
unfolding first_optional_name
optional_again l None rest value e = rw (part_truth.again l false rest tt e) refl
optional_again l (Some v) rest value e =
    let flag = part_truth.again l true (opaque v ++ rest) tt (e ∙ append_assoc (word 1) (opaque v) rest) in
    let second = IsPart-name.again (taken l true (word 1) (opaque v ++ rest)).1 v rest value refl in
    rw (flag, second, after_2 (word 1) (opaque v) l.place) refl

pub IsPart-optional_name : IsPart (λ n. IfSome n IsName) (optional opaque) first_optional_name
IsPart-optional_name = record { found = optional_found; again = optional_again }

-- ---- records of items

reference_found : (l : Left) (x : DomainRef × Left) → IsBytes l.bytes → first_reference l ≡ Ok x → IsReference x.0 × Takes l (domain_reference x.0) x.1 × IsBytes x.1.bytes
unfolding first_reference
reference_found l x fits e =
    let e1 = bind_ok (first_name l) (λ name. item (first_fixed 16) name.1 >>= λ uuid. item first_integer uuid.1 >>= λ id. Ok (record { name = name.0; uuid = uuid.0; id = id.0 }, id.1)) x e in
    let e2 = bind_ok (item (first_fixed 16) e1.0.1) (λ uuid. item first_integer uuid.1 >>= λ id. Ok (record { name = e1.0.0; uuid = uuid.0; id = id.0 }, id.1)) x e1.2 in
    let e3 = bind_ok (item first_integer e2.0.1) (λ id. Ok (record { name = e1.0.0; uuid = e2.0.0; id = id.0 }, id.1)) x e2.2 in
    let f1 = IsPart-name.found l e1.0 fits e1.1 in
    let f2 = part_fixed.found e1.0.1 e2.0 f1.2 e2.1 in
    let f3 = part_integer.found e2.0.1 e3.0 f2.2 e3.1 in
    let d : DomainRef = record { name = e1.0.0; uuid = e2.0.0; id = e3.0.0 } in
    let t2 : Takes l (opaque e1.0.0 ++ fixed e2.0.0) e2.0.1 = Takes-then l e1.0.1 e2.0.1 (opaque e1.0.0) (fixed e2.0.0) f1.1 f2.1 in
    let t3 : Takes l (opaque e1.0.0 ++ fixed e2.0.0 ++ integer e3.0.0) e3.0.1 = Takes-then l e2.0.1 e3.0.1 (opaque e1.0.0 ++ fixed e2.0.0) (integer e3.0.0) t2 f3.1 in
    let here : IsReference d × Takes l (domain_reference d) e3.0.1 × IsBytes e3.0.1.bytes = (record { name = f1.0; uuid = f2.0; id = f3.0 }, t3, f3.2) in
    subst (λ (y : DomainRef × Left). IsReference y.0 × Takes l (domain_reference y.0) y.1 × IsBytes y.1.bytes) (ok_is (d, e3.0.1) x e3.2) here

reference_again : (l : Left) (d : DomainRef) (rest : List ℕ) → IsReference d → l.bytes ≡ domain_reference d ++ rest → first_reference l ≡ Ok (taken l d (domain_reference d) rest)
unfolding first_reference
reference_again l d rest is e =
    let r1 = IsPart-name.again l d.name ((fixed d.uuid) ++ ((integer d.id) ++ rest)) is.name (e ∙ parts_3 (opaque d.name) (fixed d.uuid) (integer d.id) rest) in
    let r2 = part_fixed.again (taken l d.name (opaque d.name) ((fixed d.uuid) ++ ((integer d.id) ++ rest))).1 d.uuid ((integer d.id) ++ rest) is.uuid refl in
    let r3 = part_integer.again (taken (taken l d.name (opaque d.name) ((fixed d.uuid) ++ ((integer d.id) ++ rest))).1 d.uuid (fixed d.uuid) ((integer d.id) ++ rest)).1 d.id rest is.id refl in
    rw (r1, r2, r3, after_3 (opaque d.name) (fixed d.uuid) (integer d.id) l.place) refl

pub IsPart-reference : IsPart IsReference domain_reference first_reference
IsPart-reference = record { found = reference_found; again = reference_again }

network_found : (l : Left) (x : NetworkRef × Left) → IsBytes l.bytes → (first_object (λ n u. record { name = n; uuid = u })) l ≡ Ok x → (λ (n : NetworkRef). IsObjectReference n.name n.uuid) x.0 × Takes l ((λ (n : NetworkRef). object_reference n.name n.uuid) x.0) x.1 × IsBytes x.1.bytes
unfolding first_object
network_found l x fits e =
    let e1 = bind_ok (first_name l) (λ name. item (first_fixed 16) name.1 >>= λ uuid. Ok (record { name = name.0; uuid = uuid.0 }, uuid.1)) x e in
    let e2 = bind_ok (item (first_fixed 16) e1.0.1) (λ uuid. Ok (record { name = e1.0.0; uuid = uuid.0 }, uuid.1)) x e1.2 in
    let f1 = IsPart-name.found l e1.0 fits e1.1 in
    let f2 = part_fixed.found e1.0.1 e2.0 f1.2 e2.1 in
    let d : NetworkRef = record { name = e1.0.0; uuid = e2.0.0 } in
    let t2 : Takes l (opaque e1.0.0 ++ fixed e2.0.0) e2.0.1 = Takes-then l e1.0.1 e2.0.1 (opaque e1.0.0) (fixed e2.0.0) f1.1 f2.1 in
    let here : (λ (n : NetworkRef). IsObjectReference n.name n.uuid) d × Takes l ((λ (n : NetworkRef). object_reference n.name n.uuid) d) e2.0.1 × IsBytes e2.0.1.bytes = (record { name = f1.0; uuid = f2.0 }, t2, f2.2) in
    subst (λ (y : NetworkRef × Left). (λ (n : NetworkRef). IsObjectReference n.name n.uuid) y.0 × Takes l ((λ (n : NetworkRef). object_reference n.name n.uuid) y.0) y.1 × IsBytes y.1.bytes) (ok_is (d, e2.0.1) x e2.2) here

network_again : (l : Left) (d : NetworkRef) (rest : List ℕ) → (λ (n : NetworkRef). IsObjectReference n.name n.uuid) d → l.bytes ≡ (λ (n : NetworkRef). object_reference n.name n.uuid) d ++ rest → (first_object (λ n u. record { name = n; uuid = u })) l ≡ Ok (taken l d ((λ (n : NetworkRef). object_reference n.name n.uuid) d) rest)
unfolding first_object
network_again l d rest is e =
    let r1 = IsPart-name.again l d.name ((fixed d.uuid) ++ rest) is.name (e ∙ parts_2 (opaque d.name) (fixed d.uuid) rest) in
    let r2 = part_fixed.again (taken l d.name (opaque d.name) ((fixed d.uuid) ++ rest)).1 d.uuid rest is.uuid refl in
    rw (r1, r2, after_2 (opaque d.name) (fixed d.uuid) l.place) refl

pub IsPart-network : IsPart (λ (n : NetworkRef). IsObjectReference n.name n.uuid) (λ (n : NetworkRef). object_reference n.name n.uuid) (first_object (λ n u. record { name = n; uuid = u }))
IsPart-network = record { found = network_found; again = network_again }

pool_found : (l : Left) (x : PoolRef × Left) → IsBytes l.bytes → (first_object (λ n u. record { name = n; uuid = u })) l ≡ Ok x → (λ (n : PoolRef). IsObjectReference n.name n.uuid) x.0 × Takes l ((λ (n : PoolRef). object_reference n.name n.uuid) x.0) x.1 × IsBytes x.1.bytes
unfolding first_object
pool_found l x fits e =
    let e1 = bind_ok (first_name l) (λ name. item (first_fixed 16) name.1 >>= λ uuid. Ok (record { name = name.0; uuid = uuid.0 }, uuid.1)) x e in
    let e2 = bind_ok (item (first_fixed 16) e1.0.1) (λ uuid. Ok (record { name = e1.0.0; uuid = uuid.0 }, uuid.1)) x e1.2 in
    let f1 = IsPart-name.found l e1.0 fits e1.1 in
    let f2 = part_fixed.found e1.0.1 e2.0 f1.2 e2.1 in
    let d : PoolRef = record { name = e1.0.0; uuid = e2.0.0 } in
    let t2 : Takes l (opaque e1.0.0 ++ fixed e2.0.0) e2.0.1 = Takes-then l e1.0.1 e2.0.1 (opaque e1.0.0) (fixed e2.0.0) f1.1 f2.1 in
    let here : (λ (n : PoolRef). IsObjectReference n.name n.uuid) d × Takes l ((λ (n : PoolRef). object_reference n.name n.uuid) d) e2.0.1 × IsBytes e2.0.1.bytes = (record { name = f1.0; uuid = f2.0 }, t2, f2.2) in
    subst (λ (y : PoolRef × Left). (λ (n : PoolRef). IsObjectReference n.name n.uuid) y.0 × Takes l ((λ (n : PoolRef). object_reference n.name n.uuid) y.0) y.1 × IsBytes y.1.bytes) (ok_is (d, e2.0.1) x e2.2) here

pool_again : (l : Left) (d : PoolRef) (rest : List ℕ) → (λ (n : PoolRef). IsObjectReference n.name n.uuid) d → l.bytes ≡ (λ (n : PoolRef). object_reference n.name n.uuid) d ++ rest → (first_object (λ n u. record { name = n; uuid = u })) l ≡ Ok (taken l d ((λ (n : PoolRef). object_reference n.name n.uuid) d) rest)
unfolding first_object
pool_again l d rest is e =
    let r1 = IsPart-name.again l d.name ((fixed d.uuid) ++ rest) is.name (e ∙ parts_2 (opaque d.name) (fixed d.uuid) rest) in
    let r2 = part_fixed.again (taken l d.name (opaque d.name) ((fixed d.uuid) ++ rest)).1 d.uuid rest is.uuid refl in
    rw (r1, r2, after_2 (opaque d.name) (fixed d.uuid) l.place) refl

pub IsPart-pool : IsPart (λ (n : PoolRef). IsObjectReference n.name n.uuid) (λ (n : PoolRef). object_reference n.name n.uuid) (first_object (λ n u. record { name = n; uuid = u }))
IsPart-pool = record { found = pool_found; again = pool_again }

info_found : (l : Left) (x : DomainInfo × Left) → IsBytes l.bytes → first_info l ≡ Ok x → IsInfo x.0 × Takes l (info x.0) x.1 × IsBytes x.1.bytes
unfolding first_info
info_found l x fits e =
    let e1 = bind_ok (first_state l) (λ state. item first_double_word state.1 >>= λ memory. item first_double_word memory.1 >>= λ current. item first_word current.1 >>= λ vcpus. first_time vcpus.1 >>= λ time. Ok (record { state = state.0; memory = memory.0; current = current.0; vcpus = vcpus.0 }, time.1)) x e in
    let e2 = bind_ok (item first_double_word e1.0.1) (λ memory. item first_double_word memory.1 >>= λ current. item first_word current.1 >>= λ vcpus. first_time vcpus.1 >>= λ time. Ok (record { state = e1.0.0; memory = memory.0; current = current.0; vcpus = vcpus.0 }, time.1)) x e1.2 in
    let e3 = bind_ok (item first_double_word e2.0.1) (λ current. item first_word current.1 >>= λ vcpus. first_time vcpus.1 >>= λ time. Ok (record { state = e1.0.0; memory = e2.0.0; current = current.0; vcpus = vcpus.0 }, time.1)) x e2.2 in
    let e4 = bind_ok (item first_word e3.0.1) (λ vcpus. first_time vcpus.1 >>= λ time. Ok (record { state = e1.0.0; memory = e2.0.0; current = e3.0.0; vcpus = vcpus.0 }, time.1)) x e3.2 in
    let e5 = bind_ok (first_time e4.0.1) (λ time. Ok (record { state = e1.0.0; memory = e2.0.0; current = e3.0.0; vcpus = e4.0.0 }, time.1)) x e4.2 in
    let f1 = part_state.found l e1.0 fits e1.1 in
    let f2 = part_double_word.found e1.0.1 e2.0 f1.2 e2.1 in
    let f3 = part_double_word.found e2.0.1 e3.0 f2.2 e3.1 in
    let f4 = part_word.found e3.0.1 e4.0 f3.2 e4.1 in
    let f5 = part_time.found e4.0.1 e5.0 f4.2 e5.1 in
    let d : DomainInfo = record { state = e1.0.0; memory = e2.0.0; current = e3.0.0; vcpus = e4.0.0 } in
    let t2 : Takes l (state_item e1.0.0 ++ double_word e2.0.0) e2.0.1 = Takes-then l e1.0.1 e2.0.1 (state_item e1.0.0) (double_word e2.0.0) f1.1 f2.1 in
    let t3 : Takes l (state_item e1.0.0 ++ double_word e2.0.0 ++ double_word e3.0.0) e3.0.1 = Takes-then l e2.0.1 e3.0.1 (state_item e1.0.0 ++ double_word e2.0.0) (double_word e3.0.0) t2 f3.1 in
    let t4 : Takes l (state_item e1.0.0 ++ double_word e2.0.0 ++ double_word e3.0.0 ++ word e4.0.0) e4.0.1 = Takes-then l e3.0.1 e4.0.1 (state_item e1.0.0 ++ double_word e2.0.0 ++ double_word e3.0.0) (word e4.0.0) t3 f4.1 in
    let t5 : Takes l (state_item e1.0.0 ++ double_word e2.0.0 ++ double_word e3.0.0 ++ word e4.0.0 ++ double_word 0) e5.0.1 = Takes-then l e4.0.1 e5.0.1 (state_item e1.0.0 ++ double_word e2.0.0 ++ double_word e3.0.0 ++ word e4.0.0) (double_word 0) t4 f5.1 in
    let here : IsInfo d × Takes l (info d) e5.0.1 × IsBytes e5.0.1.bytes = (record { memory = f2.0; current = f3.0; vcpus = f4.0 }, t5, f5.2) in
    subst (λ (y : DomainInfo × Left). IsInfo y.0 × Takes l (info y.0) y.1 × IsBytes y.1.bytes) (ok_is (d, e5.0.1) x e5.2) here

info_again : (l : Left) (d : DomainInfo) (rest : List ℕ) → IsInfo d → l.bytes ≡ info d ++ rest → first_info l ≡ Ok (taken l d (info d) rest)
unfolding first_info
info_again l d rest is e =
    let r1 = part_state.again l d.state ((double_word d.memory) ++ ((double_word d.current) ++ ((word d.vcpus) ++ ((double_word 0) ++ rest)))) tt (e ∙ parts_5 (state_item d.state) (double_word d.memory) (double_word d.current) (word d.vcpus) (double_word 0) rest) in
    let r2 = part_double_word.again (taken l d.state (state_item d.state) ((double_word d.memory) ++ ((double_word d.current) ++ ((word d.vcpus) ++ ((double_word 0) ++ rest))))).1 d.memory ((double_word d.current) ++ ((word d.vcpus) ++ ((double_word 0) ++ rest))) is.memory refl in
    let r3 = part_double_word.again (taken (taken l d.state (state_item d.state) ((double_word d.memory) ++ ((double_word d.current) ++ ((word d.vcpus) ++ ((double_word 0) ++ rest))))).1 d.memory (double_word d.memory) ((double_word d.current) ++ ((word d.vcpus) ++ ((double_word 0) ++ rest)))).1 d.current ((word d.vcpus) ++ ((double_word 0) ++ rest)) is.current refl in
    let r4 = part_word.again (taken (taken (taken l d.state (state_item d.state) ((double_word d.memory) ++ ((double_word d.current) ++ ((word d.vcpus) ++ ((double_word 0) ++ rest))))).1 d.memory (double_word d.memory) ((double_word d.current) ++ ((word d.vcpus) ++ ((double_word 0) ++ rest)))).1 d.current (double_word d.current) ((word d.vcpus) ++ ((double_word 0) ++ rest))).1 d.vcpus ((double_word 0) ++ rest) is.vcpus refl in
    let r5 = part_time.again (taken (taken (taken (taken l d.state (state_item d.state) ((double_word d.memory) ++ ((double_word d.current) ++ ((word d.vcpus) ++ ((double_word 0) ++ rest))))).1 d.memory (double_word d.memory) ((double_word d.current) ++ ((word d.vcpus) ++ ((double_word 0) ++ rest)))).1 d.current (double_word d.current) ((word d.vcpus) ++ ((double_word 0) ++ rest))).1 d.vcpus (word d.vcpus) ((double_word 0) ++ rest)).1 tt rest tt refl in
    rw (r1, r2, r3, r4, r5, after_5 (state_item d.state) (double_word d.memory) (double_word d.current) (word d.vcpus) (double_word 0) l.place) refl

pub IsPart-info : IsPart IsInfo info first_info
IsPart-info = record { found = info_found; again = info_again }

job_found : (l : Left) (x : JobInfo × Left) → IsBytes l.bytes → first_job l ≡ Ok x → IsJob x.0 × Takes l (job x.0) x.1 × IsBytes x.1.bytes
unfolding first_job
job_found l x fits e =
    let e1 = bind_ok (first_kind l) (λ kind. first_phase kind.1 >>= λ phase. item first_double_word phase.1 >>= λ left. Ok (record { kind = kind.0; phase = phase.0; rest = left.0 }, left.1)) x e in
    let e2 = bind_ok (first_phase e1.0.1) (λ phase. item first_double_word phase.1 >>= λ left. Ok (record { kind = e1.0.0; phase = phase.0; rest = left.0 }, left.1)) x e1.2 in
    let e3 = bind_ok (item first_double_word e2.0.1) (λ left. Ok (record { kind = e1.0.0; phase = e2.0.0; rest = left.0 }, left.1)) x e2.2 in
    let f1 = part_kind.found l e1.0 fits e1.1 in
    let f2 = part_phase.found e1.0.1 e2.0 f1.2 e2.1 in
    let f3 = part_double_word.found e2.0.1 e3.0 f2.2 e3.1 in
    let d : JobInfo = record { kind = e1.0.0; phase = e2.0.0; rest = e3.0.0 } in
    let t2 : Takes l (kind_item e1.0.0 ++ phase_item e2.0.0) e2.0.1 = Takes-then l e1.0.1 e2.0.1 (kind_item e1.0.0) (phase_item e2.0.0) f1.1 f2.1 in
    let t3 : Takes l (kind_item e1.0.0 ++ phase_item e2.0.0 ++ double_word e3.0.0) e3.0.1 = Takes-then l e2.0.1 e3.0.1 (kind_item e1.0.0 ++ phase_item e2.0.0) (double_word e3.0.0) t2 f3.1 in
    let here : IsJob d × Takes l (job d) e3.0.1 × IsBytes e3.0.1.bytes = (f3.0, t3, f3.2) in
    subst (λ (y : JobInfo × Left). IsJob y.0 × Takes l (job y.0) y.1 × IsBytes y.1.bytes) (ok_is (d, e3.0.1) x e3.2) here

job_again : (l : Left) (d : JobInfo) (rest : List ℕ) → IsJob d → l.bytes ≡ job d ++ rest → first_job l ≡ Ok (taken l d (job d) rest)
unfolding first_job
job_again l d rest is e =
    let r1 = part_kind.again l d.kind ((phase_item d.phase) ++ ((double_word d.rest) ++ rest)) tt (e ∙ parts_3 (kind_item d.kind) (phase_item d.phase) (double_word d.rest) rest) in
    let r2 = part_phase.again (taken l d.kind (kind_item d.kind) ((phase_item d.phase) ++ ((double_word d.rest) ++ rest))).1 d.phase ((double_word d.rest) ++ rest) tt refl in
    let r3 = part_double_word.again (taken (taken l d.kind (kind_item d.kind) ((phase_item d.phase) ++ ((double_word d.rest) ++ rest))).1 d.phase (phase_item d.phase) ((double_word d.rest) ++ rest)).1 d.rest rest is refl in
    rw (r1, r2, r3, after_3 (kind_item d.kind) (phase_item d.phase) (double_word d.rest) l.place) refl

pub IsPart-job : IsPart IsJob job first_job
IsPart-job = record { found = job_found; again = job_again }

domain_row_found : (l : Left) (x : DomainRow × Left) → IsBytes l.bytes → first_domain_row l ≡ Ok x → IsDomainRow x.0 × Takes l (domain_row x.0) x.1 × IsBytes x.1.bytes
unfolding first_domain_row
domain_row_found l x fits e =
    let e1 = bind_ok (first_reference l) (λ domain. first_state domain.1 >>= λ state. Ok (record { domain = domain.0; state = state.0 }, state.1)) x e in
    let e2 = bind_ok (first_state e1.0.1) (λ state. Ok (record { domain = e1.0.0; state = state.0 }, state.1)) x e1.2 in
    let f1 = IsPart-reference.found l e1.0 fits e1.1 in
    let f2 = part_state.found e1.0.1 e2.0 f1.2 e2.1 in
    let d : DomainRow = record { domain = e1.0.0; state = e2.0.0 } in
    let t2 : Takes l (domain_reference e1.0.0 ++ state_item e2.0.0) e2.0.1 = Takes-then l e1.0.1 e2.0.1 (domain_reference e1.0.0) (state_item e2.0.0) f1.1 f2.1 in
    let here : IsDomainRow d × Takes l (domain_row d) e2.0.1 × IsBytes e2.0.1.bytes = (f1.0, t2, f2.2) in
    subst (λ (y : DomainRow × Left). IsDomainRow y.0 × Takes l (domain_row y.0) y.1 × IsBytes y.1.bytes) (ok_is (d, e2.0.1) x e2.2) here

domain_row_again : (l : Left) (d : DomainRow) (rest : List ℕ) → IsDomainRow d → l.bytes ≡ domain_row d ++ rest → first_domain_row l ≡ Ok (taken l d (domain_row d) rest)
unfolding first_domain_row
domain_row_again l d rest is e =
    let r1 = IsPart-reference.again l d.domain ((state_item d.state) ++ rest) is (e ∙ parts_2 (domain_reference d.domain) (state_item d.state) rest) in
    let r2 = part_state.again (taken l d.domain (domain_reference d.domain) ((state_item d.state) ++ rest)).1 d.state rest tt refl in
    rw (r1, r2, after_2 (domain_reference d.domain) (state_item d.state) l.place) refl

pub IsPart-domain_row : IsPart IsDomainRow domain_row first_domain_row
IsPart-domain_row = record { found = domain_row_found; again = domain_row_again }

pool_row_found : (l : Left) (x : PoolRow × Left) → IsBytes l.bytes → first_pool_row l ≡ Ok x → IsPoolRow x.0 × Takes l (pool_row x.0) x.1 × IsBytes x.1.bytes
unfolding first_pool_row
pool_row_found l x fits e =
    let e1 = bind_ok (first_name l) (λ name. item (first_fixed 16) name.1 >>= λ uuid. item first_truth uuid.1 >>= λ active. Ok (record { name = name.0; uuid = uuid.0; active = active.0 }, active.1)) x e in
    let e2 = bind_ok (item (first_fixed 16) e1.0.1) (λ uuid. item first_truth uuid.1 >>= λ active. Ok (record { name = e1.0.0; uuid = uuid.0; active = active.0 }, active.1)) x e1.2 in
    let e3 = bind_ok (item first_truth e2.0.1) (λ active. Ok (record { name = e1.0.0; uuid = e2.0.0; active = active.0 }, active.1)) x e2.2 in
    let f1 = IsPart-name.found l e1.0 fits e1.1 in
    let f2 = part_fixed.found e1.0.1 e2.0 f1.2 e2.1 in
    let f3 = part_truth.found e2.0.1 e3.0 f2.2 e3.1 in
    let d : PoolRow = record { name = e1.0.0; uuid = e2.0.0; active = e3.0.0 } in
    let t2 : Takes l (opaque e1.0.0 ++ fixed e2.0.0) e2.0.1 = Takes-then l e1.0.1 e2.0.1 (opaque e1.0.0) (fixed e2.0.0) f1.1 f2.1 in
    let t3 : Takes l (opaque e1.0.0 ++ fixed e2.0.0 ++ truth e3.0.0) e3.0.1 = Takes-then l e2.0.1 e3.0.1 (opaque e1.0.0 ++ fixed e2.0.0) (truth e3.0.0) t2 f3.1 in
    let here : IsPoolRow d × Takes l (pool_row d) e3.0.1 × IsBytes e3.0.1.bytes = (record { name = f1.0; uuid = f2.0 }, t3, f3.2) in
    subst (λ (y : PoolRow × Left). IsPoolRow y.0 × Takes l (pool_row y.0) y.1 × IsBytes y.1.bytes) (ok_is (d, e3.0.1) x e3.2) here

pool_row_again : (l : Left) (d : PoolRow) (rest : List ℕ) → IsPoolRow d → l.bytes ≡ pool_row d ++ rest → first_pool_row l ≡ Ok (taken l d (pool_row d) rest)
unfolding first_pool_row
pool_row_again l d rest is e =
    let r1 = IsPart-name.again l d.name ((fixed d.uuid) ++ ((truth d.active) ++ rest)) is.name (e ∙ parts_3 (opaque d.name) (fixed d.uuid) (truth d.active) rest) in
    let r2 = part_fixed.again (taken l d.name (opaque d.name) ((fixed d.uuid) ++ ((truth d.active) ++ rest))).1 d.uuid ((truth d.active) ++ rest) is.uuid refl in
    let r3 = part_truth.again (taken (taken l d.name (opaque d.name) ((fixed d.uuid) ++ ((truth d.active) ++ rest))).1 d.uuid (fixed d.uuid) ((truth d.active) ++ rest)).1 d.active rest tt refl in
    rw (r1, r2, r3, after_3 (opaque d.name) (fixed d.uuid) (truth d.active) l.place) refl

pub IsPart-pool_row : IsPart IsPoolRow pool_row first_pool_row
IsPart-pool_row = record { found = pool_row_found; again = pool_row_again }

title_row_found : (l : Left) (x : TitleRow × Left) → IsBytes l.bytes → first_title_row l ≡ Ok x → IsTitleRow x.0 × Takes l (title_row x.0) x.1 × IsBytes x.1.bytes
unfolding first_title_row
title_row_found l x fits e =
    let e1 = bind_ok (first_name l) (λ name. item (first_string TITLE_BOUND) name.1 >>= λ title. Ok (record { name = name.0; title = title.0 }, title.1)) x e in
    let e2 = bind_ok (item (first_string TITLE_BOUND) e1.0.1) (λ title. Ok (record { name = e1.0.0; title = title.0 }, title.1)) x e1.2 in
    let f1 = IsPart-name.found l e1.0 fits e1.1 in
    let f2 = part_title.found e1.0.1 e2.0 f1.2 e2.1 in
    let d : TitleRow = record { name = e1.0.0; title = e2.0.0 } in
    let t2 : Takes l (opaque e1.0.0 ++ opaque e2.0.0) e2.0.1 = Takes-then l e1.0.1 e2.0.1 (opaque e1.0.0) (opaque e2.0.0) f1.1 f2.1 in
    let here : IsTitleRow d × Takes l (title_row d) e2.0.1 × IsBytes e2.0.1.bytes = (record { name = f1.0; title = f2.0 }, t2, f2.2) in
    subst (λ (y : TitleRow × Left). IsTitleRow y.0 × Takes l (title_row y.0) y.1 × IsBytes y.1.bytes) (ok_is (d, e2.0.1) x e2.2) here

title_row_again : (l : Left) (d : TitleRow) (rest : List ℕ) → IsTitleRow d → l.bytes ≡ title_row d ++ rest → first_title_row l ≡ Ok (taken l d (title_row d) rest)
unfolding first_title_row
title_row_again l d rest is e =
    let r1 = IsPart-name.again l d.name ((opaque d.title) ++ rest) is.name (e ∙ parts_2 (opaque d.name) (opaque d.title) rest) in
    let r2 = part_title.again (taken l d.name (opaque d.name) ((opaque d.title) ++ rest)).1 d.title rest is.title refl in
    rw (r1, r2, after_2 (opaque d.name) (opaque d.title) l.place) refl

pub IsPart-title_row : IsPart IsTitleRow title_row first_title_row
IsPart-title_row = record { found = title_row_found; again = title_row_again }

migrated_found : (l : Left) (x : MigratedText × Left) → IsBytes l.bytes → first_migrated l ≡ Ok x → IsMigrated x.0 × Takes l (migrated x.0) x.1 × IsBytes x.1.bytes
unfolding first_migrated
migrated_found l x fits e =
    let e1 = bind_ok (item (first_string PACKET_BOUND) l) (λ definition. item first_truth definition.1 >>= λ running. item (first_opaque most_state_bytes) running.1 >>= λ state. Ok (record { definition = definition.0; running = running.0; state = state.0 }, state.1)) x e in
    let e2 = bind_ok (item first_truth e1.0.1) (λ running. item (first_opaque most_state_bytes) running.1 >>= λ state. Ok (record { definition = e1.0.0; running = running.0; state = state.0 }, state.1)) x e1.2 in
    let e3 = bind_ok (item (first_opaque most_state_bytes) e2.0.1) (λ state. Ok (record { definition = e1.0.0; running = e2.0.0; state = state.0 }, state.1)) x e2.2 in
    let f1 = part_text.found l e1.0 fits e1.1 in
    let f2 = part_truth.found e1.0.1 e2.0 f1.2 e2.1 in
    let f3 = part_saved.found e2.0.1 e3.0 f2.2 e3.1 in
    let d : MigratedText = record { definition = e1.0.0; running = e2.0.0; state = e3.0.0 } in
    let t2 : Takes l (opaque e1.0.0 ++ truth e2.0.0) e2.0.1 = Takes-then l e1.0.1 e2.0.1 (opaque e1.0.0) (truth e2.0.0) f1.1 f2.1 in
    let t3 : Takes l (opaque e1.0.0 ++ truth e2.0.0 ++ opaque e3.0.0) e3.0.1 = Takes-then l e2.0.1 e3.0.1 (opaque e1.0.0 ++ truth e2.0.0) (opaque e3.0.0) t2 f3.1 in
    let here : IsMigrated d × Takes l (migrated d) e3.0.1 × IsBytes e3.0.1.bytes = (record { definition = f1.0; state = f3.0 }, t3, f3.2) in
    subst (λ (y : MigratedText × Left). IsMigrated y.0 × Takes l (migrated y.0) y.1 × IsBytes y.1.bytes) (ok_is (d, e3.0.1) x e3.2) here

migrated_again : (l : Left) (d : MigratedText) (rest : List ℕ) → IsMigrated d → l.bytes ≡ migrated d ++ rest → first_migrated l ≡ Ok (taken l d (migrated d) rest)
unfolding first_migrated
migrated_again l d rest is e =
    let r1 = part_text.again l d.definition ((truth d.running) ++ ((opaque d.state) ++ rest)) is.definition (e ∙ parts_3 (opaque d.definition) (truth d.running) (opaque d.state) rest) in
    let r2 = part_truth.again (taken l d.definition (opaque d.definition) ((truth d.running) ++ ((opaque d.state) ++ rest))).1 d.running ((opaque d.state) ++ rest) tt refl in
    let r3 = part_saved.again (taken (taken l d.definition (opaque d.definition) ((truth d.running) ++ ((opaque d.state) ++ rest))).1 d.running (truth d.running) ((opaque d.state) ++ rest)).1 d.state rest is.state refl in
    rw (r1, r2, r3, after_3 (opaque d.definition) (truth d.running) (opaque d.state) l.place) refl

pub IsPart-migrated : IsPart IsMigrated migrated first_migrated
IsPart-migrated = record { found = migrated_found; again = migrated_again }

-- ---- leases

-- what a text stands for
record IsWritten {A : Type 0} (IsValue : A → Type 0) (code : A → List ℕ) (see : List ℕ → Option A) : Type 0 where
  text : (a : A) → IsValue a → IsString PACKET_BOUND (code a)
  found : (t : List ℕ) (a : A) → see t ≡ Some a → IsValue a × (code a ≡ t)
  again : (a : A) → IsValue a → see (code a) ≡ Some a

IsPart-written : {A : Type 0} (IsValue : A → Type 0) (code : A → List ℕ) (see : List ℕ → Option A) → IsWritten IsValue code see → IsPart IsValue (λ a. opaque (code a)) (first_written see)
IsPart-written {A = A} IsValue code see is = record {
  found = λ l x fits e.
      let m = bind_ok (item (first_string PACKET_BOUND) l) (λ t. meant l.place (see t.0) t.1) x e in
      let f = part_text.found l m.0 fits m.1 in
      let s = meant_ok l.place (see m.0.0) m.0.1 x m.2 in
      let w = is.found m.0.0 x.0 s.0 in
      (w.0, subst (λ (y : Left). Takes l (opaque (code x.0)) y) s.1 (subst (λ (t : List ℕ). Takes l (opaque t) m.0.1) (sym w.1) f.1), subst (λ (y : Left). IsBytes y.bytes) s.1 f.2);
  again = λ l a rest value e. rw (part_text.again l (code a) rest (is.text a value) e, is.again a value) refl;
}

part_mac : IsPart IsMac (λ m. opaque (mac_text m)) (first_written mac_written)
part_mac = IsPart-written IsMac mac_text mac_written (record { text = mac_string; found = mac_found; again = mac_again })

part_address : IsPart IsWord (λ n. opaque (address_text n)) (first_written address_written)
part_address = IsPart-written IsWord address_text address_written (record { text = λ n small. address_string n; found = address_found; again = address_again })

lease_row_found : (l : Left) (x : LeaseRow × Left) → IsBytes l.bytes → first_lease_row l ≡ Ok x → IsLeaseRow x.0 × Takes l (lease_row x.0) x.1 × IsBytes x.1.bytes
unfolding first_lease_row
lease_row_found l x fits e =
    let e1 = bind_ok (first_written mac_written l) (λ mac. first_written address_written mac.1 >>= λ address. Ok (record { mac = mac.0; address = address.0 }, address.1)) x e in
    let e2 = bind_ok (first_written address_written e1.0.1) (λ address. Ok (record { mac = e1.0.0; address = address.0 }, address.1)) x e1.2 in
    let f1 = part_mac.found l e1.0 fits e1.1 in
    let f2 = part_address.found e1.0.1 e2.0 f1.2 e2.1 in
    let d : LeaseRow = record { mac = e1.0.0; address = e2.0.0 } in
    let t2 : Takes l (opaque (mac_text e1.0.0) ++ opaque (address_text e2.0.0)) e2.0.1 = Takes-then l e1.0.1 e2.0.1 (opaque (mac_text e1.0.0)) (opaque (address_text e2.0.0)) f1.1 f2.1 in
    let here : IsLeaseRow d × Takes l (lease_row d) e2.0.1 × IsBytes e2.0.1.bytes = (record { mac = f1.0; address = f2.0 }, t2, f2.2) in
    subst (λ (y : LeaseRow × Left). IsLeaseRow y.0 × Takes l (lease_row y.0) y.1 × IsBytes y.1.bytes) (ok_is (d, e2.0.1) x e2.2) here

lease_row_again : (l : Left) (d : LeaseRow) (rest : List ℕ) → IsLeaseRow d → l.bytes ≡ lease_row d ++ rest → first_lease_row l ≡ Ok (taken l d (lease_row d) rest)
unfolding first_lease_row
lease_row_again l d rest is e =
    let mac = opaque (mac_text d.mac) in
    let address = opaque (address_text d.address) in
    let r1 = part_mac.again l d.mac (address ++ rest) is.mac (e ∙ parts_2 mac address rest) in
    let r2 = part_address.again (taken l d.mac mac (address ++ rest)).1 d.address rest is.address refl in
    rw (r1, r2, after_2 mac address l.place) refl

pub IsPart-lease_row : IsPart IsLeaseRow lease_row first_lease_row
IsPart-lease_row = record { found = lease_row_found; again = lease_row_again }
