-- What a call is for is read where it is spelled, and what is read is spelled so.
use Rattle.std.proofs.Common.{◌≡◌, ℕ, ◌+◌, List, [], ◌++◌, length, Ok, refl, ap, subst, ◌∙◌, append_assoc, arith, lit<}
use Rattle.std.proofs.lemmas.List.{length-append}
use Rattle.virt_types.specs.declared.reference.DomainTarget.{DomainTarget}
use Rattle.wire_spec.specs.Xdr.{IsString, fixed, integer, opaque}
use Rattle.wire_spec.specs.XdrAnswer.{Takes}
use Rattle.wire_spec.specs.XdrReading.{IsBytes, Left, ◌>>=◌, first_fixed, first_integer, first_string}
use Rattle.wire_spec.proofs.Items.{IsItem, taken}
use Rattle.wire_spec.proofs.Made.{made_again, two_again}
use Rattle.wire_spec.proofs.Seen.{IsItem-integer}
use Rattle.wire_spec.proofs.Steps.{Takes-then, bind_ok, ok_is}
use Rattle.wire_spec.proofs.Strings.{IsItem-fixed, IsItem-string}
use Rattle.procedure_spec.specs.Arguments.{IsDomain, IsTarget, domain, target_items, target_shape}
use Rattle.procedure_spec.specs.ArgumentsReading.{first_domain, first_target}
use Rattle.procedure_spec.specs.declared.arguments.Target.{Target}
use Rattle.procedure_spec.specs.declared.arguments.Target.TheVariants as target
use Rattle.procedure_spec.specs.declared.shape.TargetShape.{TargetShape}
use Rattle.procedure_spec.specs.declared.shape.TargetShape.TheVariants as on
use Rattle.procedure_spec.proofs.Shaped.{IsRead, IsShaped, item_shaped, nothing_again, nothing_read, one_read, two_read}
use Rattle.procedure_spec.specs.declared.words.TheConstants.{PACKET_BOUND}

pub IsItem-name : IsItem (IsString PACKET_BOUND) opaque (first_string PACKET_BOUND)
IsItem-name = IsItem-string PACKET_BOUND (lit< tt)

-- ---- a domain

domain_found : (l : Left) (x : DomainTarget × Left) → IsBytes l.bytes → first_domain l ≡ Ok x → IsDomain x.0 × Takes l (domain x.0) x.1 × IsBytes x.1.bytes
unfolding first_domain
domain_found l x fits e =
    let n = bind_ok (first_string PACKET_BOUND l) (λ name. first_fixed 16 name.1 >>= λ uuid. first_integer uuid.1 >>= λ id. Ok (record { name = name.0; uuid = uuid.0; id = id.0 }, id.1)) x e in
    let u = bind_ok (first_fixed 16 n.0.1) (λ uuid. first_integer uuid.1 >>= λ id. Ok (record { name = n.0.0; uuid = uuid.0; id = id.0 }, id.1)) x n.2 in
    let i = bind_ok (first_integer u.0.1) (λ id. Ok (record { name = n.0.0; uuid = u.0.0; id = id.0 }, id.1)) x u.2 in
    let name = IsItem-name.found l n.0 fits n.1 in
    let uuid = (IsItem-fixed 16).found n.0.1 u.0 name.2 u.1 in
    let id = IsItem-integer.found u.0.1 i.0 uuid.2 i.1 in
    let d : DomainTarget = record { name = n.0.0; uuid = u.0.0; id = i.0.0 } in
    let both : Takes l (opaque n.0.0 ++ fixed u.0.0) u.0.1 = Takes-then l n.0.1 u.0.1 (opaque n.0.0) (fixed u.0.0) name.1 uuid.1 in
    let all : Takes l (opaque n.0.0 ++ fixed u.0.0 ++ integer i.0.0) i.0.1 = Takes-then l u.0.1 i.0.1 (opaque n.0.0 ++ fixed u.0.0) (integer i.0.0) both id.1 in
    let here : IsDomain d × Takes l (domain d) i.0.1 × IsBytes i.0.1.bytes = (record { name = name.0; uuid = uuid.0; id = id.0 }, all, id.2) in
    subst (λ (y : DomainTarget × Left). IsDomain y.0 × Takes l (domain y.0) y.1 × IsBytes y.1.bytes) (ok_is (d, i.0.1) x i.2) here

after_three : (a b c : List ℕ) (place : ℕ) → place + length a + length b + length c ≡ place + length (a ++ b ++ c)
after_three a b c place = omega (arith, length-append (a ++ b) c, length-append a b)

domain_again : (l : Left) (d : DomainTarget) (rest : List ℕ) → IsDomain d → l.bytes ≡ domain d ++ rest → first_domain l ≡ Ok (taken l d (domain d) rest)
unfolding first_domain
domain_again l d rest is e =
    let parts : domain d ++ rest ≡ opaque d.name ++ (fixed d.uuid ++ (integer d.id ++ rest)) = append_assoc (opaque d.name ++ fixed d.uuid) (integer d.id) rest ∙ append_assoc (opaque d.name) (fixed d.uuid) (integer d.id ++ rest) in
    let n = IsItem-name.again l d.name (fixed d.uuid ++ (integer d.id ++ rest)) is.name (e ∙ parts) in
    let u = (IsItem-fixed 16).again (taken l d.name (opaque d.name) (fixed d.uuid ++ (integer d.id ++ rest))).1 d.uuid (integer d.id ++ rest) is.uuid refl in
    let i = IsItem-integer.again (taken (taken l d.name (opaque d.name) (fixed d.uuid ++ (integer d.id ++ rest))).1 d.uuid (fixed d.uuid) (integer d.id ++ rest)).1 d.id rest is.id refl in
    rw (n, u, i, after_three (opaque d.name) (fixed d.uuid) (integer d.id) l.place) refl

IsItem-domain : IsItem IsDomain domain first_domain
IsItem-domain = record { found = domain_found; again = domain_again }

-- ---- by its shape

target_read : (s : TargetShape) (l : Left) (x : Target × Left) → IsBytes l.bytes → first_target s l ≡ Ok x → IsRead target_shape IsTarget target_items s l x
target_read on.Nothing l x fits e = nothing_read target_shape IsTarget target_items on.Nothing target.Nothing refl tt refl l x fits e
target_read on.Domain l x fits e = one_read target_shape IsTarget target_items on.Domain _ _ _ (λ d. target.Domain d) IsItem-domain (λ d is. (refl, is)) (λ d. refl) l x fits e
target_read on.Network l x fits e = two_read target_shape IsTarget target_items on.Network _ _ _ _ _ _ (λ n u. target.Network (record { name = n; uuid = u })) IsItem-name (IsItem-fixed 16) (λ n u name uuid. (refl, record { name = name; uuid = uuid })) (λ n u. refl) l x fits e
target_read on.Pool l x fits e = two_read target_shape IsTarget target_items on.Pool _ _ _ _ _ _ (λ n u. target.Pool (record { name = n; uuid = u })) IsItem-name (IsItem-fixed 16) (λ n u name uuid. (refl, record { name = name; uuid = uuid })) (λ n u. refl) l x fits e

target_again : (l : Left) (t : Target) (rest : List ℕ) → IsTarget t → l.bytes ≡ target_items t ++ rest → first_target (target_shape t) l ≡ Ok (taken l t (target_items t) rest)
target_again l target.Nothing rest is e = nothing_again target.Nothing l rest e
target_again l (target.Domain d) rest is e = made_again _ _ _ (λ d. target.Domain d) IsItem-domain l d rest is e
target_again l (target.Network n) rest is e = two_again _ _ _ _ _ _ (λ n u. target.Network (record { name = n; uuid = u })) IsItem-name (IsItem-fixed 16) l n.name n.uuid rest is.name is.uuid e
target_again l (target.Pool p) rest is e = two_again _ _ _ _ _ _ (λ n u. target.Pool (record { name = n; uuid = u })) IsItem-name (IsItem-fixed 16) l p.name p.uuid rest is.name is.uuid e

pub IsItem-target : (s : TargetShape) → IsItem (IsShaped target_shape IsTarget s) target_items (first_target s)
IsItem-target s = item_shaped target_shape IsTarget target_items first_target target_read target_again s
