-- Requests whose arguments are no longer than a text of 65,536 bytes and a few words can be sent.
use Rattle.std.proofs.Common.{◌≡◌, ◌+◌, ◌≤◌, ◌<◌, ℕ, ℤ, pos, rules, List, [], ◌++◌, length, Option, None, Some, sym, subst, arith}
use Rattle.std.specs.Prelude.{IfSome}
use Rattle.std.specs.Str.{IsUtf8}
use Rattle.std.proofs.lemmas.List.{length-append, length-replicate}
use Rattle.virt_types.specs.Name.{IsName}
use Rattle.wire_spec.specs.Xdr.{IsDoubleWord, IsInteger, IsWord, double_word, fixed, integer, opaque, padding, padding_length, word}
use Rattle.virt_types.specs.declared.reference.DomainTarget.{DomainTarget}
use Rattle.virt_types.specs.declared.reference.NetworkTarget.{NetworkTarget}
use Rattle.virt_types.specs.declared.reference.PoolTarget.{PoolTarget}
use Rattle.virt_types.specs.declared.request.Request.TheVariants as request
use Rattle.virt_types.specs.declared.object_request.DomainRequest.{DomainRequest}
use Rattle.virt_types.specs.declared.object_request.NetworkRequest.{NetworkRequest}
use Rattle.virt_types.specs.declared.object_request.PoolRequest.{PoolRequest}
use Rattle.virt_types.specs.declared.request.Request.{Request}
use Rattle.procedure_spec.specs.Arguments.{IsArguments, IsDomain, IsObject, IsTarget, argument_items, arguments, domain, object, target_items}
use Rattle.procedure_spec.specs.Requests.{arguments_of, asks_of_domain, asks_of_network, asks_of_pool, target_of}
use Rattle.procedure_spec.specs.declared.arguments.Arguments.{Arguments}
use Rattle.procedure_spec.specs.declared.arguments.Arguments.TheVariants as args
use Rattle.virsh_plan.specs.Sendable.{IsSendable, IsSmall}

word_long : (n : ℕ) → length (word n) ≡ 4
unfolding word
word_long n = omega arith

integer_long : (z : ℤ) → length (integer z) ≡ 4
integer_long z = word_long _

double_long : (n : ℕ) → length (double_word n) ≡ 8
unfolding double_word
double_long n = omega arith

fixed_short : (bytes : List ℕ) → length (fixed bytes) ≤ length bytes + 3
fixed_short bytes = omega (arith, length-append bytes (padding (length bytes)), length-replicate {A = ℕ} (padding_length (length bytes)) 0)

opaque_short : (bytes : List ℕ) → length (opaque bytes) ≤ length bytes + 7
opaque_short bytes = omega (arith, length-append (word (length bytes)) (fixed bytes), word_long (length bytes), fixed_short bytes)

-- ---- arguments

pub small_nothing : IsSmall args.Nothing
small_nothing = record { is = tt; short = omega arith }

pub small_word : (n : ℕ) → IsWord n → IsSmall (args.Word n)
small_word n is = record { is = is; short = omega (arith, word_long n) }

pub small_integer : (z : ℤ) → IsInteger z → IsSmall (args.Integer z)
small_integer z is = record { is = is; short = omega (arith, integer_long z) }

pub small_double : (n : ℕ) → IsDoubleWord n → IsSmall (args.DoubleWord n)
small_double n is = record { is = is; short = omega (arith, double_long n) }

pub small_definition : (t : List ℕ) → IsUtf8 t → length t ≤ 65536 → IsSmall (args.Definition t)
small_definition t utf8 short = record { is = record { bounded = short; text = utf8 }; short = omega (arith, opaque_short t, short) }

pub small_name : (t : List ℕ) → IsUtf8 t → length t ≤ 65536 → IsSmall (args.Name t)
small_name t utf8 short = record { is = record { bounded = omega (arith, short); text = utf8 }; short = omega (arith, opaque_short t, short) }

pub small_name_word : (t : List ℕ) (n : ℕ) → IsUtf8 t → length t ≤ 65536 → IsWord n → IsSmall (args.NameWord t n)
small_name_word t n utf8 short is = record {
  is = (record { bounded = omega (arith, short); text = utf8 }, is);
  short = omega (arith, length-append (opaque t) (word n), opaque_short t, word_long n, short);
}

pub small_name_integer : (t : List ℕ) (z : ℤ) → IsUtf8 t → length t ≤ 65536 → IsInteger z → IsSmall (args.NameInteger t z)
small_name_integer t z utf8 short is = record {
  is = (record { bounded = omega (arith, short); text = utf8 }, is);
  short = omega (arith, length-append (opaque t) (integer z), opaque_short t, integer_long z, short);
}

pub small_definition_integer : (t : List ℕ) (z : ℤ) → IsUtf8 t → length t ≤ 65536 → IsInteger z → IsSmall (args.DefinitionInteger t z)
small_definition_integer t z utf8 short is = record {
  is = (record { bounded = short; text = utf8 }, is);
  short = omega (arith, length-append (opaque t) (integer z), opaque_short t, integer_long z, short);
}

-- ---- the one thing that is asked

pub one_of_domain : (r : Option DomainRequest) (a : DomainRequest) → IfSome r (λ it. it ≡ a) → IsSmall (asks_of_domain a).1 → IfSome r (λ it. IsSmall (asks_of_domain it).1)
one_of_domain None a same small = tt
one_of_domain (Some it) a same small = subst (λ (x : DomainRequest). IsSmall (asks_of_domain x).1) (sym same) small

pub one_of_network : (r : Option NetworkRequest) (a : NetworkRequest) → IfSome r (λ it. it ≡ a) → IsSmall (asks_of_network a).1 → IfSome r (λ it. IsSmall (asks_of_network it).1)
one_of_network None a same small = tt
one_of_network (Some it) a same small = subst (λ (x : NetworkRequest). IsSmall (asks_of_network x).1) (sym same) small

pub one_of_pool : (r : Option PoolRequest) (a : PoolRequest) → IfSome r (λ it. it ≡ a) → IsSmall (asks_of_pool a).1 → IfSome r (λ it. IsSmall (asks_of_pool it).1)
one_of_pool None a same small = tt
one_of_pool (Some it) a same small = subst (λ (x : PoolRequest). IsSmall (asks_of_pool x).1) (sym same) small

pub one_sendable : (r : Option Request) (a : Request) → IfSome r (λ it. it ≡ a) → IsSendable a → IfSome r IsSendable
one_sendable None a same is = tt
one_sendable (Some it) a same is = subst IsSendable (sym same) is

-- ---- what was looked up

pub spelled : (name was uuid : List ℕ) → name ≡ was → IsName was → length uuid ≡ 16 → IsObject name uuid
spelled name was uuid same is long =
    let kept : IsName name = subst IsName (sym same) is in
    record { name = record { bounded = omega (arith, kept.most); text = kept.utf8 }; uuid = long }

-- ---- requests

sendable : (asked : Request) → IsTarget (target_of asked) → length (target_items (target_of asked)) ≤ 200 → IsSmall (arguments_of asked) → IsSendable asked
sendable asked target short small = record {
  has = record { target = target; others = small.is };
  fits = omega (arith, length-append (target_items (target_of asked)) (argument_items (arguments_of asked)), short, small.short);
}

pub domain_short : (d : DomainTarget) → IsDomain d → length d.name ≤ 128 → length (domain d) ≤ 200
domain_short d is short = omega (arith, length-append (opaque d.name) (fixed d.uuid ++ integer d.id), length-append (opaque d.name ++ fixed d.uuid) (integer d.id), length-append (opaque d.name) (fixed d.uuid), length-append (fixed d.uuid) (integer d.id), opaque_short d.name, fixed_short d.uuid, integer_long d.id, is.uuid, short)

pub object_short : (n u : List ℕ) → IsObject n u → length n ≤ 128 → length (object n u) ≤ 200
object_short n u is short = omega (arith, length-append (opaque n) (fixed u), opaque_short n, fixed_short u, is.uuid, short)

pub sendable_domain : (d : DomainTarget) (it : DomainRequest) → IsDomain d → length d.name ≤ 128 → IsSmall (asks_of_domain it).1 → IsSendable (request.OnDomain d it)
sendable_domain d it is short small = sendable (request.OnDomain d it) is (domain_short d is short) small

pub sendable_network : (n : NetworkTarget) (it : NetworkRequest) → IsObject n.name n.uuid → length n.name ≤ 128 → IsSmall (asks_of_network it).1 → IsSendable (request.OnNetwork n it)
sendable_network n it is short small = sendable (request.OnNetwork n it) is (object_short n.name n.uuid is short) small

pub sendable_pool : (p : PoolTarget) (it : PoolRequest) → IsObject p.name p.uuid → length p.name ≤ 128 → IsSmall (asks_of_pool it).1 → IsSendable (request.OnPool p it)
sendable_pool p it is short small = sendable (request.OnPool p it) is (object_short p.name p.uuid is short) small

pub sendable_lookup : (name : List ℕ) → IsUtf8 name → length name ≤ 65536 → IsSendable (request.DomainLookupByName name) × IsSendable (request.NetworkLookupByName name) × IsSendable (request.PoolLookup name) × IsSendable (request.DomainRestore name)
sendable_lookup name utf8 short = let small = small_name name utf8 short in (
  sendable (request.DomainLookupByName name) tt (omega arith) small,
  sendable (request.NetworkLookupByName name) tt (omega arith) small,
  sendable (request.PoolLookup name) tt (omega arith) small,
  sendable (request.DomainRestore name) tt (omega arith) small,
)

pub sendable_text : (xml : List ℕ) → IsUtf8 xml → length xml ≤ 65536 → IsSendable (request.DomainDefineXml xml) × IsSendable (request.DomainCreateXml xml (pos 0)) × IsSendable (request.NetworkDefineXml xml) × IsSendable (request.PoolDefine xml)
sendable_text xml utf8 short = let small = small_definition xml utf8 short in (
  sendable (request.DomainDefineXml xml) tt (omega arith) small,
  sendable (request.DomainCreateXml xml (pos 0)) tt (omega arith) (small_definition_integer xml (pos 0) utf8 short (search rules)),
  sendable (request.NetworkDefineXml xml) tt (omega arith) small,
  sendable (request.PoolDefine xml) tt (omega arith) small,
)

pub sendable_lists : IsSendable request.ListAll × IsSendable request.PoolList × IsSendable (request.ListNetworks (pos 1024)) × IsSendable (request.ListDefinedNetworks (pos 1024))
sendable_lists = (
  sendable request.ListAll tt (omega arith) small_nothing,
  sendable request.PoolList tt (omega arith) small_nothing,
  sendable (request.ListNetworks (pos 1024)) tt (omega arith) (small_integer (pos 1024) (search rules)),
  sendable (request.ListDefinedNetworks (pos 1024)) tt (omega arith) (small_integer (pos 1024) (search rules)),
)
