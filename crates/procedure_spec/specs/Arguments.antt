-- The arguments of calls, as their payloads spell them: what the call is for, and then the others.
use Rattle.std.specs.Prelude.{◌≡◌, ◌≤◌, ℕ, List, [], ◌++◌, length, Option, IfSome}
use Rattle.virt_types.specs.declared.reference.DomainTarget.{DomainTarget}
use Rattle.virt_types.specs.declared.reference.NetworkTarget.{NetworkTarget}
use Rattle.virt_types.specs.declared.reference.PoolTarget.{PoolTarget}
use Rattle.virt_types.specs.declared.request.Request.{Request}
use Rattle.virt_types.specs.Limits.{most_state_bytes, most_text_bytes}
use Rattle.wire_spec.specs.Xdr.{IsDoubleWord, IsInteger, IsWord, double_word, fixed, integer, opaque, optional, word}
pub use Rattle.wire_spec.specs.Xdr.{IsString}
use Rattle.procedure_spec.specs.Requests.{arguments_of, target_of}
use Rattle.procedure_spec.specs.declared.arguments.Arguments.{Arguments}
use Rattle.procedure_spec.specs.declared.arguments.Arguments.TheVariants as args
use Rattle.procedure_spec.specs.declared.arguments.Target.{Target}
use Rattle.procedure_spec.specs.declared.arguments.Target.TheVariants as target
use Rattle.procedure_spec.specs.declared.shape.ArgumentShape.{ArgumentShape}
use Rattle.procedure_spec.specs.declared.shape.ArgumentShape.TheVariants as call
use Rattle.procedure_spec.specs.declared.shape.TargetShape.{TargetShape}
use Rattle.procedure_spec.specs.declared.shape.TargetShape.TheVariants as on
use Rattle.procedure_spec.specs.declared.words.TheConstants.{PACKET_BOUND}

-- ---- what a call is for

-- a domain: its name, its identifier and its number
abbrev pub domain : DomainTarget → List ℕ
domain d = opaque d.name ++ fixed d.uuid ++ integer d.id

pub record IsDomain (d : DomainTarget) : Type 0 where
  pub name : IsString PACKET_BOUND d.name
  pub uuid : length d.uuid ≡ 16
  pub id : IsInteger d.id

-- a network or a pool: its name and its identifier
abbrev pub object : List ℕ → List ℕ → List ℕ
object name uuid = opaque name ++ fixed uuid

pub record IsObject (n u : List ℕ) : Type 0 where
  pub name : IsString PACKET_BOUND n
  pub uuid : length u ≡ 16

abbrev pub target_shape : Target → TargetShape
target_shape target.Nothing = on.Nothing
target_shape (target.Domain d) = on.Domain
target_shape (target.Network n) = on.Network
target_shape (target.Pool p) = on.Pool

abbrev pub target_items : Target → List ℕ
target_items target.Nothing = []
target_items (target.Domain d) = domain d
target_items (target.Network n) = object n.name n.uuid
target_items (target.Pool p) = object p.name p.uuid

-- it has a spelling
abbrev pub IsTarget : Target → Type 0
IsTarget target.Nothing = Unit {0}
IsTarget (target.Domain d) = IsDomain d
IsTarget (target.Network n) = IsObject n.name n.uuid
IsTarget (target.Pool p) = IsObject p.name p.uuid

-- ---- the others

abbrev pub argument_shape : Arguments → ArgumentShape
argument_shape args.Nothing = call.Nothing
argument_shape (args.Word n) = call.Word
argument_shape (args.Integer z) = call.Integer
argument_shape (args.DoubleWord n) = call.DoubleWord
argument_shape (args.Uuid u) = call.Uuid
argument_shape (args.Definition t) = call.Definition
argument_shape (args.Name t) = call.Name
argument_shape (args.NameWord t n) = call.NameWord
argument_shape (args.NameInteger t z) = call.NameInteger
argument_shape (args.OptionalNameWord t n) = call.OptionalNameWord
argument_shape (args.DefinitionInteger t z) = call.DefinitionInteger
argument_shape (args.DefinitionIntegerState t z s) = call.DefinitionIntegerState

abbrev pub argument_items : Arguments → List ℕ
argument_items args.Nothing = []
argument_items (args.Word n) = word n
argument_items (args.Integer z) = integer z
argument_items (args.DoubleWord n) = double_word n
argument_items (args.Uuid u) = fixed u
argument_items (args.Definition t) = opaque t
argument_items (args.Name t) = opaque t
argument_items (args.NameWord t n) = opaque t ++ word n
argument_items (args.NameInteger t z) = opaque t ++ integer z
argument_items (args.OptionalNameWord t n) = optional opaque t ++ word n
argument_items (args.DefinitionInteger t z) = opaque t ++ integer z
argument_items (args.DefinitionIntegerState t z s) = opaque t ++ integer z ++ opaque s

-- a name is any text, a definition one of at most 65,536 bytes, and a state has at most 4,096 bytes
abbrev pub IsNameText : List ℕ → Type 0
IsNameText t = IsString PACKET_BOUND t

abbrev pub IsDefinition : List ℕ → Type 0
IsDefinition t = IsString most_text_bytes t

abbrev pub IsArguments : Arguments → Type 0
IsArguments args.Nothing = Unit {0}
IsArguments (args.Word n) = IsWord n
IsArguments (args.Integer z) = IsInteger z
IsArguments (args.DoubleWord n) = IsDoubleWord n
IsArguments (args.Uuid u) = length u ≡ 16
IsArguments (args.Definition t) = IsDefinition t
IsArguments (args.Name t) = IsNameText t
IsArguments (args.NameWord t n) = IsNameText t × IsWord n
IsArguments (args.NameInteger t z) = IsNameText t × IsInteger z
IsArguments (args.OptionalNameWord t n) = IfSome t IsNameText × IsWord n
IsArguments (args.DefinitionInteger t z) = IsDefinition t × IsInteger z
IsArguments (args.DefinitionIntegerState t z s) = (IsDefinition t × IsInteger z) × (length s ≤ most_state_bytes)

-- ---- requests

-- the payload of the call
abbrev pub arguments : Request → List ℕ
arguments asked = target_items (target_of asked) ++ argument_items (arguments_of asked)

-- it has a spelling
pub record HasArguments (asked : Request) : Type 0 where
  pub target : IsTarget (target_of asked)
  pub others : IsArguments (arguments_of asked)
