-- Reading the arguments of calls from their payloads, by the shapes of the procedure's line: the request, or the first fault.
use Rattle.std.specs.Prelude.{ℕ, ℤ, List, Option, None, Some, Result, Ok, Err}
use Rattle.virt_types.specs.declared.reference.DomainTarget.{DomainTarget}
use Rattle.virt_types.specs.declared.request.Request.{Request}
use Rattle.virt_types.specs.Limits.{most_state_bytes, most_text_bytes}
use Rattle.wire_spec.specs.declared.fault.XdrFault.{XdrFault}
use Rattle.wire_spec.specs.XdrReading.{Left, ◌>>=◌, first_double_word, first_fixed, first_integer, first_opaque, first_optional, first_string, first_word, whole}
use Rattle.procedure_spec.specs.Faults.{xdr}
use Rattle.procedure_spec.specs.RequestsReading.{request_of}
use Rattle.procedure_spec.specs.declared.arguments.Arguments.{Arguments}
use Rattle.procedure_spec.specs.declared.arguments.Arguments.TheVariants as args
use Rattle.procedure_spec.specs.declared.arguments.Target.{Target}
use Rattle.procedure_spec.specs.declared.arguments.Target.TheVariants as target
use Rattle.procedure_spec.specs.declared.fault.ArgFault.{ArgFault}
use Rattle.procedure_spec.specs.declared.fault.ArgFault.TheVariants as fault
use Rattle.procedure_spec.specs.declared.procedure.Procedure.{Procedure}
use Rattle.procedure_spec.specs.declared.shape.ArgumentShape.{ArgumentShape}
use Rattle.procedure_spec.specs.declared.shape.ArgumentShape.TheVariants as call
use Rattle.procedure_spec.specs.declared.shape.TargetShape.{TargetShape}
use Rattle.procedure_spec.specs.declared.shape.TargetShape.TheVariants as on
use Rattle.procedure_spec.specs.declared.table.Row.{Row}
use Rattle.procedure_spec.specs.declared.words.TheConstants.{PACKET_BOUND}

-- ---- one item, or several, as a value

abbrev pub one : {A B : Type 0} → (A → B) → (Left → Result (A × Left) XdrFault) → Left → Result (B × Left) XdrFault
one f first l = do
  x ← first l
  Ok (f x.0, x.1)

abbrev pub two : {A B C : Type 0} → (A → B → C) → (Left → Result (A × Left) XdrFault) → (Left → Result (B × Left) XdrFault) → Left → Result (C × Left) XdrFault
two f first second l = do
  x ← first l
  y ← second x.1
  Ok (f x.0 y.0, y.1)

abbrev pub nothing : {A : Type 0} → A → Left → Result (A × Left) XdrFault
nothing x l = Ok (x, l)

-- ---- what a call is for

abbrev pub first_name : Left → Result (List ℕ × Left) XdrFault
first_name l = first_string PACKET_BOUND l

unfoldable pub first_domain : Left → Result (DomainTarget × Left) XdrFault
first_domain l = do
  name ← first_name l
  uuid ← first_fixed 16 name.1
  id ← first_integer uuid.1
  Ok (record { name = name.0; uuid = uuid.0; id = id.0 }, id.1)

abbrev pub first_target : TargetShape → Left → Result (Target × Left) XdrFault
first_target on.Nothing l = nothing target.Nothing l
first_target on.Domain l = one (λ d. target.Domain d) first_domain l
first_target on.Network l = two (λ n u. target.Network (record { name = n; uuid = u })) first_name (first_fixed 16) l
first_target on.Pool l = two (λ n u. target.Pool (record { name = n; uuid = u })) first_name (first_fixed 16) l

-- ---- the others

abbrev pub first_definition : Left → Result (List ℕ × Left) XdrFault
first_definition l = first_string most_text_bytes l

abbrev pub first_arguments : ArgumentShape → Left → Result (Arguments × Left) XdrFault
first_arguments call.Nothing l = nothing args.Nothing l
first_arguments call.Word l = one (λ n. args.Word n) first_word l
first_arguments call.Integer l = one (λ z. args.Integer z) first_integer l
first_arguments call.DoubleWord l = one (λ n. args.DoubleWord n) first_double_word l
first_arguments call.Uuid l = one (λ u. args.Uuid u) (first_fixed 16) l
first_arguments call.Definition l = one (λ t. args.Definition t) first_definition l
first_arguments call.Name l = one (λ t. args.Name t) first_name l
first_arguments call.NameWord l = two (λ t n. args.NameWord t n) first_name first_word l
first_arguments call.NameInteger l = two (λ t z. args.NameInteger t z) first_name first_integer l
first_arguments call.OptionalNameWord l = two (λ t n. args.OptionalNameWord t n) (first_optional first_name) first_word l
first_arguments call.DefinitionInteger l = two (λ t z. args.DefinitionInteger t z) first_definition first_integer l
first_arguments call.DefinitionIntegerState l = two (λ (x : List ℕ × ℤ) s. args.DefinitionIntegerState x.0 x.1 s) (two (λ t z. (t, z)) first_definition first_integer) (first_opaque most_state_bytes) l

-- ---- calls

-- all that a call of a line holds
abbrev pub first_call : Row → Left → Result ((Target × Arguments) × Left) XdrFault
first_call row l = two (λ t a. (t, a)) (first_target row.target) (first_arguments row.arguments) l

-- the request that a procedure with arguments asks; each line's procedure takes those of its line
abbrev pub asked_by : Option Request → Result Request ArgFault
asked_by None = Err fault.Procedure
asked_by (Some asked) = Ok asked

abbrev pub request_with : Procedure → Result (Target × Arguments) ArgFault → Result Request ArgFault
request_with p (Ok x) = asked_by (request_of p x.0 x.1)
request_with p (Err f) = Err f

-- all of the payload of a call of a line
unfoldable pub request_in : Row → List ℕ → Result Request ArgFault
request_in row payload = request_with row.procedure (xdr (whole (first_call row) payload))
