-- Reading what replies carry from their payloads: the value, or the first fault.
use Rattle.std.specs.Prelude.{◌≡◌, ℕ, List, Result, Ok, Err}
use Rattle.virt_types.specs.declared.request.Request.{Request}
use Rattle.virt_types.specs.declared.value.Value.{Value}
use Rattle.virt_types.specs.declared.value.Value.TheVariants as value
use Rattle.wire_spec.specs.XdrReading.{Left, first_double_word, first_string, first_truth}
use Rattle.wire_spec.specs.declared.message.Header.{Header}
use Rattle.procedure_spec.specs.Calls.{IsCall}
use Rattle.procedure_spec.specs.ListsReading.{first_listed}
use Rattle.procedure_spec.specs.Reading.{◌>>=◌, all, item}
use Rattle.procedure_spec.specs.ResultItemsReading.{first_domain_row, first_info, first_job, first_lease_row, first_migrated, first_name, first_object, first_optional_name, first_pool_row, first_reference, first_title_row}
use Rattle.procedure_spec.specs.Results.{result, result_shape}
use Rattle.procedure_spec.specs.declared.fault.ArgFault.{ArgFault}
use Rattle.procedure_spec.specs.declared.fault.ArgFault.TheVariants as fault
use Rattle.procedure_spec.specs.declared.shape.ResultShape.{ResultShape}
use Rattle.procedure_spec.specs.declared.shape.ResultShape.TheVariants as shape
use Rattle.procedure_spec.specs.declared.words.TheConstants.{PACKET_BOUND}

-- a part as a value
abbrev pub one : {A : Type 0} → (A → Value) → (Left → Result (A × Left) ArgFault) → Left → Result (Value × Left) ArgFault
one f first l = do
  x ← first l
  Ok (f x.0, x.1)

abbrev pub nothing : Left → Result (Value × Left) ArgFault
nothing l = Ok (value.Nothing, l)

-- the value of a payload of this shape
abbrev pub first_value : ResultShape → Left → Result (Value × Left) ArgFault
first_value shape.Nothing l = nothing l
first_value shape.Domain l = one (λ d. value.Domain d) first_reference l
first_value shape.Network l = one (λ n. value.Network n) (first_object (λ n u. record { name = n; uuid = u })) l
first_value shape.Pool l = one (λ p. value.Pool p) (first_object (λ n u. record { name = n; uuid = u })) l
first_value shape.Text l = one (λ t. value.Text t) (item (first_string PACKET_BOUND)) l
first_value shape.Name l = one (λ n. value.Name n) first_name l
first_value shape.OptionalName l = one (λ n. value.Parent n) first_optional_name l
first_value shape.Autostart l = one (λ b. value.Autostart b) (item first_truth) l
first_value shape.DoubleWord l = one (λ n. value.Memory n) (item first_double_word) l
first_value shape.Names l = one (λ ns. value.Names ns) (first_listed first_name) l
first_value shape.Info l = one (λ i. value.Info i) first_info l
first_value shape.Job l = one (λ j. value.Job j) first_job l
first_value shape.Domains l = one (λ rows. value.Domains rows) (first_listed first_domain_row) l
first_value shape.Pools l = one (λ rows. value.Pools rows) (first_listed first_pool_row) l
first_value shape.Leases l = one (λ rows. value.Leases rows) (first_listed first_lease_row) l
first_value shape.Titles l = one (λ rows. value.Titles rows) (first_listed first_title_row) l
first_value shape.Migrated l = one (λ m. value.MigratedText m) first_migrated l

-- all of the payload of a reply
abbrev pub value_in : ResultShape → List ℕ → Result Value ArgFault
value_in s payload = all (first_value s) payload

-- the value that the payload of the reply to a request carries
unfoldable pub reply_of : Request → List ℕ → Result Value ArgFault
reply_of asked payload = value_in (result_shape asked) payload

-- what a reply with this value carries is read as that value by whoever asked the call of this header
abbrev pub ReadsBack : Header → Value → Type 0
ReadsBack call v = (payload : List ℕ) (asked : Request) → IsCall call payload asked → reply_of asked (result v) ≡ Ok v
