-- The arguments of a call are read where they are spelled, and what is read is spelled so.
use Rattle.std.proofs.Common.{◌≡◌, ℕ, ℤ, ◌≤◌, List, ◌++◌, length, Ok, refl, lit<}
use Rattle.std.specs.Prelude.{IfSome}
use Rattle.virt_types.specs.Limits.{most_state_bytes, most_text_bytes}
use Rattle.wire_spec.specs.Xdr.{IsInteger, IsString, integer, opaque, optional}
use Rattle.wire_spec.specs.XdrReading.{IsBytes, Left, first_integer, first_opaque, first_optional, first_string}
use Rattle.wire_spec.proofs.Items.{IsItem, IsItem-double_word, IsItem-word, taken}
use Rattle.wire_spec.proofs.Made.{IsItem-two, made_again, two, two_again}
use Rattle.wire_spec.proofs.Seen.{IsItem-integer}
use Rattle.wire_spec.proofs.Strings.{IsItem-fixed, IsItem-opaque, IsItem-string}
use Rattle.wire_spec.proofs.Wholes.{IsItem-optional}
use Rattle.procedure_spec.specs.Arguments.{IsArguments, argument_items, argument_shape}
use Rattle.procedure_spec.specs.ArgumentsReading.{first_arguments}
use Rattle.procedure_spec.specs.declared.arguments.Arguments.{Arguments}
use Rattle.procedure_spec.specs.declared.arguments.Arguments.TheVariants as args
use Rattle.procedure_spec.specs.declared.shape.ArgumentShape.{ArgumentShape}
use Rattle.procedure_spec.specs.declared.shape.ArgumentShape.TheVariants as call
use Rattle.procedure_spec.proofs.Shaped.{IsRead, IsShaped, item_shaped, nothing_again, nothing_read, one_read, two_read}
use Rattle.procedure_spec.proofs.Targets.{IsItem-name}
use Rattle.procedure_spec.specs.declared.words.TheConstants.{PACKET_BOUND}

IsItem-definition : IsItem (IsString most_text_bytes) opaque (first_string most_text_bytes)
IsItem-definition = IsItem-string most_text_bytes (lit< tt)

IsItem-optional_name : IsItem (λ n. IfSome n (IsString PACKET_BOUND)) (optional opaque) (first_optional (first_string PACKET_BOUND))
IsItem-optional_name = IsItem-optional (IsString PACKET_BOUND) opaque (first_string PACKET_BOUND) IsItem-name

IsItem-state : IsItem (λ v. length v ≤ most_state_bytes) opaque (first_opaque most_state_bytes)
IsItem-state = IsItem-opaque most_state_bytes (lit< tt)

-- a definition and an integer
IsItem-defined : IsItem {A = List ℕ × ℤ} (λ x. IsString most_text_bytes x.0 × IsInteger x.1) (λ x. opaque x.0 ++ integer x.1) (two (λ t z. (t, z)) (first_string most_text_bytes) first_integer)
IsItem-defined = IsItem-two _ _ _ _ _ _ IsItem-definition IsItem-integer

read : (s : ArgumentShape) (l : Left) (x : Arguments × Left) → IsBytes l.bytes → first_arguments s l ≡ Ok x → IsRead argument_shape IsArguments argument_items s l x
read call.Nothing l x fits e = nothing_read argument_shape IsArguments argument_items call.Nothing args.Nothing refl tt refl l x fits e
read call.Word l x fits e = one_read argument_shape IsArguments argument_items call.Word _ _ _ (λ n. args.Word n) IsItem-word (λ n is. (refl, is)) (λ n. refl) l x fits e
read call.Integer l x fits e = one_read argument_shape IsArguments argument_items call.Integer _ _ _ (λ z. args.Integer z) IsItem-integer (λ z is. (refl, is)) (λ z. refl) l x fits e
read call.DoubleWord l x fits e = one_read argument_shape IsArguments argument_items call.DoubleWord _ _ _ (λ n. args.DoubleWord n) IsItem-double_word (λ n is. (refl, is)) (λ n. refl) l x fits e
read call.Uuid l x fits e = one_read argument_shape IsArguments argument_items call.Uuid _ _ _ (λ u. args.Uuid u) (IsItem-fixed 16) (λ u is. (refl, is)) (λ u. refl) l x fits e
read call.Definition l x fits e = one_read argument_shape IsArguments argument_items call.Definition _ _ _ (λ t. args.Definition t) IsItem-definition (λ t is. (refl, is)) (λ t. refl) l x fits e
read call.Name l x fits e = one_read argument_shape IsArguments argument_items call.Name _ _ _ (λ t. args.Name t) IsItem-name (λ t is. (refl, is)) (λ t. refl) l x fits e
read call.NameWord l x fits e = two_read argument_shape IsArguments argument_items call.NameWord _ _ _ _ _ _ (λ t n. args.NameWord t n) IsItem-name IsItem-word (λ t n is also. (refl, (is, also))) (λ t n. refl) l x fits e
read call.NameInteger l x fits e = two_read argument_shape IsArguments argument_items call.NameInteger _ _ _ _ _ _ (λ t z. args.NameInteger t z) IsItem-name IsItem-integer (λ t z is also. (refl, (is, also))) (λ t z. refl) l x fits e
read call.OptionalNameWord l x fits e = two_read argument_shape IsArguments argument_items call.OptionalNameWord _ _ _ _ _ _ (λ t n. args.OptionalNameWord t n) IsItem-optional_name IsItem-word (λ t n is also. (refl, (is, also))) (λ t n. refl) l x fits e
read call.DefinitionInteger l x fits e = two_read argument_shape IsArguments argument_items call.DefinitionInteger _ _ _ _ _ _ (λ t z. args.DefinitionInteger t z) IsItem-definition IsItem-integer (λ t z is also. (refl, (is, also))) (λ t z. refl) l x fits e
read call.DefinitionIntegerState l x fits e = two_read argument_shape IsArguments argument_items call.DefinitionIntegerState _ _ _ _ _ _ (λ (y : List ℕ × ℤ) s. args.DefinitionIntegerState y.0 y.1 s) IsItem-defined IsItem-state (λ y s is also. (refl, (is, also))) (λ y s. refl) l x fits e

again : (l : Left) (a : Arguments) (rest : List ℕ) → IsArguments a → l.bytes ≡ argument_items a ++ rest → first_arguments (argument_shape a) l ≡ Ok (taken l a (argument_items a) rest)
again l args.Nothing rest is e = nothing_again args.Nothing l rest e
again l (args.Word n) rest is e = made_again _ _ _ (λ n. args.Word n) IsItem-word l n rest is e
again l (args.Integer z) rest is e = made_again _ _ _ (λ z. args.Integer z) IsItem-integer l z rest is e
again l (args.DoubleWord n) rest is e = made_again _ _ _ (λ n. args.DoubleWord n) IsItem-double_word l n rest is e
again l (args.Uuid u) rest is e = made_again _ _ _ (λ u. args.Uuid u) (IsItem-fixed 16) l u rest is e
again l (args.Definition t) rest is e = made_again _ _ _ (λ t. args.Definition t) IsItem-definition l t rest is e
again l (args.Name t) rest is e = made_again _ _ _ (λ t. args.Name t) IsItem-name l t rest is e
again l (args.NameWord t n) rest is e = two_again _ _ _ _ _ _ (λ t n. args.NameWord t n) IsItem-name IsItem-word l t n rest is.0 is.1 e
again l (args.NameInteger t z) rest is e = two_again _ _ _ _ _ _ (λ t z. args.NameInteger t z) IsItem-name IsItem-integer l t z rest is.0 is.1 e
again l (args.OptionalNameWord t n) rest is e = two_again _ _ _ _ _ _ (λ t n. args.OptionalNameWord t n) IsItem-optional_name IsItem-word l t n rest is.0 is.1 e
again l (args.DefinitionInteger t z) rest is e = two_again _ _ _ _ _ _ (λ t z. args.DefinitionInteger t z) IsItem-definition IsItem-integer l t z rest is.0 is.1 e
again l (args.DefinitionIntegerState t z s) rest is e = two_again _ _ _ _ _ _ (λ (y : List ℕ × ℤ) s. args.DefinitionIntegerState y.0 y.1 s) IsItem-defined IsItem-state l (t, z) s rest is.0 is.1 e

pub IsItem-arguments : (s : ArgumentShape) → IsItem (IsShaped argument_shape IsArguments s) argument_items (first_arguments s)
IsItem-arguments s = item_shaped argument_shape IsArguments argument_items first_arguments read again s
