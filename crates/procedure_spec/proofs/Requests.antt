-- A request is read from the payload of a call of a line exactly where the payload spells its arguments.
use Rattle.std.proofs.Common.{◌≡◌, ℕ, List, ◌++◌, Option, None, Some, Result, Ok, Err, refl, sym, ap, subst, ◌∙◌}
use Rattle.virt_types.specs.declared.request.Request.{Request}
use Rattle.wire_spec.specs.declared.fault.XdrFault.{XdrFault}
use Rattle.wire_spec.specs.XdrReading.{IsBytes, whole}
use Rattle.wire_spec.proofs.Items.{IsItem}
use Rattle.wire_spec.proofs.Made.{IsItem-two}
use Rattle.wire_spec.proofs.Wholes.{whole_again, whole_found}
use Rattle.procedure_spec.specs.Arguments.{HasArguments, IsArguments, IsTarget, argument_items, argument_shape, arguments, target_items, target_shape}
use Rattle.procedure_spec.specs.ArgumentsReading.{asked_by, first_call, request_in, request_with}
use Rattle.procedure_spec.specs.Faults.{xdr}
use Rattle.procedure_spec.specs.Lines.{line}
use Rattle.procedure_spec.specs.Requests.{arguments_of, procedure_of, target_of}
use Rattle.procedure_spec.specs.RequestsReading.{request_of}
use Rattle.procedure_spec.specs.declared.arguments.Arguments.{Arguments}
use Rattle.procedure_spec.specs.declared.arguments.Target.{Target}
use Rattle.procedure_spec.specs.declared.procedure.Procedure.{Procedure}
use Rattle.procedure_spec.specs.declared.table.Row.{Row}
use Rattle.procedure_spec.proofs.ArgumentItems.{IsItem-arguments}
use Rattle.procedure_spec.proofs.Asked.{IsAskedOf, request_again, request_found}
use Rattle.procedure_spec.proofs.LinesAre.{arguments_fit, target_fits}
use Rattle.procedure_spec.proofs.Shaped.{IsShaped}
use Rattle.procedure_spec.proofs.Targets.{IsItem-target}

-- what a call of a line holds
abbrev IsHeld : Row → Target × Arguments → Type 0
IsHeld row x = IsShaped target_shape IsTarget row.target x.0 × IsShaped argument_shape IsArguments row.arguments x.1

abbrev held_items : Target × Arguments → List ℕ
held_items x = target_items x.0 ++ argument_items x.1

IsItem-call : (row : Row) → IsItem (IsHeld row) held_items (first_call row)
IsItem-call row = IsItem-two _ _ _ _ _ _ (IsItem-target row.target) (IsItem-arguments row.arguments)

-- a request of this line's procedure, whose arguments the payload spells
pub record IsOf (row : Row) (payload : List ℕ) (r : Request) : Type 0 where
  pub procedure : procedure_of r ≡ row.procedure
  pub has : HasArguments r
  pub spelled : payload ≡ arguments r

asked_is : (o : Option Request) (r : Request) → asked_by o ≡ Ok r → o ≡ Some r
asked_is None r e = absurd cc
asked_is (Some q) r e = let same : q ≡ r = cc in ap (λ (y : Request). Some y) same

with_found : (p : Procedure) (read : Result (Target × Arguments) XdrFault) (r : Request) → request_with p (xdr read) ≡ Ok r → (x : Target × Arguments) × (read ≡ Ok x) × (request_of p x.0 x.1 ≡ Some r)
with_found p (Ok x) r e = (x, refl, asked_is (request_of p x.0 x.1) r e)
with_found p (Err f) r e = absurd cc

is_of : (row : Row) (payload : List ℕ) (t : Target) (a : Arguments) (r : Request) → IsAskedOf row.procedure t a r → IsTarget t → IsArguments a → payload ≡ target_items t ++ argument_items a → IsOf row payload r
is_of row payload t a r is target others e = record {
  procedure = is.procedure;
  has = record {
    target = subst (λ (y : Target). IsTarget y) (sym is.target) target;
    others = subst (λ (y : Arguments). IsArguments y) (sym is.arguments) others;
  };
  spelled = e ∙ (ap (λ (y : Target). target_items y ++ argument_items a) (sym is.target) ∙ ap (λ (y : Arguments). target_items (target_of r) ++ argument_items y) (sym is.arguments));
}

-- what is read is a request of the procedure, spelled by the payload
pub in_found : (row : Row) (payload : List ℕ) (r : Request) → IsBytes payload → request_in row payload ≡ Ok r → IsOf row payload r
unfolding request_in
in_found row payload r fits e =
    let w = with_found row.procedure (whole (first_call row) payload) r e in
    let f = whole_found (IsHeld row) held_items (first_call row) (IsItem-call row) payload w.0 fits w.1 in
    is_of row payload w.0.0 w.0.1 r (request_found row.procedure w.0.0 w.0.1 r w.2) f.0.0.1 f.0.1.1 f.1

-- a request whose arguments the payload spells is read
pub in_again : (row : Row) (payload : List ℕ) (r : Request) → row ≡ line row.procedure → procedure_of r ≡ row.procedure → HasArguments r → payload ≡ arguments r → request_in row payload ≡ Ok r
unfolding request_in
in_again row payload r same is has e =
    let target : target_shape (target_of r) ≡ row.target = target_fits r ∙ (ap (λ (q : Procedure). (line q).target) is ∙ ap (λ (y : Row). y.target) (sym same)) in
    let others : argument_shape (arguments_of r) ≡ row.arguments = arguments_fit r ∙ (ap (λ (q : Procedure). (line q).arguments) is ∙ ap (λ (y : Row). y.arguments) (sym same)) in
    let read : whole (first_call row) payload ≡ Ok (target_of r, arguments_of r) = whole_again (IsHeld row) held_items (first_call row) (IsItem-call row) payload (target_of r, arguments_of r) ((target, has.target), (others, has.others)) e in
    let asked : request_of row.procedure (target_of r) (arguments_of r) ≡ Some r = subst (λ (q : Procedure). request_of q (target_of r) (arguments_of r) ≡ Some r) is (request_again r) in
    rw (read, asked) refl
