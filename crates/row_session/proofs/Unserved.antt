-- A call that is refused for its number, and any other, as they are read.
use Rattle.std.proofs.Common.{◌≡◌, ◌==◌, ◌&&◌, not, Bool, true, false, List, ℕ, Option, None, Some, Result, Ok, Err, refl, ap, ◌∙◌}
use Rattle.std.specs.Prelude.{if◌then◌else◌}
use Rattle.procedure_spec.specs.Calls.{call_of, in_line, is_program, known_line, line_of}
use Rattle.procedure_spec.specs.Procedures.{row_of}
use Rattle.procedure_spec.specs.declared.fault.ArgFault.{ArgFault}
use Rattle.procedure_spec.specs.declared.fault.ArgFault.TheVariants as fault
use Rattle.procedure_spec.specs.declared.procedure.Procedure.{Procedure}
use Rattle.procedure_spec.specs.declared.table.Row.{Row}
use Rattle.procedure_spec.specs.declared.words.TheConstants.{VERSION}
use Rattle.row_session.specs.Reading.{is_unserved}
use Rattle.service_spec.specs.Reading.{is_read, read_line, read_of}
use Rattle.virt_types.specs.declared.request.Request.{Request}
use Rattle.wire_spec.specs.declared.message.Header.{Header}

others : (serves : Procedure → Bool) (a b : Bool) (found : Result Row ArgFault) → (a && b) ≡ false → is_unserved serves (if a then (if b then found else Err fault.Version) else Err fault.Program) ≡ false
others serves true true found e = absurd cc
others serves true false found e = refl
others serves false b found e = refl

ours : (serves : Procedure → Bool) (a b : Bool) (found : Result Row ArgFault) → (a && b) ≡ true → is_unserved serves (if a then (if b then found else Err fault.Version) else Err fault.Program) ≡ is_unserved serves found
ours serves true true found e = refl
ours serves true false found e = absurd cc
ours serves false b found e = absurd cc

pub not_ours : (serves : Procedure → Bool) (h : Header) → (is_program h.prog && (h.vers == VERSION)) ≡ false → is_unserved serves (line_of h) ≡ false
unfolding line_of
not_ours serves h e = others serves (is_program h.prog) (h.vers == VERSION) (known_line (row_of h.prog h.procedure)) e

pub ours_row : (serves : Procedure → Bool) (h : Header) (row : Row) → (is_program h.prog && (h.vers == VERSION)) ≡ true → row_of h.prog h.procedure ≡ Some row → is_unserved serves (line_of h) ≡ not (is_read serves row.procedure)
unfolding line_of
ours_row serves h row e is = ours serves (is_program h.prog) (h.vers == VERSION) (known_line (row_of h.prog h.procedure)) e ∙ ap (λ (o : Option Row). is_unserved serves (known_line o)) is

pub ours_none : (serves : Procedure → Bool) (h : Header) → (is_program h.prog && (h.vers == VERSION)) ≡ true → row_of h.prog h.procedure ≡ None → is_unserved serves (line_of h) ≡ false
unfolding line_of
ours_none serves h e is = ours serves (is_program h.prog) (h.vers == VERSION) (known_line (row_of h.prog h.procedure)) e ∙ ap (λ (o : Option Row). is_unserved serves (known_line o)) is

unread_row : (is : Bool) (row : Row) → not is ≡ true → (let r : Result Row ArgFault = if is then Ok row else Err fault.Procedure in r) ≡ Err fault.Procedure
unread_row true row e = absurd cc
unread_row false row e = refl

read_row : (is : Bool) (row : Row) → not is ≡ false → (let r : Result Row ArgFault = if is then Ok row else Err fault.Procedure in r) ≡ Ok row
read_row true row e = refl
read_row false row e = absurd cc

unread_line : (serves : Procedure → Bool) (line : Result Row ArgFault) → is_unserved serves line ≡ true → read_line serves line ≡ Err fault.Procedure
unread_line serves (Ok row) e = unread_row (is_read serves row.procedure) row e
unread_line serves (Err bad) e = absurd cc

same_line : (serves : Procedure → Bool) (line : Result Row ArgFault) → is_unserved serves line ≡ false → read_line serves line ≡ line
same_line serves (Ok row) e = read_row (is_read serves row.procedure) row e
same_line serves (Err bad) e = refl

pub unserved_read : (serves : Procedure → Bool) (h : Header) (payload : List ℕ) → is_unserved serves (line_of h) ≡ true → read_of serves h payload ≡ Err fault.Procedure
unfolding read_of
unserved_read serves h payload e = ap (λ (line : Result Row ArgFault). in_line line payload) (unread_line serves (line_of h) e)

pub served_read : (serves : Procedure → Bool) (h : Header) (payload : List ℕ) → is_unserved serves (line_of h) ≡ false → read_of serves h payload ≡ call_of h payload
unfolding read_of call_of
served_read serves h payload e = ap (λ (line : Result Row ArgFault). in_line line payload) (same_line serves (line_of h) e)
