-- What was written part by part is the packet or the payload.
use Rattle.std.proofs.Common.{◌≡◌, ◌≤◌, ℕ, List, ◌++◌, Result, Ok, Err, refl, ap, ◌∙◌, append_assoc, arith}
use Rattle.std.specs.Prelude.{OnOk}
use Rattle.virt_types.specs.Below.types_base.declared.refusal.Refusal.{Refusal}
use Rattle.virt_types.specs.declared.request.Request.{Request}
use Rattle.procedure_spec.specs.Arguments.{argument_items, arguments, target_items}
use Rattle.procedure_spec.specs.Calls.{call_header}
use Rattle.procedure_spec.specs.Events.{note_header}
use Rattle.procedure_spec.specs.Requests.{arguments_of, target_of}
use Rattle.procedure_spec.specs.declared.table.Row.{Row}
use Rattle.virt_types.specs.Refusal.{refusal_message, refusal_number}
use Rattle.wire_spec.specs.declared.message.Header.{Header}
use Rattle.wire_spec.specs.Packets.{HasKind}
use Rattle.wire_spec.specs.Xdr.{opaque, optional}
use Rattle.procedure_spec.specs.Errors.{head, kept_string, refusal_payload, tail}
use Rattle.procedure_spec.specs.Results.{reply_header}

pub on_ok : {T E : Type 0} (r : Result T E) (P Q : Type 0) → OnOk r P → (P → Q) → OnOk r Q
on_ok (Ok x) P Q p f = f p
on_ok (Err e) P Q p f = tt

joined : (old a b c : List ℕ) → ((old ++ a) ++ b) ++ c ≡ old ++ ((a ++ b) ++ c)
joined old a b c = simp append_assoc

pub error_parts : (old : List ℕ) (r : Refusal) (one two three : List ℕ) → one ≡ old ++ head (refusal_number r.code) (refusal_message r.code) → two ≡ one ++ optional opaque (kept_string r.kept) → three ≡ two ++ tail → three ≡ old ++ refusal_payload r
error_parts old r one two three e f g =
    g ∙ ap (λ (t : List ℕ). t ++ tail) (f ∙ ap (λ (t : List ℕ). t ++ optional opaque (kept_string r.kept)) e)
    ∙ joined old (head (refusal_number r.code) (refusal_message r.code)) (optional opaque (kept_string r.kept)) tail

pub reply_kind : (h : Header) (status : ℕ) → status ≤ 1 → HasKind (reply_header h status)
reply_kind h status le = record { kind = omega arith; status = omega arith; call = λ e. absurd (omega (arith, e)) }

pub call_kind : (row : Row) (serial : ℕ) → HasKind (call_header row serial)
call_kind row serial = record { kind = omega arith; status = omega arith; call = λ e. refl }

pub note_kind : (number : ℕ) → HasKind (note_header number)
note_kind number = record { kind = omega arith; status = omega arith; call = λ e. absurd (omega (arith, e)) }

pub request_parts : (old one two : List ℕ) (asked : Request) → one ≡ old ++ target_items (target_of asked) → two ≡ one ++ argument_items (arguments_of asked) → two ≡ old ++ arguments asked
request_parts old one two asked e f = f ∙ (ap (λ (t : List ℕ). t ++ argument_items (arguments_of asked)) e ∙ append_assoc old (target_items (target_of asked)) (argument_items (arguments_of asked)))
