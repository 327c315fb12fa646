-- What a value of the program holds is what a reader asks of it.
use Rattle.std.proofs.Common.{◌≡◌, ◌+◌, ◌≤◌, ◌<◌, ℕ, zero, suc, List, [], ◌∷◌, ◌++◌, length, take, get_or, Result, Ok, refl, arith}
use Rattle.std.specs.Prelude.{OnOk}
use Rattle.std.specs.List.{AllByRecursion}
use Rattle.std.specs.Str.{IsUtf8}
use Rattle.std.proofs.lemmas.List.{length-append}
use Rattle.virt_types.specs.Name.{IsName}
use Rattle.virt_types.specs.Below.types_base.declared.refusal.Refusal.{Refusal}
use Rattle.virt_types.specs.Refusal.{refusal_message, refusal_number}
use Rattle.virt_types.specs.declared.value.Value.{Value}
use Rattle.virt_types.specs.declared.value.Value.TheVariants as value
use Rattle.wire_spec.specs.Packets.{IsPacket}
use Rattle.wire_spec.specs.Xdr.{IsString, fixed, opaque, optional, padding, truth, word}
use Rattle.wire_spec.specs.declared.message.Header.{Header}
use Rattle.packet.specs.Writing.{packet_with}
use Rattle.procedure_spec.specs.Errors.{head, kept_string, refusal_payload, tail}
use Rattle.procedure_spec.specs.ErrorsReading.{error_of}
use Rattle.procedure_spec.specs.Results.{HasParts, HasResult, HasShape, result}
use Rattle.procedure_spec.specs.declared.shape.ResultShape.{ResultShape}
use Rattle.procedure_spec.specs.ResultsReading.{ReadsBack}
use Rattle.procedure_spec.proofs.Answers.{reads_back}
use Rattle.procedure_spec.proofs.Refusals.{error_again}
use Rattle.remote_args.specs.Holding.{Holds}
use Rattle.remote_args.proofs.Written.{on_ok}
use Rattle.procedure_spec.specs.declared.words.TheConstants.{PACKET_BOUND}

-- one more entry
pub entries_more : {A : Type 0} (IsEntry : A → Type 0) (xs : List A) (i : ℕ) (d : A) → i < length xs → AllByRecursion IsEntry (take i xs) → IsEntry (get_or xs i d) → AllByRecursion IsEntry (take (suc i) xs)
entries_more IsEntry [] i d lt all entry = absurd (omega (arith, lt))
entries_more IsEntry (x ∷ xs) zero d lt all entry = (entry, tt)
entries_more IsEntry (x ∷ xs) (suc i) d lt all entry = (all.0, entries_more IsEntry xs i d (omega (arith, lt)) all.1 entry)

opaque_long : (text : List ℕ) → 4 + length text ≤ length (opaque text)
unfolding word
opaque_long text = omega (arith, length-append (word (length text)) (fixed text), length-append text (padding (length text)))

-- what fits a packet has parts that fit
pub has_parts : (v : Value) (s : ResultShape) → HasShape v s → Holds v → 28 + length (result v) ≤ 4194304 → HasParts v
has_parts (value.Domain d) s shaped holds fits = holds
has_parts (value.Network n) s shaped holds fits = holds
has_parts (value.Pool p) s shaped holds fits = holds
has_parts (value.Text t) s shaped holds fits = record { bounded = omega (arith, fits, opaque_long t); text = holds }
has_parts (value.Info i) s shaped holds fits = holds
has_parts (value.Names ns) s shaped holds fits = holds
has_parts (value.Domains rows) s shaped holds fits = holds
has_parts (value.Pools rows) s shaped holds fits = holds
has_parts (value.Job j) s shaped holds fits = holds
has_parts (value.Name n) s shaped holds fits = holds
has_parts (value.Parent p) s shaped holds fits = holds
has_parts (value.Memory n) s shaped holds fits = holds
has_parts (value.Leases rows) s shaped holds fits = holds
has_parts (value.Titles rows) s shaped holds fits = holds
has_parts (value.MigratedText m) s shaped holds fits = record {
  definition = record { bounded = omega (arith, fits, opaque_long m.definition, length-append (opaque m.definition ++ truth m.running) (opaque m.state), length-append (opaque m.definition) (truth m.running)); text = holds };
  state = shaped.1.1;
}
has_parts _ s shaped holds fits = tt

kept_long : (kept : List ℕ) → length kept ≤ length (optional opaque (kept_string kept))
kept_long [] = omega arith
kept_long (b ∷ bs) = omega (arith, length-append (word 1) (opaque (b ∷ bs)), opaque_long (b ∷ bs))

pub kept_fits : (r : Refusal) → IsUtf8 r.kept → 28 + length (refusal_payload r) ≤ 4194304 → IsString PACKET_BOUND r.kept
kept_fits r text fits = record {
  bounded = omega (arith, fits, kept_long r.kept, length-append (head (refusal_number r.code) (refusal_message r.code) ++ optional opaque (kept_string r.kept)) tail, length-append (head (refusal_number r.code) (refusal_message r.code)) (optional opaque (kept_string r.kept)));
  text = text;
}

pub reply_back : {E : Type 0} (h call : Header) (v : Value) (r : Result (List ℕ) E) → HasResult call v → Holds v → OnOk r (IsPacket (packet_with h (result v))) → OnOk r (ReadsBack call v)
reply_back h call v r has holds packet = on_ok r _ _ packet (λ is payload asked asks. reads_back call payload asked v asks has (has_parts v has.row.result has.shaped holds is.length))

pub error_back : {E : Type 0} (h : Header) (refusal : Refusal) (r : Result (List ℕ) E) → IsUtf8 refusal.kept → OnOk r (IsPacket (packet_with h (refusal_payload refusal))) → OnOk r (error_of (refusal_payload refusal) ≡ Ok refusal)
error_back h refusal r text packet = on_ok r _ _ packet (λ is. error_again (refusal_payload refusal) refusal (record { kept = kept_fits refusal text is.length; spelled = refl }))
