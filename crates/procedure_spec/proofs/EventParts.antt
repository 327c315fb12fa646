-- A note is read from a message exactly where the message is that of the note.
use Rattle.std.proofs.Common.{◌≡◌, ◌==◌, ℕ, ◌+◌, ◌<◌, ◌^◌, Bool, true, false, cond, List, ◌++◌, length, Option, None, Some, Result, Ok, Err, refl, sym, ap, subst, ◌∙◌, lit<}
use Rattle.std.specs.Prelude.{negsuc}
use Rattle.std.proofs.lemmas.Bool.{eqb-true}
use Rattle.virt_types.specs.Below.types_base.declared.transition.Transition.{Transition}
use Rattle.virt_types.specs.declared.value.Note.{Note}
use Rattle.virt_types.specs.declared.value.Note.TheVariants as note
use Rattle.wire_spec.specs.Xdr.{IsWord, fixed, integer, opaque, word}
use Rattle.wire_spec.specs.XdrAnswer.{Takes}
use Rattle.wire_spec.specs.XdrReading.{IsBytes, Left, first_fixed, first_word}
use Rattle.wire_spec.specs.declared.message.Header.{Header}
use Rattle.wire_spec.proofs.Items.{taken}
use Rattle.wire_spec.proofs.Steps.{Takes-then}
use Rattle.procedure_spec.specs.Events.{HasItems, IsNote, note_items, note_header, note_number, noted}
use Rattle.procedure_spec.specs.EventsReading.{IsReadBack, first_event, first_lost, first_no_number, no_number, note_in, note_of}
use Rattle.procedure_spec.specs.Reading.{◌>>=◌, all, item}
use Rattle.procedure_spec.specs.ResultItems.{IsObjectReference}
use Rattle.procedure_spec.specs.ResultItemsReading.{first_name}
use Rattle.procedure_spec.specs.declared.fault.ArgFault.{ArgFault}
use Rattle.procedure_spec.specs.declared.fault.ArgFault.TheVariants as fault
use Rattle.procedure_spec.proofs.NameParts.{IsPart-name}
use Rattle.procedure_spec.proofs.Parts.{IsPart, IsPart-as, all_again, all_found, bind_ok, ok_is}
use Rattle.procedure_spec.proofs.ResultParts.{IsMeant, IsPart-meant, after_3, after_5, part_fixed, part_word, parts_3, parts_5}
use Rattle.procedure_spec.specs.declared.table.TheConstants.{OWN}
use Rattle.procedure_spec.specs.declared.words.TheConstants.{EVENT, EVENT_LOST, VERSION}

-- ---- the number that is always -1

number_found : (b : Bool) (n : ℕ) (u : Unit {0}) → (n == 0xffffffff) ≡ b → (let o : Option (Unit {0}) = cond b (Some tt) None in o ≡ Some u) → 0xffffffff ≡ n
number_found true n u t e = sym (eqb-true n 0xffffffff t)
number_found false n u t e = absurd cc

unsigned_part : IsPart (λ (u : Unit {0}). Unit {0}) (λ u. word 0xffffffff) first_no_number
unfolding first_no_number
unsigned_part = IsPart-meant IsWord word (item first_word) (λ (u : Unit {0}). 0xffffffff) no_number part_word (record { small = λ u. lit< tt; found = λ n u e. number_found (n == 0xffffffff) n u refl e; again = λ u. refl })

part_no_number : IsPart (λ (u : Unit {0}). Unit {0}) (λ u. integer (negsuc 0)) first_no_number
part_no_number = IsPart-as (λ (u : Unit {0}). Unit {0}) (λ u. word 0xffffffff) (λ u. integer (negsuc 0)) first_no_number (λ u. refl) unsigned_part

-- ---- what came about

-- a note of this kind that has a spelling
abbrev IsEvent : Note → Type 0
IsEvent (note.Event name uuid t) = HasItems (note.Event name uuid t)
IsEvent (note.Lost name uuid) = ⊥

event_found : (l : Left) (x : Note × Left) → IsBytes l.bytes → first_event l ≡ Ok x → IsEvent x.0 × Takes l (note_items x.0) x.1 × IsBytes x.1.bytes
unfolding first_event
event_found l x fits e =
    let e1 = bind_ok (first_name l) (λ name. item (first_fixed 16) name.1 >>= λ uuid. first_no_number uuid.1 >>= λ number. item first_word number.1 >>= λ event. item first_word event.1 >>= λ detail. Ok (note.Event name.0 uuid.0 (record { event = event.0; detail = detail.0 }), detail.1)) x e in
    let e2 = bind_ok (item (first_fixed 16) e1.0.1) (λ uuid. first_no_number uuid.1 >>= λ number. item first_word number.1 >>= λ event. item first_word event.1 >>= λ detail. Ok (note.Event e1.0.0 uuid.0 (record { event = event.0; detail = detail.0 }), detail.1)) x e1.2 in
    let e3 = bind_ok (first_no_number e2.0.1) (λ number. item first_word number.1 >>= λ event. item first_word event.1 >>= λ detail. Ok (note.Event e1.0.0 e2.0.0 (record { event = event.0; detail = detail.0 }), detail.1)) x e2.2 in
    let e4 = bind_ok (item first_word e3.0.1) (λ event. item first_word event.1 >>= λ detail. Ok (note.Event e1.0.0 e2.0.0 (record { event = event.0; detail = detail.0 }), detail.1)) x e3.2 in
    let e5 = bind_ok (item first_word e4.0.1) (λ detail. Ok (note.Event e1.0.0 e2.0.0 (record { event = e4.0.0; detail = detail.0 }), detail.1)) x e4.2 in
    let f1 = IsPart-name.found l e1.0 fits e1.1 in
    let f2 = part_fixed.found e1.0.1 e2.0 f1.2 e2.1 in
    let f3 = part_no_number.found e2.0.1 e3.0 f2.2 e3.1 in
    let f4 = part_word.found e3.0.1 e4.0 f3.2 e4.1 in
    let f5 = part_word.found e4.0.1 e5.0 f4.2 e5.1 in
    let t : Transition = record { event = e4.0.0; detail = e5.0.0 } in
    let n : Note = note.Event e1.0.0 e2.0.0 t in
    let t2 : Takes l (opaque e1.0.0 ++ fixed e2.0.0) e2.0.1 = Takes-then l e1.0.1 e2.0.1 (opaque e1.0.0) (fixed e2.0.0) f1.1 f2.1 in
    let t3 : Takes l (noted e1.0.0 e2.0.0) e3.0.1 = Takes-then l e2.0.1 e3.0.1 (opaque e1.0.0 ++ fixed e2.0.0) (integer (negsuc 0)) t2 f3.1 in
    let t4 : Takes l (noted e1.0.0 e2.0.0 ++ word e4.0.0) e4.0.1 = Takes-then l e3.0.1 e4.0.1 (noted e1.0.0 e2.0.0) (word e4.0.0) t3 f4.1 in
    let t5 : Takes l (noted e1.0.0 e2.0.0 ++ word e4.0.0 ++ word e5.0.0) e5.0.1 = Takes-then l e4.0.1 e5.0.1 (noted e1.0.0 e2.0.0 ++ word e4.0.0) (word e5.0.0) t4 f5.1 in
    let here : IsEvent n × Takes l (note_items n) e5.0.1 × IsBytes e5.0.1.bytes = ((record { name = f1.0; uuid = f2.0 }, f4.0, f5.0), t5, f5.2) in
    subst (λ (y : Note × Left). IsEvent y.0 × Takes l (note_items y.0) y.1 × IsBytes y.1.bytes) (ok_is (n, e5.0.1) x e5.2) here

event_again : (l : Left) (n : Note) (rest : List ℕ) → IsEvent n → l.bytes ≡ note_items n ++ rest → first_event l ≡ Ok (taken l n (note_items n) rest)
unfolding first_event
event_again l (note.Event name uuid t) rest is e =
    let r1 = IsPart-name.again l name (fixed uuid ++ (integer (negsuc 0) ++ (word t.event ++ (word t.detail ++ rest)))) is.0.name (e ∙ parts_5 (opaque name) (fixed uuid) (integer (negsuc 0)) (word t.event) (word t.detail) rest) in
    let l1 = (taken l name (opaque name) (fixed uuid ++ (integer (negsuc 0) ++ (word t.event ++ (word t.detail ++ rest))))).1 in
    let r2 = part_fixed.again l1 uuid (integer (negsuc 0) ++ (word t.event ++ (word t.detail ++ rest))) is.0.uuid refl in
    let l2 = (taken l1 uuid (fixed uuid) (integer (negsuc 0) ++ (word t.event ++ (word t.detail ++ rest)))).1 in
    let none : Unit {0} = tt in
    let r3 = part_no_number.again l2 none (word t.event ++ (word t.detail ++ rest)) tt refl in
    let l3 = (taken l2 none (integer (negsuc 0)) (word t.event ++ (word t.detail ++ rest))).1 in
    let r4 = part_word.again l3 t.event (word t.detail ++ rest) is.1 refl in
    let l4 = (taken l3 t.event (word t.event) (word t.detail ++ rest)).1 in
    let r5 = part_word.again l4 t.detail rest is.2 refl in
    rw (r1, r2, r3, r4, r5, after_5 (opaque name) (fixed uuid) (integer (negsuc 0)) (word t.event) (word t.detail) l.place) refl
event_again l (note.Lost name uuid) rest is e = absurd is

part_event : IsPart IsEvent note_items first_event
part_event = record { found = event_found; again = event_again }

-- ---- what was lost

abbrev IsLoss : Note → Type 0
IsLoss (note.Event name uuid t) = ⊥
IsLoss (note.Lost name uuid) = HasItems (note.Lost name uuid)

lost_found : (l : Left) (x : Note × Left) → IsBytes l.bytes → first_lost l ≡ Ok x → IsLoss x.0 × Takes l (note_items x.0) x.1 × IsBytes x.1.bytes
unfolding first_lost
lost_found l x fits e =
    let e1 = bind_ok (first_name l) (λ name. item (first_fixed 16) name.1 >>= λ uuid. first_no_number uuid.1 >>= λ number. Ok (note.Lost name.0 uuid.0, number.1)) x e in
    let e2 = bind_ok (item (first_fixed 16) e1.0.1) (λ uuid. first_no_number uuid.1 >>= λ number. Ok (note.Lost e1.0.0 uuid.0, number.1)) x e1.2 in
    let e3 = bind_ok (first_no_number e2.0.1) (λ number. Ok (note.Lost e1.0.0 e2.0.0, number.1)) x e2.2 in
    let f1 = IsPart-name.found l e1.0 fits e1.1 in
    let f2 = part_fixed.found e1.0.1 e2.0 f1.2 e2.1 in
    let f3 = part_no_number.found e2.0.1 e3.0 f2.2 e3.1 in
    let n : Note = note.Lost e1.0.0 e2.0.0 in
    let t2 : Takes l (opaque e1.0.0 ++ fixed e2.0.0) e2.0.1 = Takes-then l e1.0.1 e2.0.1 (opaque e1.0.0) (fixed e2.0.0) f1.1 f2.1 in
    let t3 : Takes l (noted e1.0.0 e2.0.0) e3.0.1 = Takes-then l e2.0.1 e3.0.1 (opaque e1.0.0 ++ fixed e2.0.0) (integer (negsuc 0)) t2 f3.1 in
    let here : IsLoss n × Takes l (note_items n) e3.0.1 × IsBytes e3.0.1.bytes = (record { name = f1.0; uuid = f2.0 }, t3, f3.2) in
    subst (λ (y : Note × Left). IsLoss y.0 × Takes l (note_items y.0) y.1 × IsBytes y.1.bytes) (ok_is (n, e3.0.1) x e3.2) here

lost_again : (l : Left) (n : Note) (rest : List ℕ) → IsLoss n → l.bytes ≡ note_items n ++ rest → first_lost l ≡ Ok (taken l n (note_items n) rest)
unfolding first_lost
lost_again l (note.Event name uuid t) rest is e = absurd is
lost_again l (note.Lost name uuid) rest is e =
    let r1 = IsPart-name.again l name (fixed uuid ++ (integer (negsuc 0) ++ rest)) is.name (e ∙ parts_3 (opaque name) (fixed uuid) (integer (negsuc 0)) rest) in
    let l1 = (taken l name (opaque name) (fixed uuid ++ (integer (negsuc 0) ++ rest))).1 in
    let r2 = part_fixed.again l1 uuid (integer (negsuc 0) ++ rest) is.uuid refl in
    let l2 = (taken l1 uuid (fixed uuid) (integer (negsuc 0) ++ rest)).1 in
    let none : Unit {0} = tt in
    let r3 = part_no_number.again l2 none rest tt refl in
    rw (r1, r2, r3, after_3 (opaque name) (fixed uuid) (integer (negsuc 0)) l.place) refl

part_lost : IsPart IsLoss note_items first_lost
part_lost = record { found = lost_found; again = lost_again }

-- ---- whole messages

-- the note that a number and a payload are
record IsNumbered (number : ℕ) (payload : List ℕ) (n : Note) : Type 0 where
  at : number ≡ note_number n
  items : HasItems n
  spelled : payload ≡ note_items n

of_event : (number : ℕ) (payload : List ℕ) (n : Note) → number ≡ EVENT → IsEvent n → payload ≡ note_items n → IsNumbered number payload n
of_event number payload (note.Event name uuid t) at is e = record { at = at; items = is; spelled = e }
of_event number payload (note.Lost name uuid) at is e = absurd is

of_loss : (number : ℕ) (payload : List ℕ) (n : Note) → number ≡ EVENT_LOST → IsLoss n → payload ≡ note_items n → IsNumbered number payload n
of_loss number payload (note.Event name uuid t) at is e = absurd is
of_loss number payload (note.Lost name uuid) at is e = record { at = at; items = is; spelled = e }

-- a choice that gave a value
chosen : (b : Bool) (r other : Result Note ArgFault) (f : ArgFault) (n : Note) → other ≡ Err f → cond b r other ≡ Ok n → (b ≡ true) × (r ≡ Ok n)
chosen true r other f n is e = (refl, e)
chosen false r other f n is e = absurd (cc (is, e))

second_found : (number : ℕ) (payload : List ℕ) (n : Note) (b : Bool) → IsBytes payload → (number == EVENT_LOST) ≡ b → cond b (all first_lost payload) (Err fault.Procedure) ≡ Ok n → IsNumbered number payload n
second_found number payload n true fits t e =
    let f = all_found IsLoss note_items first_lost part_lost payload n fits e in
    of_loss number payload n (eqb-true number EVENT_LOST t) f.0 f.1
second_found number payload n false fits t e = absurd cc

first_found : (number : ℕ) (payload : List ℕ) (n : Note) (b : Bool) → IsBytes payload → (number == EVENT) ≡ b → cond b (all first_event payload) (cond (number == EVENT_LOST) (all first_lost payload) (Err fault.Procedure)) ≡ Ok n → IsNumbered number payload n
first_found number payload n true fits t e =
    let f = all_found IsEvent note_items first_event part_event payload n fits e in
    of_event number payload n (eqb-true number EVENT t) f.0 f.1
first_found number payload n false fits t e = second_found number payload n (number == EVENT_LOST) fits refl e

pub note_found : (h : Header) (payload : List ℕ) (n : Note) → IsBytes payload → note_of h payload ≡ Ok n → IsNote h payload n
unfolding note_of
note_found h payload n fits e =
    let program = chosen (h.prog == OWN) (cond (h.vers == VERSION) (note_in h.procedure payload) (Err fault.Version)) (Err fault.Program) fault.Program n refl e in
    let version = chosen (h.vers == VERSION) (note_in h.procedure payload) (Err fault.Version) fault.Version n refl program.1 in
    let f = first_found h.procedure payload n (h.procedure == EVENT) fits refl version.1 in
    record { program = eqb-true h.prog OWN program.0; version = eqb-true h.vers VERSION version.0; number = f.at; items = f.items; spelled = f.spelled }

numbered_again : (payload : List ℕ) (n : Note) → HasItems n → payload ≡ note_items n → note_in (note_number n) payload ≡ Ok n
numbered_again payload (note.Event name uuid t) is e = all_again IsEvent note_items first_event part_event payload (note.Event name uuid t) is e
numbered_again payload (note.Lost name uuid) is e = all_again IsLoss note_items first_lost part_lost payload (note.Lost name uuid) is e

pub note_again : (h : Header) (payload : List ℕ) (n : Note) → IsNote h payload n → note_of h payload ≡ Ok n
unfolding note_of
note_again h payload n is = rw (is.program, is.version, is.number) (numbered_again payload n is.items is.spelled)

-- the message of a note is read as it
pub note_back : (n : Note) → HasItems n → IsReadBack n
note_back n is = note_again (note_header (note_number n)) (note_items n) n (record { program = refl; version = refl; number = refl; items = is; spelled = refl })
