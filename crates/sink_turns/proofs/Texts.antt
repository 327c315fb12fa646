-- The text after marks: what was said is what was put and what waits, and nothing follows a fault.
use Rattle.std.proofs.Common.{◌≡◌, ◌<◌, ◌++◌, ℕ, true, false, true≢false, List, [], ◌∷◌, length, take, drop, refl, sym, ap, ◌∙◌, append_assoc, append-nil, arith}
use Rattle.std.proofs.lemmas.Grind.{flat_map-append}
use Rattle.std.proofs.lemmas.List.{length-drop, take-append-drop}
use Rattle.sink_turns.specs.declared.mark.Deed.{Deed}
use Rattle.sink_turns.specs.declared.mark.Deed.TheVariants.{Said, Put, Cut}
use Rattle.sink_turns.specs.declared.mark.Mark.{Mark}
use Rattle.sink_turns.specs.declared.message.Message.{Message}
use Rattle.sink_turns.specs.Laws.{FaultsStay, MessagesAddUp}
use Rattle.sink_turns.specs.Marks.{bytes_of, messages, said}
use Rattle.sink_turns.specs.Text.{AreLawful, MayFollow, Text, after, nothing, text_after}

pub text_more : (t : Text) (xs ys : List Mark) → text_after t (xs ++ ys) ≡ text_after (text_after t xs) ys
text_more t [] ys = refl
text_more t (x ∷ xs) ys = text_more (after t x.deed) xs ys

pub lawful_more : (t : Text) (xs ys : List Mark) → AreLawful t xs → AreLawful (text_after t xs) ys → AreLawful t (xs ++ ys)
lawful_more t [] ys a b = b
lawful_more t (x ∷ xs) ys a b = (a.0, lawful_more (after t x.deed) xs ys a.1 b)

sound_before : (t : Text) (d : Deed) → MayFollow t d → t.cut ≡ false
sound_before t (Said m) h = h
sound_before t Put h = h
sound_before t (Cut n) h = h.0

pub fault_is_last : (t : Text) (marks more : List Mark) → AreLawful t (marks ++ more) → (text_after t marks).cut ≡ true → more ≡ []
fault_is_last t [] [] lawful cut = refl
fault_is_last t [] (m ∷ ms) lawful cut = absurd (true≢false (sym cut ∙ sound_before t m.deed lawful.0))
fault_is_last t (x ∷ xs) more lawful cut = fault_is_last (after t x.deed) xs more lawful.1 cut

pub faults_stay : FaultsStay
faults_stay marks more lawful cut = fault_is_last nothing marks more lawful cut

-- a fault is not forgotten
cut_by : (t : Text) (d : Deed) → t.cut ≡ true → (after t d).cut ≡ true
cut_by t (Said m) h = h
cut_by t Put h = h
cut_by t (Cut n) h = refl

pub cut_stays : (t : Text) (ms : List Mark) → t.cut ≡ true → (text_after t ms).cut ≡ true
cut_stays t [] h = h
cut_stays t (m ∷ ms) h = cut_stays (after t m.deed) ms (cut_by t m.deed h)

abbrev whole : Text → List ℕ
whole t = t.sent ++ t.waits

whole_by : (t : Text) (d : Deed) → whole (after t d) ≡ whole t ++ bytes_of (said d)
whole_by t (Said m) = sym (append_assoc t.sent t.waits m.bytes) ∙ ap (λ (l : List ℕ). (t.sent ++ t.waits) ++ l) (sym (append-nil m.bytes))
whole_by t Put = append-nil (t.sent ++ t.waits) ∙ sym (append-nil (t.sent ++ t.waits))
whole_by t (Cut n) = append_assoc t.sent (take n t.waits) (drop n t.waits) ∙ (ap (λ (l : List ℕ). t.sent ++ l) (take-append-drop n t.waits) ∙ sym (append-nil (t.sent ++ t.waits)))

pub whole_after : (t : Text) (ms : List Mark) → whole (text_after t ms) ≡ whole t ++ bytes_of (messages ms)
whole_after t [] = sym (append-nil (whole t))
whole_after t (m ∷ ms) =
    let rest : List ℕ = bytes_of (messages ms) in
    let apart : bytes_of (said m.deed ++ messages ms) ≡ bytes_of (said m.deed) ++ rest = flat_map-append (λ (x : Message). x.bytes) (said m.deed) (messages ms) in
    whole_after (after t m.deed) ms
    ∙ (ap (λ (l : List ℕ). l ++ rest) (whole_by t m.deed)
    ∙ (append_assoc (whole t) (bytes_of (said m.deed)) rest ∙ ap (λ (l : List ℕ). whole t ++ l) (sym apart)))

pub messages_add_up : MessagesAddUp
messages_add_up marks = whole_after nothing marks

-- where the sink failed, some bytes were not put
left_by_cut : (t : Text) (d : Deed) → (t.cut ≡ true → 0 < length t.waits) → MayFollow t d → (after t d).cut ≡ true → 0 < length (after t d).waits
left_by_cut t (Said m) some may cut = absurd (true≢false (sym cut ∙ may))
left_by_cut t Put some may cut = absurd (true≢false (sym cut ∙ may))
left_by_cut t (Cut n) some may cut = omega (arith, length-drop n t.waits, may.1)

pub cut_leaves : (t : Text) (ms : List Mark) → (t.cut ≡ true → 0 < length t.waits) → AreLawful t ms → (text_after t ms).cut ≡ true → 0 < length (text_after t ms).waits
cut_leaves t [] some lawful cut = some cut
cut_leaves t (m ∷ ms) some lawful cut = cut_leaves (after t m.deed) ms (left_by_cut t m.deed some lawful.0) lawful.1 cut
