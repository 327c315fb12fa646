-- A sink that took bytes, with the marks that say so.
use Rattle.std.proofs.Common.{◌≡◌, ◌<◌, ◌≤◌, ◌++◌, ℕ, Bool, true, false, true≢false, List, [], ◌∷◌, length, take, Option, refl, sym, ap, ◌∙◌, subst, append_assoc, append-nil, arith}
use Rattle.std.proofs.lemmas.List.{map-append}
use Rattle.std.specs.Io.KnownBytes.{Appends}
use Rattle.outside_spec.specs.Faults.{Rose}
use Rattle.packet.proofs.Known.{Appends-none, Appends-then}
use Rattle.sink_turns.specs.declared.mark.Deed.{Deed}
use Rattle.sink_turns.specs.declared.mark.Deed.TheVariants.{Said, Put, Cut}
use Rattle.sink_turns.specs.declared.mark.Mark.{Mark}
use Rattle.sink_turns.specs.declared.mark.Noted.{Noted}
use Rattle.sink_turns.specs.declared.mark.Start.{Start}
use Rattle.sink_turns.specs.declared.message.Message.{Message}
use Rattle.sink_turns.specs.declared.spoken.TheConstants.{MOST_WAITING}
use Rattle.sink_turns.specs.Keeping.{marks_of}
use Rattle.sink_turns.specs.Marks.{marks_by}
use Rattle.sink_turns.specs.Saying.{IsSpoken, Keeps, Spoken}
use Rattle.sink_turns.specs.Text.{AreLawful, Text, text, text_after, nothing}
use Rattle.sink_turns.proofs.Texts.{lawful_more, text_more}

abbrev pub shown : Start → List Noted → Option (List ℕ) → ℕ → Spoken
shown start ss held faults = record { start = start; marks = marks_of ss; held = held; faults = faults }

pub noted_one : (ss new : List Noted) (s : Noted) (m : Mark) → new ≡ ss ++ s ∷ [] → s.mark ≡ m → marks_of new ≡ marks_of ss ++ m ∷ []
noted_one ss new s m e is = ap marks_of e ∙ (map-append (λ (n : Noted). n.mark) ss (s ∷ []) ∙ ap (λ (x : Mark). marks_of ss ++ x ∷ []) is)

pub noted_two : (ss one new : List Noted) (s p : Noted) (m n : Mark) → one ≡ ss ++ s ∷ [] → new ≡ one ++ p ∷ [] → s.mark ≡ m → p.mark ≡ n → marks_of new ≡ marks_of ss ++ m ∷ n ∷ []
noted_two ss one new s p m n e f is it =
    noted_one one new p n f it
    ∙ (ap (λ (l : List Mark). l ++ n ∷ []) (noted_one ss one s m e is)
    ∙ append_assoc (marks_of ss) (m ∷ []) (n ∷ []))

-- the same, once there was room for them
pub noted_first : (ss room new : List Noted) (s : Noted) (m : Mark) → room ≡ ss → new ≡ room ++ s ∷ [] → s.mark ≡ m → marks_of new ≡ marks_of ss ++ m ∷ []
noted_first ss room new s m r e is = noted_one ss new s m (e ∙ ap (λ (l : List Noted). l ++ s ∷ []) r) is

pub noted_both : (ss room one new : List Noted) (s p : Noted) (m n : Mark) → room ≡ ss → one ≡ room ++ s ∷ [] → new ≡ one ++ p ∷ [] → s.mark ≡ m → p.mark ≡ n → marks_of new ≡ marks_of ss ++ m ∷ n ∷ []
noted_both ss room one new s p m n r e f is it = noted_two ss one new s p m n (e ∙ ap (λ (l : List Noted). l ++ s ∷ []) r) f is it

-- a count that rose since later has risen since before
pub rose_before : (a b n : ℕ) → a ≤ b → Rose b n → Rose a n
rose_before a b n le rose = omega (arith, le, rose)

-- these deeds followed, and the sink took these bytes more
keeps_more : (by : ℕ) (deeds : List Deed) (more : List ℕ) (o new : Spoken) (left : List ℕ) (cut : Bool) → IsSpoken o → (then : Text) → text_after (text o.marks) (marks_by by deeds) ≡ then
    → new.start ≡ o.start → new.marks ≡ o.marks ++ marks_by by deeds → AreLawful (text o.marks) (marks_by by deeds)
    → then.sent ≡ (text o.marks).sent ++ more → Appends o.held new.held more → o.faults ≤ new.faults → (then.cut ≡ true → Rose o.start.faults new.faults) → cut ≡ then.cut → (cut ≡ false → left ≡ then.waits) → length left ≤ MOST_WAITING
    → Keeps new left cut
keeps_more by deeds more o new left cut was then is start marks lawful sent took later cause cut_is waits within =
    let e : text new.marks ≡ then = ap text marks ∙ (text_more nothing o.marks (marks_by by deeds) ∙ is) in
    let s : (text new.marks).sent ≡ (text o.marks).sent ++ more = ap (λ (t : Text). t.sent) e ∙ sent in
    record {
      spoken = record {
        lawful = subst (AreLawful nothing) (sym marks) (lawful_more nothing o.marks (marks_by by deeds) was.lawful lawful);
        bytes = subst (λ (z : Start × List ℕ). Appends z.0.held new.held z.1) (λ i. (sym start i, sym s i)) (Appends-then o.start.held o.held new.held (text o.marks).sent more was.bytes took);
        later = subst (λ (z : Start). z.faults ≤ new.faults) (sym start) (omega (arith, was.later, later));
        cause = λ c. subst (λ (z : Start). Rose z.faults new.faults) (sym start) (cause (sym (ap (λ (t : Text). t.cut) e) ∙ c));
      };
      cut_is = cut_is ∙ sym (ap (λ (t : Text). t.cut) e);
      waits_are = λ c. waits c ∙ sym (ap (λ (t : Text). t.waits) e);
      within = within;
    }

module _ (by : ℕ) (m : Message) (o new : Spoken) (waits : List ℕ) (cut : Bool) (was : Keeps o waits cut) (start : new.start ≡ o.start) where
  -- a message waits
  pub keeps_said : (left : List ℕ) (now : Bool) → cut ≡ false → now ≡ cut → new.marks ≡ o.marks ++ marks_by by (Said m ∷ []) → new.held ≡ o.held → new.faults ≡ o.faults → left ≡ waits ++ m.bytes → length left ≤ MOST_WAITING → Keeps new left now
  keeps_said left now sound same marks held faults is within =
      let calm : (text o.marks).cut ≡ false = sym was.cut_is ∙ sound in
      keeps_more by (Said m ∷ []) [] o new left now was.spoken (text_after (text o.marks) (marks_by by (Said m ∷ []))) refl start marks (calm, tt)
      (sym (append-nil (text o.marks).sent)) (subst (λ (k : Option (List ℕ)). Appends o.held k []) (sym held) (Appends-none o.held)) (omega (arith, faults))
      (λ c. absurd (true≢false (sym c ∙ calm))) (same ∙ was.cut_is) (λ _. is ∙ ap (λ (l : List ℕ). l ++ m.bytes) (was.waits_are sound)) within

  -- all that waited and a message were put
  pub keeps_put : (left : List ℕ) (now : Bool) → cut ≡ false → now ≡ cut → new.marks ≡ o.marks ++ marks_by by (Said m ∷ Put ∷ []) → Appends o.held new.held (waits ++ m.bytes) → o.faults ≤ new.faults → left ≡ [] → Keeps new left now
  keeps_put left now sound same marks took later none =
      let calm : (text o.marks).cut ≡ false = sym was.cut_is ∙ sound in
      keeps_more by (Said m ∷ Put ∷ []) (waits ++ m.bytes) o new left now was.spoken (text_after (text o.marks) (marks_by by (Said m ∷ Put ∷ []))) refl start marks (calm, (calm, tt))
      (ap (λ (l : List ℕ). (text o.marks).sent ++ (l ++ m.bytes)) (sym (was.waits_are sound))) took later
      (λ c. absurd (true≢false (sym c ∙ calm))) (same ∙ was.cut_is) (λ _. none) (omega (arith, ap length none))

  -- the sink failed once it took so many bytes of these
  pub keeps_cut : (left : List ℕ) (n : ℕ) → cut ≡ false → new.marks ≡ o.marks ++ marks_by by (Said m ∷ Cut n ∷ []) → n < length (waits ++ m.bytes) → Appends o.held new.held (take n (waits ++ m.bytes)) → o.faults ≤ new.faults → Rose o.faults new.faults
      → length left ≤ MOST_WAITING → Keeps new left true
  keeps_cut left n sound marks lt took later rose within =
      let calm : (text o.marks).cut ≡ false = sym was.cut_is ∙ sound in
      let w : waits ≡ (text o.marks).waits = was.waits_are sound in
      keeps_more by (Said m ∷ Cut n ∷ []) (take n (waits ++ m.bytes)) o new left true was.spoken (text_after (text o.marks) (marks_by by (Said m ∷ Cut n ∷ []))) refl start marks
      (calm, ((calm, subst (λ (l : List ℕ). n < length (l ++ m.bytes)) w lt), tt))
      (ap (λ (l : List ℕ). (text o.marks).sent ++ take n (l ++ m.bytes)) (sym w)) took later
      (λ c. rose_before o.start.faults o.faults new.faults was.spoken.later rose) refl (λ c. absurd (true≢false c)) within

module _ (by : ℕ) (o new : Spoken) (waits : List ℕ) (cut : Bool) (was : Keeps o waits cut) (start : new.start ≡ o.start) where
  -- all that waited was put
  pub keeps_flushed : (left : List ℕ) (now : Bool) → cut ≡ false → now ≡ cut → new.marks ≡ o.marks ++ marks_by by (Put ∷ []) → Appends o.held new.held waits → o.faults ≤ new.faults → left ≡ [] → Keeps new left now
  keeps_flushed left now sound same marks took later none =
      let calm : (text o.marks).cut ≡ false = sym was.cut_is ∙ sound in
      keeps_more by (Put ∷ []) waits o new left now was.spoken (text_after (text o.marks) (marks_by by (Put ∷ []))) refl start marks (calm, tt)
      (ap (λ (l : List ℕ). (text o.marks).sent ++ l) (sym (was.waits_are sound))) took later
      (λ c. absurd (true≢false (sym c ∙ calm))) (same ∙ was.cut_is) (λ _. none) (omega (arith, ap length none))

  -- the sink failed meanwhile
  pub keeps_failed : (left : List ℕ) (n : ℕ) → cut ≡ false → new.marks ≡ o.marks ++ marks_by by (Cut n ∷ []) → n < length waits → Appends o.held new.held (take n waits) → o.faults ≤ new.faults → Rose o.faults new.faults → length left ≤ MOST_WAITING → Keeps new left true
  keeps_failed left n sound marks lt took later rose within =
      let calm : (text o.marks).cut ≡ false = sym was.cut_is ∙ sound in
      let w : waits ≡ (text o.marks).waits = was.waits_are sound in
      keeps_more by (Cut n ∷ []) (take n waits) o new left true was.spoken (text_after (text o.marks) (marks_by by (Cut n ∷ []))) refl start marks
      ((calm, subst (λ (l : List ℕ). n < length l) w lt), tt)
      (ap (λ (l : List ℕ). (text o.marks).sent ++ take n l) (sym w)) took later
      (λ c. rose_before o.start.faults o.faults new.faults was.spoken.later rose) refl (λ c. absurd (true≢false c)) within
