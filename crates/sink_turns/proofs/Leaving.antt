-- What a message or a flush leaves, as its caller sees it.
use Rattle.std.proofs.Common.{◌≡◌, ◌<◌, ◌≤◌, ◌++◌, ℕ, Bool, true, false, List, [], ◌∷◌, length, take, Result, Ok, Err, OnOk, OnErr, IfErr, inl, inr, refl, sym, ap, ◌∙◌, subst, append-nil, if◌then◌else◌, arith}
use Rattle.std.specs.Io.KnownBytes.{Appends}
use Rattle.outside_spec.specs.Faults.{Rose}
use Rattle.sink_turns.specs.declared.mark.Deed.{Deed}
use Rattle.sink_turns.specs.declared.mark.Deed.TheVariants.{Said, Put, Cut}
use Rattle.sink_turns.specs.declared.message.Message.{Message}
use Rattle.sink_turns.specs.declared.spoken.TheConstants.{MOST_WAITING}
use Rattle.sink_turns.specs.Marks.{marks_by}
use Rattle.sink_turns.specs.declared.spoken.Unsaid.{Unsaid}
use Rattle.sink_turns.specs.declared.spoken.Unsaid.TheVariants.{SinkFault, NoMemory}
use Rattle.sink_turns.specs.Saying.{Adds, Keeps, Puts, Says, Spoken, does_wait}
use Rattle.sink_turns.specs.Text.{text}
use Rattle.sink_turns.proofs.Noting.{keeps_cut, keeps_failed, keeps_flushed, keeps_put, keeps_said}

-- it has not failed
pub calm_of : (o now : Spoken) (waits : List ℕ) (cut : Bool) → Keeps o waits cut → o ≡ now → cut ≡ false → (text now.marks).cut ≡ false
calm_of o now waits cut was view sound = ap (λ (s : Spoken). (text s.marks).cut) (sym view) ∙ (sym was.cut_is ∙ sound)

module _ (o now : Spoken) (waits : List ℕ) (cut : Bool) (was : Keeps o waits cut) (view : o ≡ now) (calm : (text now.marks).cut ≡ false) where
  sound : cut ≡ false
  sound = was.cut_is ∙ (ap (λ (s : Spoken). (text s.marks).cut) view ∙ calm)

  these_wait : waits ≡ (text now.marks).waits
  these_wait = was.waits_are sound ∙ ap (λ (s : Spoken). (text s.marks).waits) view

  -- a front of what waits, and of that and a message
  pub within_all : (n : ℕ) → n < length waits → n < length (text now.marks).waits
  within_all n lt = subst (λ (l : List ℕ). n < length l) these_wait lt

  pub within_both : (n : ℕ) (bytes : List ℕ) → n < length (waits ++ bytes) → n < length ((text now.marks).waits ++ bytes)
  within_both n bytes lt = subst (λ (l : List ℕ). n < length (l ++ bytes)) these_wait lt

module _ (by : ℕ) (o now new : Spoken) (waits : List ℕ) (cut : Bool) (was : Keeps o waits cut) (view : o ≡ now) (calm : (text now.marks).cut ≡ false) (start : new.start ≡ o.start) where
  is_sound : cut ≡ false
  is_sound = sound o now waits cut was view calm

  pub adds : (deeds : List Deed) → new.marks ≡ o.marks ++ marks_by by deeds → Adds by deeds now new
  adds deeds marks = record {
    start = start ∙ ap (λ (s : Spoken). s.start) view;
    marks = marks ∙ ap (λ (s : Spoken). s.marks ++ marks_by by deeds) view;
  }

  pub left_said : (m : Message) (left : List ℕ) → length ((text now.marks).waits ++ m.bytes) ≤ MOST_WAITING → new.marks ≡ o.marks ++ marks_by by (Said m ∷ []) → new.held ≡ o.held → new.faults ≡ o.faults → left ≡ waits ++ m.bytes → Keeps new left cut
  left_said m left room marks held faults is =
      let all : left ≡ (text now.marks).waits ++ m.bytes = is ∙ ap (λ (l : List ℕ). l ++ m.bytes) (these_wait o now waits cut was view calm) in
      keeps_said by m o new waits cut was start left cut is_sound refl marks held faults is (subst (λ (l : List ℕ). length l ≤ MOST_WAITING) (sym all) room)

  pub put_said : (m : Message) (left : List ℕ) → new.marks ≡ o.marks ++ marks_by by (Said m ∷ Put ∷ []) → Appends o.held new.held (waits ++ m.bytes) → o.faults ≤ new.faults → left ≡ [] → Keeps new left cut
  put_said m left marks took later none = keeps_put by m o new waits cut was start left cut is_sound refl marks took later none

  pub cut_said : (m : Message) (left : List ℕ) (n : ℕ) → new.marks ≡ o.marks ++ marks_by by (Said m ∷ Cut n ∷ []) → n < length (waits ++ m.bytes) → Appends o.held new.held (take n (waits ++ m.bytes)) → o.faults ≤ new.faults → Rose o.faults new.faults → left ≡ [] → Keeps new left true
  cut_said m left n marks lt took later rose none = keeps_cut by m o new waits cut was start left n is_sound marks lt took later rose (omega (arith, ap length none))

  pub flushed : (left : List ℕ) → new.marks ≡ o.marks ++ marks_by by (Put ∷ []) → Appends o.held new.held waits → o.faults ≤ new.faults → left ≡ [] → Keeps new left cut
  flushed left marks took later none = keeps_flushed by o new waits cut was start left cut is_sound refl marks took later none

  pub failed : (left : List ℕ) (n : ℕ) → new.marks ≡ o.marks ++ marks_by by (Cut n ∷ []) → n < length waits → Appends o.held new.held (take n waits) → o.faults ≤ new.faults → Rose o.faults new.faults → length left ≤ MOST_WAITING → Keeps new left true
  failed left n marks lt took later rose within = keeps_failed by o new waits cut was start left n is_sound marks lt took later rose within

adds_nothing : (by : ℕ) (old new : Spoken) → new ≡ old → Adds by [] old new
adds_nothing by old new same = record {
  start = ap (λ (s : Spoken). s.start) same;
  marks = ap (λ (s : Spoken). s.marks) same ∙ sym (append-nil old.marks);
}

pub said_failed : (by : ℕ) (m : Message) (more : Bool) (old : Spoken) → (text old.marks).cut ≡ true → Says by m more (Err SinkFault) old old
said_failed by m more old cut = ([], adds_nothing by old old refl, inl (cut, refl))

-- a message that has room was left, where its sender has more to say
pub said_left : (by : ℕ) (m : Message) (more : Bool) (r : Result (Unit {0}) Unsaid) (old new : Spoken) → (text old.marks).cut ≡ false → does_wait (text old.marks) m more ≡ true → OnOk r (Adds by (Said m ∷ []) old new) → IfErr r (λ why. why ≡ NoMemory)
    → OnErr r (new ≡ old) → Says by m more r old new
said_left by m more (Ok u) old new calm waits ok why same = (Said m ∷ [], ok, (calm, ap (λ (x : Bool). Said m ∷ (if x then [] else Put ∷ [])) (sym waits)))
said_left by m more (Err SinkFault) old new calm waits ok why same = let e : SinkFault ≡ NoMemory = why in absurd (cc)
said_left by m more (Err NoMemory) old new calm waits ok why same = ([], adds_nothing by old new same, refl)

pub said_put : (by : ℕ) (m : Message) (more : Bool) (r : Result (Unit {0}) Unsaid) (old new : Spoken) → (text old.marks).cut ≡ false → does_wait (text old.marks) m more ≡ false → Puts by m r old new → Says by m more r old new
said_put by m more (Ok u) old new calm other put = (put.0, put.1, (calm, put.2 ∙ ap (λ (x : Bool). Said m ∷ (if x then [] else Put ∷ [])) (sym other)))
said_put by m more (Err SinkFault) old new calm other put = (put.0, put.1, inr (put.2.0, calm, put.2.1, put.2.2))
said_put by m more (Err NoMemory) old new calm other put = (put.0, put.1, put.2)
