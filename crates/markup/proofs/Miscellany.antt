-- What is around the root element, a step at a time.
use Rattle.std.proofs.Common.{◌≡◌, ℕ, suc, List, Result, Ok, Err, refl, sym, ◌∙◌, ap}
use Rattle.std.specs.Prelude.{false}
use Rattle.text_spec.specs.declared.ahead.Ahead.{Ahead}
use Rattle.text_spec.specs.declared.ahead.Ahead.TheVariants as ahead
use Rattle.text_spec.specs.declared.fault.Flaw.{Flaw}
use Rattle.text_spec.specs.Character.{after_blanks}
use Rattle.text_spec.specs.Aside.{aside_at}
use Rattle.text_spec.specs.Element.{ahead_of}
use Rattle.text_spec.specs.Text.{at_end, misc_by, misc_at}

module _ (m : ℕ) (rest after : List ℕ) (after_is : after ≡ after_blanks rest)
    (whole : Result (List ℕ) Flaw) (whole_is : whole ≡ misc_at (suc m) rest) where
  step : (a : Ahead) → ahead_of after ≡ a → whole ≡ misc_by a (misc_at m) after
  unfolding misc_at
  step a e = whole_is ∙ ap (λ cs. misc_by (ahead_of cs) (misc_at m) cs) (sym after_is) ∙ ap (λ b. misc_by b (misc_at m) after) e

  pub misc_ends : ahead_of after ≡ ahead.Nothing → whole ≡ at_end after
  misc_ends e = step ahead.Nothing e

  pub misc_flawed : ahead_of after ≡ ahead.Aside → (f : Flaw) → aside_at false after ≡ Err f → whole ≡ Err f
  misc_flawed e f h = step ahead.Aside e ∙ rw h

  pub misc_more : ahead_of after ≡ ahead.Aside → (text following : List ℕ) → aside_at false after ≡ Ok (text, following)
      → whole ≡ misc_at m following
  misc_more e text following h = step ahead.Aside e ∙ rw h

  pub misc_stops : (a : Ahead) → (a ≡ ahead.Nothing → ⊥) → (a ≡ ahead.Aside → ⊥) → ahead_of after ≡ a → whole ≡ Ok after
  misc_stops ahead.Nothing more other e = absurd (more refl)
  misc_stops ahead.ClosingTag more other e = step ahead.ClosingTag e
  misc_stops ahead.Element more other e = step ahead.Element e
  misc_stops ahead.Aside more other e = absurd (other refl)
  misc_stops ahead.Reference more other e = step ahead.Reference e
  misc_stops ahead.Run more other e = step ahead.Run e
