-- One more request was made after the others.
use Rattle.std.proofs.Common.{◌≡◌, ◌≤◌, ◌<◌, ◌+◌, ◌++◌, ℕ, suc, List, [], ◌∷◌, Option, arith, get_or, length, take, refl, sym, ap, ◌∙◌, subst}
use Rattle.std.proofs.lemmas.List.{length-take-le, take_more}
use Rattle.daemon.specs.Starting.{HasMade, first_call}
use Rattle.driver_service.specs.Calling.{HasOutcomeOf}
use Rattle.files_disk.specs.Telling.{Told}
use Rattle.driver_service.specs.Below.held_tasks.OfOutcomes.{Outcome}
use Rattle.driver_service.specs.Below.held_tasks.OfRows.{DriverRow}
use Rattle.service_spec.specs.Activities.{Hand}
use Rattle.virt_types.specs.declared.ask.GuestEvent.{GuestEvent}
use Rattle.virt_types.specs.declared.request.Request.{Request}

module _ {F G E : Type 0} (told : F → Told) (store_faults : F → ℕ) (maker : G → ℕ) (ends faults : E → ℕ) (unheard : E → Option (List GuestEvent)) where
  abbrev Made : ℕ → List Request → List Outcome → Hand (DriverRow G) → Hand (DriverRow G) → Type 0
  Made n = HasMade told store_faults maker ends faults unheard (first_call n)

  abbrev Came : ℕ → Request → Outcome → Hand (DriverRow G) → Hand (DriverRow G) → Type 0
  Came n = HasOutcomeOf told store_faults maker ends faults unheard (first_call n)

  -- the call of the last comes after those of the others
  made_more : (n : ℕ) (rs : List Request) (os : List Outcome) (r : Request) (o : Outcome) (a b c : Hand (DriverRow G)) → Made n rs os a b → Came (n + length rs) r o b c → Made n (rs ++ r ∷ []) (os ++ o ∷ []) a c
  made_more n [] [] r o a b c made came =
      let first : n + 0 ≡ n = omega arith in
      (c, subst (λ (h : Hand (DriverRow G)). Came n r o h c) made (subst (λ (m : ℕ). Came m r o b c) first came), refl)
  made_more n [] (p ∷ os) r o a b c made came = absurd made
  made_more n (q ∷ rs) [] r o a b c made came = absurd made
  made_more n (q ∷ rs) (p ∷ os) r o a b c (then, one, made) came =
      let later : n + suc (length rs) ≡ (n + 1) + length rs = omega arith in
      (then, one, made_more (n + 1) rs os r o then b c made (subst (λ (m : ℕ). Came m r o b c) later came))

  -- so it is after one more of a list
  pub made_next : (rs : List Request) (i count : ℕ) (r : Request) (os now : List Outcome) (o : Outcome) (a b c : Hand (DriverRow G)) → i < length rs → count ≡ i → r ≡ get_or rs i r
      → Made 0 (take i rs) os a b → Came count r o b c → now ≡ os ++ o ∷ [] → Made 0 (take (i + 1) rs) now a c
  made_next rs i count r os now o a b c within counted here made came is =
      let path : take i rs ++ r ∷ [] ≡ take (i + 1) rs = ap (λ (x : Request). take i rs ++ x ∷ []) here ∙ sym (take_more rs i r within) in
      let before : i ≤ length rs = omega (arith, within) in
      let so_far : count ≡ 0 + length (take i rs) = omega (arith, counted, length-take-le i rs before) in
      let last : Came (0 + length (take i rs)) r o b c = subst (λ (m : ℕ). Came m r o b c) so_far came in
      subst (λ (x : List Request × List Outcome). Made 0 x.0 x.1 a c) (λ k. (path k, sym is k)) (made_more 0 (take i rs) os r o a b c made last)
