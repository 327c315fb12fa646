-- What a call on the stored definition asks stays as it was where a guest ends.
use Rattle.std.proofs.Common.{◌≡◌, ℕ, [], ◌∷◌, Bool, true, false, ◌&&◌, is_none, length, nat_lt, if◌then◌else◌, Option, None, Some, refl, sym, ap, ◌∙◌}
use Rattle.domain_spec.specs.Types.{Call, Domain, DomainDef, EndReason, Live, Refusal}
use Rattle.domain_spec.specs.Types.ask
use Rattle.domain_spec.specs.Types.call
use Rattle.domain_spec.specs.Types.state
use Rattle.domain_spec.specs.Asks.{plain}
use Rattle.domain_spec.specs.Call.{is_on_stored, put_plan}
use Rattle.domain_spec.specs.Exit.{exit_held}
use Rattle.domain_spec.specs.Reading.{unless_gone_by}
use Rattle.domain_spec.specs.Refusals.{invalid}
use Rattle.domain_spec.specs.Tests.{fails_if, first_refusal, has_snapshots}
use Rattle.core_mark_laws.specs.Tidy.{IsTidy, StoredPlansStay, planned}

one_test : (b : Bool) (r q : Refusal) → is_none (first_refusal (fails_if b r ∷ [])) ≡ is_none (first_refusal (fails_if b q ∷ []))
one_test true r q = refl
one_test false r q = refl

two_tests : (a b : Bool) (r q : Refusal) → is_none (first_refusal (fails_if a r ∷ fails_if b r ∷ [])) ≡ is_none (first_refusal (fails_if a q ∷ fails_if b q ∷ []))
two_tests true b r q = refl
two_tests false true r q = refl
two_tests false false r q = refl

-- a domain without a stored definition is gone: only a Define still asks something

bare_define : (d : Domain) (def : DomainDef) (boot : Option ℕ) (n : ℕ) → d.stored ≡ None → IsTidy (state.Held d) → planned (state.Vacant n) (call.Define def) boot ≡ planned (state.Held d) (call.Define def) boot
bare_define d def boot n none e =
    let off : d.autostart ≡ false = sym (ap (λ (o : Option DomainDef). if is_none o then d.autostart else false) none) ∙ e in
    sym (ap (λ (b : Bool). plain (ask.Put def b ∷ [])) off)

bare_plans : (d : Domain) (c : Call) (boot : Option ℕ) (n : ℕ) → d.stored ≡ None → IsTidy (state.Held d) → is_on_stored c ≡ true → planned (state.Vacant n) c boot ≡ planned (state.Held d) c boot
bare_plans d (call.Define def) boot n none e on = bare_define d def boot n none e
bare_plans d call.Undefine boot n none e on =
    sym (ap (λ (o : Option DomainDef). if is_none (first_refusal (fails_if (is_none o) (invalid d.live) ∷ has_snapshots d boot ∷ [])) then plain (ask.Drop d.uuid ∷ []) else []) none)
bare_plans d (call.SetAutostart flag) boot n none e on =
    sym (ap (λ (o : Option DomainDef). if is_none (first_refusal (fails_if (is_none o) (invalid d.live) ∷ [])) then put_plan o flag else []) none)
bare_plans d other boot n none e on = cc

-- the domain stays
held_plans : (d : Domain) (c : Call) (boot : Option ℕ) (last : Option (ℕ × EndReason)) → is_on_stored c ≡ true → planned (state.Held (record d { live = None; last = last })) c boot ≡ planned (state.Held d) c boot
held_plans d (call.Define def) boot last on = refl
held_plans d call.Undefine boot last on =
    ap (λ (b : Bool). if b then plain (ask.Drop d.uuid ∷ []) else []) (two_tests (is_none d.stored) (is_none boot && nat_lt 0 (length d.snaps)) (invalid None) (invalid d.live))
held_plans d (call.SetAutostart flag) boot last on = ap (λ (b : Bool). if b then put_plan d.stored flag else []) (one_test (is_none d.stored) (invalid None) (invalid d.live))
held_plans d other boot last on = cc

by_stored : (d : Domain) (last : Option (ℕ × EndReason)) (c : Call) (boot : Option ℕ) (stored : Option DomainDef) → d.stored ≡ stored → IsTidy (state.Held d) → is_on_stored c ≡ true
    → planned (unless_gone_by (record d { live = None; last = last }) None stored) c boot ≡ planned (state.Held d) c boot
by_stored d last c boot None is e on = bare_plans d c boot d.boots is e on
by_stored d last c boot (Some def) is e on = held_plans d c boot last on

by_live : (d : Domain) (live : Option Live) (c : Call) (boot : Option ℕ) (why : EndReason) → IsTidy (state.Held d) → is_on_stored c ≡ true → planned (exit_held d live why) c boot ≡ planned (state.Held d) c boot
by_live d None c boot why e on = refl
by_live d (Some l) c boot why e on = by_stored d (Some (l.boot, why)) c boot d.stored refl e on

pub stored_plans : StoredPlansStay
stored_plans (state.Vacant boots) c boot why e on = refl
stored_plans (state.Held d) c boot why e on = by_live d d.live c boot why e on
