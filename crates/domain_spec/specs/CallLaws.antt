-- Laws of calls at one place of a history.
use Rattle.std.specs.Prelude.{◌≡◌, ℕ, List, Bool, true, false, Option, None, [], ◌∷◌, Some, ◌≤◌}
use Rattle.domain_spec.specs.Types.{Answer, Call, EndReason, RefusalCode, Reply, State}
use Rattle.domain_spec.specs.Types.call
use Rattle.domain_spec.specs.Types.code
use Rattle.domain_spec.specs.Types.reply
use Rattle.domain_spec.specs.declared.core_step.First.TheVariants as first
use Rattle.domain_spec.specs.declared.mark.Mark.{Mark}
use Rattle.domain_spec.specs.declared.mark.Mark.TheVariants as mark
use Rattle.domain_spec.specs.declared.standing.Base.{Base}
use Rattle.domain_spec.specs.Carried.{IsBootAt, IsBootSince}
use Rattle.domain_spec.specs.Exit.{exit_transitions}
use Rattle.domain_spec.specs.Fold.{at_base, standing}
use Rattle.domain_spec.specs.Reading.{boots_of, live_boot}
use Rattle.domain_spec.specs.Sequential.{meets_ended, seq}

-- a call was done
abbrev pub IsOk : Reply → Type 0
IsOk (reply.Ok v) = Unit {0}
IsOk (reply.No r) = ⊥

-- a Destroy that did not wait and was done leaves no guest
abbrev pub DestroyEnds : Type 0
DestroyEnds =
    (b : Base) (marks : List (Mark ℕ)) (boot : Option ℕ) (answers : List Answer)
    → IsBootAt first.Now b marks boot → IsOk (seq (standing (at_base b) marks).state call.Destroy boot answers).reply
    → live_boot (seq (standing (at_base b) marks).state call.Destroy boot answers).state ≡ None

-- the code for a boot that is not live, 201
abbrev pub is_ended_code : RefusalCode → Bool
is_ended_code code.GuestEnded = true
is_ended_code other = false

-- the caller is answered 201
abbrev pub is_ended_reply : Reply → Bool
is_ended_reply (reply.Ok v) = false
is_ended_reply (reply.No r) = is_ended_code r.code

-- 201 comes only to a call whose boot is not live, and never to one on the stored definition
abbrev pub EndedOnlyWhereNotLive : Type 0
EndedOnlyWhereNotLive =
    (s : State) (c : Call) (boot : Option ℕ) (answers : List Answer)
    → is_ended_reply (seq s c boot answers).reply ≡ true → meets_ended s c boot ≡ true

-- the boot that a Destroy may carry whose caller saw the guest in boot 2 at the base of the chapter
pub record IsBootOfTwo (b : Base) (why : EndReason) : Type 0 where
  pub not_zero : IsBootSince b (Some []) [] (Some 0) → ⊥
  pub not_one : IsBootSince b (Some []) [] (Some 1) → ⊥
  pub not_none : IsBootSince b (Some []) [] None → ⊥
  pub waited : IsBootSince b (Some []) (mark.Exit 2 why (exit_transitions why) ∷ []) (Some 2)
  pub saw_none : IsBootSince b (Some []) (mark.Exit 2 why (exit_transitions why) ∷ []) None
  pub later_chapter : IsBootSince b None [] (Some 1)

-- it carries no boot that it likes: without waiting the live one, and after waiting one that was live
abbrev pub DestroyCarriesItsBoot : Type 0
DestroyCarriesItsBoot = (b : Base) (why : EndReason) → live_boot b.state ≡ Some 2 → 2 ≤ boots_of b.state → IsBootOfTwo b why
