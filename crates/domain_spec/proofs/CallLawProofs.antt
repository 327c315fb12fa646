-- Why the laws of calls hold.
use Rattle.std.proofs.Common.{◌≡◌, ℕ, List, [], ◌∷◌, Bool, true, false, if◌then◌else◌, Option, None, Some, refl, sym, subst, eq-eqb, not, is_some}
use Rattle.domain_spec.specs.Types.{Answer, AnswerValue, Call, Domain, Live, Refusal, State}
use Rattle.domain_spec.specs.Types.answer
use Rattle.domain_spec.specs.Types.call
use Rattle.domain_spec.specs.Types.given
use Rattle.domain_spec.specs.Types.reason
use Rattle.domain_spec.specs.Types.state
use Rattle.domain_spec.specs.declared.step.CallStep.{CallStep}
use Rattle.domain_spec.specs.declared.testing.Test.{Test}
use Rattle.domain_spec.specs.Asks.{first_bad, first_value}
use Rattle.domain_spec.specs.Call.{begins}
use Rattle.domain_spec.specs.CallLaws.{DestroyEnds, EndedOnlyWhereNotLive, IsOk, is_ended_code, is_ended_reply}
use Rattle.domain_spec.specs.CallResult.{guest_step, held_step, live_step, memory_step, step_of}
use Rattle.domain_spec.specs.Fold.{at_base, standing}
use Rattle.domain_spec.specs.Reading.{boot_in, is_boot_in, live_boot}
use Rattle.domain_spec.specs.Refusals.{failure_of}
use Rattle.domain_spec.specs.Sequential.{answered_step, ended_step, meets_ended, seq, tested_step}
use Rattle.domain_spec.specs.Tests.{first_refusal, held_tests, live_tests, name_there, operation_tests, plain_tests, refusal_of, tests_of}
use Rattle.domain_spec.proofs.ExitProofs.{gone}

-- a Destroy of the live boot

destroyed_gone : (d : Domain) (live : Option Live) (answers : List Answer) (l : Live) → live ≡ Some l → live_boot (guest_step d live call.Destroy answers).state ≡ None
destroyed_gone d None answers l e = cc
destroyed_gone d (Some found) answers l e = gone d found reason.Killed d.stored

destroyed_ends : (d : Domain) (l : Live) (answers : List Answer) (bad : Option Answer) → d.live ≡ Some l → IsOk (answered_step (state.Held d) call.Destroy answers bad).reply → live_boot (answered_step (state.Held d) call.Destroy answers bad).state ≡ None
destroyed_ends d l answers None e ok = destroyed_gone d d.live answers l e
destroyed_ends d l answers (Some bad) e ok = absurd ok

its_boot : (live : Option Live) (l : Live) → live ≡ Some l → not (is_boot_in live l.boot) ≡ false
its_boot live l e = rw (e, eq-eqb l.boot l.boot refl) refl

-- the boot is live, so that the tests decide
tested_ends : (b : Bool) (x y : CallStep) → b ≡ false → (IsOk y.reply → live_boot y.state ≡ None) → IsOk (if b then x else y).reply → live_boot (if b then x else y).state ≡ None
tested_ends true x y e h ok = cc
tested_ends false x y e h ok = h ok

held_ends : (d : Domain) (live : Option Live) (answers : List Answer) → d.live ≡ live → IsOk (seq (state.Held d) call.Destroy (boot_in live) answers).reply → live_boot (seq (state.Held d) call.Destroy (boot_in live) answers).state ≡ None
held_ends d None answers e ok = absurd ok
held_ends d (Some l) answers e ok =
    tested_ends (not (is_boot_in d.live l.boot)) (ended_step (state.Held d) call.Destroy (Some l.boot)) (answered_step (state.Held d) call.Destroy answers (first_bad answers))
    (its_boot d.live l e) (destroyed_ends d l answers (first_bad answers) e) ok

destroy_ends : (s : State) (answers : List Answer) → IsOk (seq s call.Destroy (live_boot s) answers).reply → live_boot (seq s call.Destroy (live_boot s) answers).state ≡ None
destroy_ends (state.Vacant boots) answers ok = refl
destroy_ends (state.Held d) answers ok = held_ends d d.live answers refl ok

pub destroy_now_ends : DestroyEnds
destroy_now_ends b marks boot answers carried ok =
    let s = (standing (at_base b) marks).state in
    subst (λ (o : Option ℕ). IsOk (seq s call.Destroy o answers).reply → live_boot (seq s call.Destroy o answers).state ≡ None) (sym carried) (destroy_ends s answers) ok

-- no test, no failure and no result says that a boot is not live

abbrev NotEnded : Option Refusal → Type 0
NotEnded None = Unit {0}
NotEnded (Some r) = is_ended_code r.code ≡ false

abbrev NoneEnded : List Test → Type 0
NoneEnded [] = Unit {0}
NoneEnded (t ∷ tests) = (is_ended_code t.refusal.code ≡ false) × NoneEnded tests

first_by : (b : Bool) (t : Test) (tests : List Test) → t.fails ≡ b → is_ended_code t.refusal.code ≡ false → NotEnded (first_refusal tests) → NotEnded (first_refusal (t ∷ tests))
first_by true t tests e now later = rw e now
first_by false t tests e now later = rw e later

first_not_ended : (tests : List Test) → NoneEnded tests → NotEnded (first_refusal tests)
first_not_ended [] h = tt
first_not_ended (t ∷ tests) h = first_by t.fails t tests refl h.0 (first_not_ended tests h.1)

live_tests_not : (d : Domain) (c : Call) → NoneEnded (live_tests d c)
live_tests_not d (call.SetMemory kib) = (refl, (refl, tt))
live_tests_not d (call.SetVcpus n) = (refl, (refl, tt))
live_tests_not d (call.Attach new) = (refl, (refl, (refl, tt)))
live_tests_not d (call.Detach old) = (refl, (refl, tt))
live_tests_not d (call.Kick n) = (refl, (refl, tt))
live_tests_not d call.Reboot = (refl, tt)
live_tests_not d call.MemoryStats = (refl, tt)
live_tests_not d call.Suspend = (refl, (refl, (refl, tt)))
live_tests_not d (call.Limit rest) = (refl, (refl, (refl, tt)))
live_tests_not d other = (refl, (refl, tt))

name_there_not : (d : Domain) (name : Option (List ℕ)) → is_ended_code (name_there d name).refusal.code ≡ false
name_there_not d None = refl
name_there_not d (Some name) = refl

operation_tests_not : (d : Domain) (c : Call) → NoneEnded (operation_tests d c)
operation_tests_not d (call.Create def) = (refl, tt)
operation_tests_not d call.Perform = (refl, (refl, tt))
operation_tests_not d (call.Save name) = (refl, (refl, tt))
operation_tests_not d (call.Dump name) = (refl, tt)
operation_tests_not d (call.Snapshot info) = (name_there_not d info.name, (refl, (refl, tt)))
operation_tests_not d (call.Revert name) = (refl, (refl, tt))
operation_tests_not d other = (refl, (refl, tt))

plain_tests_not : (d : Domain) (boot : Option ℕ) (c : Call) → NoneEnded (plain_tests d boot c)
plain_tests_not d boot (call.Define def) = tt
plain_tests_not d boot call.Destroy = (refl, tt)
plain_tests_not d boot call.Undefine = (refl, (refl, tt))
plain_tests_not d boot (call.SetAutostart on) = (refl, tt)
plain_tests_not d boot call.Abort = (refl, tt)
plain_tests_not d boot (call.SnapDelete name children) = (refl, tt)
plain_tests_not d boot (call.Confirm verdict) = (refl, tt)
plain_tests_not d boot (call.Finish go) = (refl, tt)
plain_tests_not d boot other = live_tests_not d other

either_not : (b : Bool) (x y : List Test) → NoneEnded x → NoneEnded y → NoneEnded (if b then x else y)
either_not true x y hx hy = hx
either_not false x y hx hy = hy

held_tests_not : (d : Domain) (boot : Option ℕ) (c : Call) → NoneEnded (held_tests d boot c)
held_tests_not d boot c = either_not (is_some (begins c)) (operation_tests d c) (plain_tests d boot c) (operation_tests_not d c) (plain_tests_not d boot c)

tests_not : (s : State) (boot : Option ℕ) (c : Call) → NoneEnded (tests_of s boot c)
tests_not (state.Held d) boot c = held_tests_not d boot c
tests_not (state.Vacant boots) boot (call.Define def) = tt
tests_not (state.Vacant boots) boot (call.Create def) = (refl, tt)
tests_not (state.Vacant boots) boot (call.Restore def running saved) = (refl, tt)
tests_not (state.Vacant boots) boot (call.Prepare def running saved) = (refl, tt)
tests_not (state.Vacant boots) boot other = (refl, tt)

failure_not : (a : Answer) → is_ended_code (failure_of a).code ≡ false
failure_not (answer.Refused class) = refl
failure_not answer.Device = refl
failure_not answer.NoMemory = refl
failure_not other = refl

memory_not : (s : State) (v : Option AnswerValue) → is_ended_reply (memory_step s v).reply ≡ false
memory_not s None = refl
memory_not s (Some (given.Number n)) = refl
memory_not s (Some other) = refl

live_not : (d : Domain) (l : Live) (c : Call) (answers : List Answer) → is_ended_reply (live_step d l c answers).reply ≡ false
live_not d l call.MemoryStats answers = memory_not (state.Held d) (first_value answers)
live_not d l other answers = refl

guest_not : (d : Domain) (live : Option Live) (c : Call) (answers : List Answer) → is_ended_reply (guest_step d live c answers).reply ≡ false
guest_not d None c answers = refl
guest_not d (Some l) c answers = live_not d l c answers

held_not : (d : Domain) (c : Call) (answers : List Answer) → is_ended_reply (held_step d c answers).reply ≡ false
held_not d (call.Define def) answers = refl
held_not d call.Undefine answers = refl
held_not d (call.SetAutostart on) answers = refl
held_not d call.Abort answers = refl
held_not d (call.Limit rest) answers = refl
held_not d (call.SnapDelete name children) answers = refl
held_not d other answers = guest_not d d.live other answers

step_not : (s : State) (c : Call) (answers : List Answer) → is_ended_reply (step_of s c answers).reply ≡ false
step_not (state.Held d) c answers = held_not d c answers
step_not (state.Vacant boots) (call.Define def) answers = refl
step_not (state.Vacant boots) other answers = refl

answered_not : (s : State) (c : Call) (answers : List Answer) (bad : Option Answer) → is_ended_reply (answered_step s c answers bad).reply ≡ false
answered_not s c answers None = step_not s c answers
answered_not s c answers (Some bad) = failure_not bad

tested_not : (s : State) (c : Call) (answers : List Answer) (r : Option Refusal) → NotEnded r → is_ended_reply (tested_step s c answers r).reply ≡ false
tested_not s c answers None h = answered_not s c answers (first_bad answers)
tested_not s c answers (Some r) h = h

only_by : (b : Bool) (x y : CallStep) → is_ended_reply y.reply ≡ false → is_ended_reply (if b then x else y).reply ≡ true → b ≡ true
only_by true x y h is = refl
only_by false x y h is = cc

pub ended_only : EndedOnlyWhereNotLive
ended_only s c boot answers is =
    only_by (meets_ended s c boot) (ended_step s c boot) (tested_step s c answers (refusal_of s boot c))
    (tested_not s c answers (refusal_of s boot c) (first_not_ended (tests_of s boot c) (tests_not s boot c))) is
