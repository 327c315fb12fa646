use Rattle.std.proofs.Common.{◌≡◌, ◌+◌, ◌<◌, List, [], ◌∷◌, ◌++◌, OnOk, drop, length, sym, ap, ◌∙◌, subst, arith}
use Rattle.std.proofs.lemmas.List.{length-append}
use Rattle.domain_spec.specs.Types.{Answer, Ask}
use Rattle.domain_spec.specs.Types.answer
use Rattle.domain_spec.specs.Types.given
use Rattle.core_rules.specs.Place.{place_after}
use Rattle.core_rules.specs.declared.course.Place.TheVariants as place
use Rattle.core_plan.specs.PhaseGoing.{phase_planned}
use Rattle.core_plan.specs.Probing.{undo_behind}
use Rattle.core_plan.proofs.Probing.{undo_more, undo_next, undo_over}
use Rattle.core_plan.proofs.phase_probe.+put_undo.Goals as goal

pub put_undo-requires : goal.put_undo-requires
put_undo-requires t c =
    let a = c.args in
    let plan = phase_planned a.state.now a.operation.now in
    let x = c.in-Ok-Some.ask in
    let is = rw c.in-Ok-Some.field-0-is at c.in-Ok-Some.ensures in
    let at : place_after a.answers.now.items ≡ place.Undo a.of (length a.undo.now) = c.requires.place in
    let h = undo_more plan a.of a.undo.now x (place_after c.as_slice.result.now) (rw c.as_slice.ensures.value at) is in
    let few : length a.undo.now < length (undo_behind plan a.of) = h.1 in
    let put : c.push.new.self ≡ a.undo.now ++ x ∷ [] = c.in_ok-push-in-Ok-Some.ensures.ok in
    let more : length c.push.new.self ≡ length a.undo.now + 1 = ap (λ (xs : List Ask). length xs) put ∙ length-append a.undo.now (x ∷ []) in
    let bound = c.decreases in
    let next : place_after c.put.new.answers.items ≡ place.Undo a.of (length c.push.new.self) =
    ap (λ (xs : List Answer). place_after xs) c.in_ok-put-in-Ok-Some.ensures.answers
    ∙ undo_next a.answers.now.items a.of a.undo.now (answer.Ok given.Nothing) x at
    ∙ ap (λ (xs : List Ask). place.Undo a.of (length xs)) (sym put) in
    (omega (arith, few, more, bound), (next, c.in_ok-put-in-Ok-Some.ensures.brings))

pub returns-in-Ok-None : goal.returns-in-Ok-None
returns-in-Ok-None t c =
    let a = c.args in
    undo_over (phase_planned a.state.now a.operation.now) a.of a.undo.now (place_after c.as_slice.result.now) (rw c.as_slice.ensures.value c.requires.place)
    (rw c.in-Ok-None.field-0-is at c.in-Ok-None.ensures)

pub returns-in_ok-put-in-Ok-Some : goal.returns-in_ok-put-in-Ok-Some
returns-in_ok-put-in-Ok-Some t c =
    let a = c.args in
    let plan = phase_planned a.state.now a.operation.now in
    let x = c.in-Ok-Some.ask in
    let h = undo_more plan a.of a.undo.now x (place_after c.as_slice.result.now) (rw c.as_slice.ensures.value c.requires.place) (rw c.in-Ok-Some.field-0-is at c.in-Ok-Some.ensures) in
    let whole : c.push.new.self ++ drop (length c.push.new.self) (undo_behind plan a.of) ≡ a.undo.now ++ drop (length a.undo.now) (undo_behind plan a.of) =
    ap (λ (xs : List Ask). xs ++ drop (length xs) (undo_behind plan a.of)) c.in_ok-push-in-Ok-Some.ensures.ok ∙ h.0 in
    subst (λ (xs : List Ask). OnOk c.put_undo.result (c.put_undo.new.undo ≡ xs)) whole c.put_undo.ensures
