use Rattle.std.proofs.Common.{◌<◌, ◌^◌, ◌∙◌, ℕ, IsUtf8, ap, arith, eqb, subst, sym, take}
use Rattle.image_store.proofs.Parts.{image_of, text_utf8}
use Rattle.image_store.proofs.reading.image_of.Goals as goal

pub returns-in_ok-saved-in-Ok : goal.returns-in_ok-saved-in-Ok
returns-in_ok-saved-in-Ok c = image_of c.args.bytes.now (record { kind = c.kind_of-kind.result; running = eqb c.length_at-running.result 1; text = c.in_ok-text-in-Ok.text; saved = c.in_ok-saved-in-Ok.saved })
    (λ i. omega (arith, c.type_inv.bytes i)) c.requires c.kind_of-kind.ensures.save c.kind_of-kind.ensures.dump
    (ap (λ (k : ℕ). eqb k 1) c.length_at-running.ensures.value)
    (c.in_ok-text-in-Ok.ensures ∙ c.in-Ok.ensures.cases.0 ∙ c.front.ensures ∙ (λ i. take (c.length_at-2.ensures.value i) (c.parts.ensures i)))
    (c.in_ok-saved-in-Ok.ensures ∙ c.front-saved.ensures ∙ (λ i. take (c.length_at.ensures.value i) (c.behind_text.ensures i)))
    (subst (λ (k : ℕ). k < 2 ^ 32) c.length_at.ensures.value c.length_at.ensures.fits)

pub returns-in-Err : goal.returns-in-Err
returns-in-Err c = absurd (c.in-Err.ensures.cases.0 (subst IsUtf8 (sym (c.front.ensures ∙ (λ i. take (c.length_at-2.ensures.value i) (c.parts.ensures i)))) (text_utf8 c.args.bytes.now c.requires)))
