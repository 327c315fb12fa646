use Rattle.std.proofs.Common.{◌≡◌, ◌∙◌, ℕ, List, ap, subst, take}
use Rattle.std.proofs.lemmas.List.{take_min}
use Rattle.std.specs.Str.{IsUtf8}
use Rattle.std.specs.Str.Lossy.{utf8_valid_len}
use Rattle.refusals.proofs.Fronts.{kept_all, kept_front}
use Rattle.refusals.proofs.keeping.text_front.Goals as goal

pub returns-in-Ok : goal.returns-in-Ok
returns-in-Ok c =
    let bs : List ℕ = c.args.bytes.now in
    let front : take c.min.result bs ≡ take 1024 bs = rw c.min.ensures (take_min 1024 bs) in
    c.in-Ok.ensures.cases.0 ∙ (front ∙ kept_all bs (subst IsUtf8 front c.in-Ok.ensures.cases.1))

pub returns-in-Err : goal.returns-in-Err
returns-in-Err c =
    let bs : List ℕ = c.args.bytes.now in
    let front : take c.min.result bs ≡ take 1024 bs = rw c.min.ensures (take_min 1024 bs) in
    let at : c.valid_up_to.result ≡ utf8_valid_len (take 1024 bs) = c.valid_up_to.ensures ∙ (c.in-Err.ensures.valid_len ∙ ap utf8_valid_len front) in
    c.text_of.ensures ∙ ((λ i. take (at i) (front i)) ∙ kept_front bs)
