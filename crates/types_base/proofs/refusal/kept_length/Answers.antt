use Rattle.std.proofs.Common.{◌≡◌, ◌∙◌, sym, ap, take, length, arith, subst}
use Rattle.std.proofs.lemmas.List.{take_min, take_all}
use Rattle.std.proofs.lemmas.Str.{utf8_valid_len-IsUtf8}
use Rattle.std.specs.Str.{IsUtf8}
use Rattle.std.specs.Str.Lossy.{utf8_valid_len}
use Rattle.types_base.proofs.Kept.{cut_boundary}
use Rattle.types_base.proofs.refusal.kept_length.Goals as goal

pub returns-in-Ok-clause-place : goal.returns-in-Ok-clause-place
returns-in-Ok-clause-place c =
    sym (utf8_valid_len-IsUtf8 _ c.in-Ok.ensures.cases.1) ∙ ap utf8_valid_len (rw (c.min.ensures, c.as_bytes-bytes.ensures.value) (take_min 1024 c.args.text.now))

pub returns-in-Ok-clause-boundary : goal.returns-in-Ok-clause-boundary
returns-in-Ok-clause-boundary c =
    let front : take c.min.result c.as_bytes-bytes.result.now ≡ take 1024 c.args.text.now = rw (c.min.ensures, c.as_bytes-bytes.ensures.value) (take_min 1024 c.args.text.now) in
    let same : length (take c.min.result c.as_bytes-bytes.result.now) ≡ length (take 1024 c.args.text.now) = ap length front in
    cut_boundary c.args.text.now 1024 _ c.utf8.text (omega (arith, same))
    (subst IsUtf8 (sym (take_all _ (take 1024 c.args.text.now) (omega (arith, same)))) (subst IsUtf8 front c.in-Ok.ensures.cases.1))

pub returns-in-Err-clause-place : goal.returns-in-Err-clause-place
returns-in-Err-clause-place c =
    c.valid_up_to.ensures ∙ c.in-Err.ensures.valid_len ∙ ap utf8_valid_len (rw (c.min.ensures, c.as_bytes-bytes.ensures.value) (take_min 1024 c.args.text.now))

pub returns-in-Err-clause-boundary : goal.returns-in-Err-clause-boundary
returns-in-Err-clause-boundary c =
    let front : take c.min.result c.as_bytes-bytes.result.now ≡ take 1024 c.args.text.now = rw (c.min.ensures, c.as_bytes-bytes.ensures.value) (take_min 1024 c.args.text.now) in
    let same : length (take c.min.result c.as_bytes-bytes.result.now) ≡ length (take 1024 c.args.text.now) = ap length front in
    let known = c.in-Err.ensures.cases.1 in
    cut_boundary c.args.text.now 1024 _ c.utf8.text (omega (arith, same, known.short, c.valid_up_to.ensures))
    (rw (c.valid_up_to.ensures, ← front) known.front)
