use Rattle.std.proofs.Common.{arith, length, ◌≡◌, sym, ◌∙◌}
use Rattle.types_base.specs.Name.{first_forbidden}
use Rattle.types_base.proofs.Names.{place_wrong, place_whole, place_none, name_of, first_of_text}
use Rattle.types_base.proofs.name.fault_place.Goals.{then-wrong-bytes-via-then-wrong-bytes, then-wrong-bytes-via-else-wrong-bytes+then-is_no_whole}
use Rattle.types_base.proofs.name.fault_place.Goals as goal

pub returns-then-wrong-bytes-clause-place : goal.returns-then-wrong-bytes-clause-place
returns-then-wrong-bytes-clause-place c =
    let bs = c.args.bytes.now in
    let first = c.forbidden_place-wrong.ensures in
    elim c.then-wrong-bytes.branch [
      | then-wrong-bytes-via-then-wrong-bytes w ↦ sym (place_wrong bs _ (first_of_text bs c.requires ∙ sym first.place) w.if-wrong-bytes.true)
      | then-wrong-bytes-via-else-wrong-bytes+then-is_no_whole w ↦
          let end : c.forbidden_place-wrong.result ≡ length bs = omega (arith, first.within, w.if-wrong-bytes.false) in
          sym (place_whole bs _ c.requires (sym first.place ∙ end) (sym w.is_no_whole.ensures ∙ w.if-is_no_whole.true) end)
    ]

pub returns-clause-place : goal.returns-clause-place
returns-clause-place c =
    let end : first_forbidden c.args.bytes.now ≡ length c.args.bytes.now = omega (arith, c.forbidden_place-wrong.ensures.place, c.forbidden_place-wrong.ensures.within, c.if-wrong-bytes.false) in
    sym (place_none c.args.bytes.now c.requires end (sym c.is_no_whole.ensures ∙ c.if-is_no_whole.false))

pub returns-clause-name : goal.returns-clause-name
returns-clause-name c =
    let end : first_forbidden c.args.bytes.now ≡ length c.args.bytes.now = omega (arith, c.forbidden_place-wrong.ensures.place, c.forbidden_place-wrong.ensures.within, c.if-wrong-bytes.false) in
    name_of c.args.bytes.now c.requires end (sym c.is_no_whole.ensures ∙ c.if-is_no_whole.false)
