use Rattle.std.proofs.Common.{◌≡◌, ℕ, List, [], ◌++◌, length, take, drop, refl, subst, sym, ◌∙◌}
use Rattle.std.proofs.KnownBytes.{Appends-trans}
use Rattle.std.proofs.Math.Seq.{take-append_seam}
use Rattle.types_base.specs.declared.device_def.Interface.{Interface}
use Rattle.text_spec.specs.Fill.{AreMacsFilled}
use Rattle.xml_fill.proofs.domain.fill_domain.Goals as goal

-- of a list that was written back all are kept
all_kept : (n : ℕ) (xs ys : List Interface) → length xs ≡ n → take n (xs ++ ys) ≡ xs
all_kept n xs ys long = subst (λ k. take k (xs ++ ys) ≡ xs) long (take-append_seam xs ys)

pub returns : goal.returns
returns g c =
    let uuid = c.uuid_or_new-def.ensures in
    let macs = c.fill_macs.ensures in
    let old = c.into_vec-interfaces.result in
    let new = c.fill_macs.new.interfaces in
    let before : c.as_mut_slice.result.now ≡ c.args.def.now.interfaces = cc in
    let after : c.of.result ≡ new =
    c.of.ensures ∙ all_kept old.len new (drop (length new) old.items) (c.fill_macs.auto.interfaces ∙ c.as_mut_slice.ensures.len) in
    let filled : AreMacsFilled macs.0 [] c.args.def.now.interfaces c.of.result =
    subst (AreMacsFilled macs.0 [] c.args.def.now.interfaces) (sym after)
    (subst (λ is. AreMacsFilled macs.0 [] is new) before macs.1) in (
      uuid.0 ++ macs.0,
      record { for_uuid = uuid.0; for_macs = macs.0; uuid = uuid.1; macs = filled; others = refl; order = refl },
      Appends-trans _ _ _ uuid.0 macs.0 uuid.2 macs.2,
    )
