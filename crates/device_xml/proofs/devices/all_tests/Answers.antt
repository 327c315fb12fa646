use Rattle.std.proofs.Common.{◌≡◌, true, sym, ap, ◌∙◌}
use Rattle.std.specs.Prelude.{map}
use Rattle.text_spec.specs.DeviceList.{element_for, key_in, with_key}
use Rattle.text_spec.specs.Look.{is_element}
use Rattle.text_spec.specs.Tree.{seen}
use Rattle.device_xml.proofs.DeviceLists.{stopped, passed}
use Rattle.device_xml.proofs.devices.all_tests.Goals as goal

pub returns-in-Err : goal.returns-in-Err
returns-in-Err c =
    let i = c.loop-tree.invariant in
    let t = seen c.in-Some.tree.now in
    let is_one : is_element (element_for c.args.kind) t ≡ true =
    ap (λ n. is_element n t) (sym c.element_for.ensures) ∙ sym c.is_element.ensures ∙ c.if-is_element.true in
    stopped c.args.kind c.args.names.now i.0 t (map seen c.in-Some.after.now) is_one (map seen c.loop-tree.rest.now)
    (ap (map seen) c.in-Some.ensures.cases.0) _ i.2 c.in-Err.fault (c.in-Err.ensures.test i.0 i.1)

pub loop-tree-preserved-in-Ok : goal.loop-tree-preserved-in-Ok
loop-tree-preserved-in-Ok c =
    let i = c.loop-tree.invariant in
    let t = seen c.in-Some.tree.now in
    let is_one : is_element (element_for c.args.kind) t ≡ true =
    ap (λ n. is_element n t) (sym c.element_for.ensures) ∙ sym c.is_element.ensures ∙ c.if-is_element.true in (
      with_key (key_in c.args.kind t) i.0,
      c.in-Ok.ensures.keys i.0 i.1,
      passed c.args.kind c.args.names.now i.0 t (map seen c.in-Some.after.now) is_one (map seen c.loop-tree.rest.now)
          (ap (map seen) c.in-Some.ensures.cases.0) _ i.2 (c.in-Ok.ensures.test i.0 i.1),
    )
