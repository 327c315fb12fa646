use Rattle.std.proofs.Common.{ap, arith, subst, sym}
use Rattle.std.specs.Vec.Iter.{into_iter_items}
use Rattle.virt_types.specs.Below.types_base.declared.caller.Front.{Front}
use Rattle.def_keeper.specs.Chapters.{moment_of}
use Rattle.def_keeper.specs.Marks.{StoreHistory}
use Rattle.driver_store.specs.Again.{IsNotPut}
use Rattle.driver_store.proofs.Putting.{few_next, put_more, put_not, whole_next}
use Rattle.driver_store.proofs.again.put_again.Goals as goal

pub loop-change-preserved : goal.loop-change-preserved
loop-change-preserved g c =
    let i = c.loop-change.invariant in
    let few = few_next c.loop-change.yielded (into_iter_items c.loop-change.change-iterator) c.args.again i.whole c.requires.few in
    record {
      whole = whole_next c.loop-change.yielded (into_iter_items c.loop-change.change-iterator) (into_iter_items c.next.new.self) c.args.again c.in-Some.change c.in-Some.ensures.steps.0 i.whole;
      put = put_more Front (g.F.Files.told c.loop-change.keeper.files) (moment_of (g.F.Files.told c.change.new.self.files)) c.args.keeper.now c.loop-change.keeper c.change.new.self c.loop-change.yielded c.in-Some.change
          c.in-Ok.field-0 i.put (ap (λ (h : StoreHistory). h.marks) c.requires.begun) few c.in-Ok.ensures.marks c.in-Ok.ensures.ok c.in-Ok.ensures.doubt;
      faults = omega (arith, i.faults, c.change.ensures.faults);
    }

pub returns-in-Err-clause-err : goal.returns-in-Err-clause-err
returns-in-Err-clause-err g c =
    let i = c.loop-change.invariant in
    let faults = g.F.Files.faults in
    let few = few_next c.loop-change.yielded (into_iter_items c.loop-change.change-iterator) c.args.again i.whole c.requires.few in
    subst (IsNotPut faults c.args.again c.args.keeper.now c.change.new.self) (sym c.of_change.ensures)
    (put_not Front (g.F.Files.told c.loop-change.keeper.files) (moment_of (g.F.Files.told c.change.new.self.files)) c.args.keeper.now c.loop-change.keeper c.change.new.self c.loop-change.yielded c.in-Some.change
    faults c.kind_of-kind.result c.in-Err.fault (into_iter_items c.loop-change.change-iterator) (into_iter_items c.next.new.self) c.args.again c.in-Some.ensures.steps.0 i.whole i.put
    (ap (λ (h : StoreHistory). h.marks) c.requires.begun) few c.in-Err.ensures.marks i.faults c.kind_of-kind.ensures c.in-Err.ensures.names c.in-Err.ensures.device)
