use Rattle.std.proofs.Common.{[], ◌∷◌, ◌++◌, arith}
use Rattle.rpc_client.proofs.Giving.{gives_kept, gives_none, gives_stray}
use Rattle.rpc_client.proofs.Hearing.{fewer, hears_none, hears_then}
use Rattle.rpc_client.proofs.inlet.Inlet.next_event.Goals as goal

pub loop-self-init : goal.loop-self-init
loop-self-init g c = record { packets = []; hears = hears_none _ _ _; stands = c.requires; later = omega arith }

pub look-requires : goal.look-requires
look-requires g c = c.loop-self.invariant.stands

pub returns-in-Ok-Some-clause-err : goal.returns-in-Ok-Some-clause-err
returns-in-Ok-Some-clause-err g c =
    let kept = c.loop-self.invariant in
    let came = rw c.in-Ok-Some.field-0-is at c.in-Ok-Some.ensures.ok in
    gives_stray _ _ _ _ _ _ kept.packets _ kept.hears came.0 came.1 came.2

pub loop-self-smaller : goal.loop-self-smaller
loop-self-smaller g c =
    let came = rw c.in-Ok-None.field-0-is at c.in-Ok-None.ensures.ok in
    fewer _ _ _ _ came.0 came.1.passes c.in-Ok-None.ensures.stands.within

pub loop-self-preserved : goal.loop-self-preserved
loop-self-preserved g c =
    let kept = c.loop-self.invariant in
    let came = rw c.in-Ok-None.field-0-is at c.in-Ok-None.ensures.ok in
    record {
      packets = kept.packets ++ came.0 ∷ [];
      hears = hears_then _ _ _ _ _ kept.packets (came.0 ∷ []) kept.hears came.1;
      stands = c.in-Ok-None.ensures.stands;
      later = omega (arith, kept.later, c.look.ensures.later);
    }

pub returns-in-Err-clause-err : goal.returns-in-Err-clause-err
returns-in-Err-clause-err g c =
    let kept = c.loop-self.invariant in
    gives_none _ _ _ _ _ _ kept.packets _ kept.hears kept.later c.in-Err.ensures.err
