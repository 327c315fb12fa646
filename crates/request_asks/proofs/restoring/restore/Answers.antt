use Rattle.std.proofs.Common.{ℕ, List, [], subst, sym}
use Rattle.virt_types.specs.declared.request.Request.TheVariants as request
use Rattle.request_asks.specs.Found.{IsFound, RestoreLeaves}
use Rattle.request_asks.specs.Turns.{HasRead}
use Rattle.request_asks.specs.declared.asked.Asked.{Asked}
use Rattle.request_asks.proofs.Drawn.{made_of_none}
use Rattle.request_asks.proofs.Restored.{read_found, read_leaves, unnamed_found, unnamed_leaves}
use Rattle.request_asks.proofs.restoring.restore.Goals as goal

pub returns-in-Err-clause-found : goal.returns-in-Err-clause-found
returns-in-Err-clause-found g c =
    let r = request.DomainRestore c.args.from.now in
    made_of_none (λ words. IsFound c.args.pass c.args.pass words r c.refused.result) _
    (subst (IsFound c.args.pass c.args.pass [] r) (sym c.refused.ensures) (unnamed_found c.args.from.now c.in-Err.why c.args.pass c.in-Err.ensures.bad))

pub returns-in-Err-clause-leaves : goal.returns-in-Err-clause-leaves
returns-in-Err-clause-leaves g c = subst (λ (a : Asked). RestoreLeaves g.F.Files.told g.F.Files.faults c.args.from.now a c.args.pass c.args.pass) (sym c.refused.ensures) (unnamed_leaves g.F.Files.told g.F.Files.faults c.args.from.now c.in-Err.why c.args.pass)

pub returns-in-Ok-read_guest-clause-found : goal.returns-in-Ok-read_guest-clause-found
returns-in-Ok-read_guest-clause-found g c =
    let made = c.restored.ensures in
    let it = c.in-Ok-read_guest.read in (
      made.0,
      read_found g.F.Files.told g.F.Files.faults made.0 c.args.from.now it.1 it.2 c.restored.result c.args.pass it.0 c.in-Ok.ensures.good
          (subst (λ (name : List ℕ). HasRead g.F.Files.told g.F.Files.faults name it.1 it.2 c.args.pass it.0) c.in-Ok.ensures.value c.in-Ok-read_guest.ensures.read) made.1,
      made.2,
    )

pub returns-in-Ok-read_guest-clause-leaves : goal.returns-in-Ok-read_guest-clause-leaves
returns-in-Ok-read_guest-clause-leaves g c =
    let made = c.restored.ensures in
    let it = c.in-Ok-read_guest.read in
    read_leaves g.F.Files.told g.F.Files.faults made.0 c.args.from.now it.1 it.2 c.restored.result c.args.pass it.0
    (subst (λ (name : List ℕ). HasRead g.F.Files.told g.F.Files.faults name it.1 it.2 c.args.pass it.0) c.in-Ok.ensures.value c.in-Ok-read_guest.ensures.read) made.1
