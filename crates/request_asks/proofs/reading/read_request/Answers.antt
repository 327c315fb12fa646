use Rattle.std.proofs.Common.{◌≡◌, ℕ, List, Option, None, refl, rules, subst, sym}
use Rattle.virt_types.specs.Drawn.{IsMadeOfDrawn}
use Rattle.virt_types.specs.declared.request.Request.{Request}
use Rattle.request_asks.specs.Found.{IsFound, Leaves, restored_from}
use Rattle.request_asks.proofs.Later.{goes_on}
use Rattle.request_asks.proofs.reading.read_request.Goals as goal

pub returns-in-DomainRestore : goal.returns-in-DomainRestore
returns-in-DomainRestore g c =
    let p = c.restore.result.0 in
    let a = c.restore.result.1 in
    let leaves : Leaves g.F.Files.told g.F.Files.faults (restored_from c.args.request.now) a c.args.pass p =
    subst (λ (r : Request). Leaves g.F.Files.told g.F.Files.faults (restored_from r) a c.args.pass p) (sym c.in-DomainRestore.is) c.restore.ensures.leaves in
    let goes = goes_on g.F.Files.told g.F.Files.faults (restored_from c.args.request.now) a c.args.pass p leaves in
    record {
      found = subst (λ (r : Request). IsMadeOfDrawn (λ words. IsFound c.args.pass p words r a) (g.R.Random.drawn c.args.random.now) (g.R.Random.drawn c.restore.new.random)) (sym c.in-DomainRestore.is) c.restore.ensures.found;
      leaves = leaves;
      same = goes.same;
      later = goes.later;
    }

pub returns-in_default : goal.returns-in_default
returns-in_default g c =
    let a = c.read_words.result in
    let made = c.read_words.ensures in
    let none : restored_from c.args.request.now ≡ None = search rules in
    let leaves : Leaves g.F.Files.told g.F.Files.faults (restored_from c.args.request.now) a c.args.pass c.args.pass =
    subst (λ (from : Option (List ℕ)). Leaves g.F.Files.told g.F.Files.faults from a c.args.pass c.args.pass) (sym none) refl in
    let goes = goes_on g.F.Files.told g.F.Files.faults (restored_from c.args.request.now) a c.args.pass c.args.pass leaves in
    record { found = (made.0, made.1 c.args.pass c.args.pass, made.2); leaves = leaves; same = goes.same; later = goes.later }
