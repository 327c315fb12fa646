use Rattle.std.proofs.Common.{◌≡◌, ◌∙◌, ℤ, [], ap, rules, subst, sym, SFits, to_z, of_z, w32}
use Rattle.std.proofs.lemmas.Int.{to_z-of_z}
use Rattle.virt_types.specs.Drawn.{IsMadeOfDrawn}
use Rattle.virt_types.specs.declared.request.Request.{Request}
use Rattle.virt_types.specs.declared.request.Request.TheVariants as request
use Rattle.request_asks.specs.Said.{IsSaid}
use Rattle.request_asks.proofs.Drawn.{made_of_none}
use Rattle.request_asks.proofs.words.read_words.Goals as goal

pub returns-in-ListDefinedDomains : goal.returns-in-ListDefinedDomains
returns-in-ListDefinedDomains g c =
    let most : ℤ = c.in-ListDefinedDomains.most in
    let fits : SFits w32 most = search rules in
    let back : to_z w32 (of_z w32 most) ≡ most = to_z-of_z w32 most fits in
    made_of_none (λ words. IsSaid words c.args.request.now c.list_names.result) _
    (subst (λ (r : Request). IsSaid [] r c.list_names.result) (ap (λ (n : ℤ). request.ListDefinedDomains n) back ∙ sym c.in-ListDefinedDomains.is) c.list_names.ensures)

pub returns-in-DomainLookupByName : goal.returns-in-DomainLookupByName
returns-in-DomainLookupByName g c =
    made_of_none (λ words. IsSaid words c.args.request.now c.look_up_name.result) _
    (subst (λ (r : Request). IsSaid [] r c.look_up_name.result) (sym c.in-DomainLookupByName.is) c.look_up_name.ensures)

pub returns-in-DomainLookupByUuid : goal.returns-in-DomainLookupByUuid
returns-in-DomainLookupByUuid g c =
    made_of_none (λ words. IsSaid words c.args.request.now c.look_up_uuid.result) _
    (subst (λ (r : Request). IsSaid [] r c.look_up_uuid.result) (sym c.in-DomainLookupByUuid.is) c.look_up_uuid.ensures)

pub returns-in-DomainDefineXml : goal.returns-in-DomainDefineXml
returns-in-DomainDefineXml g c =
    subst (λ (r : Request). IsMadeOfDrawn (λ words. IsSaid words r c.define.result) (g.R.Random.drawn c.args.random.now) (g.R.Random.drawn c.define.new.random)) (sym c.in-DomainDefineXml.is) c.define.ensures

pub returns-in-DomainCreateXml : goal.returns-in-DomainCreateXml
returns-in-DomainCreateXml g c =
    let made = c.create.ensures in
    (made.0, subst (λ (r : Request). IsSaid made.0 r c.create.result) (sym c.in-DomainCreateXml.is) (made.1 c.in-DomainCreateXml.flags), made.2)

pub returns-in-MigratePrepare : goal.returns-in-MigratePrepare
returns-in-MigratePrepare g c =
    let running : ℤ = c.in-MigratePrepare.running in
    let fits : SFits w32 running = search rules in
    let back : to_z w32 (of_z w32 running) ≡ running = to_z-of_z w32 running fits in
    subst (λ (r : Request). IsMadeOfDrawn (λ words. IsSaid words r c.prepare.result) (g.R.Random.drawn c.args.random.now) (g.R.Random.drawn c.prepare.new.random))
    (ap (λ (n : ℤ). request.MigratePrepare c.in-MigratePrepare.xml n c.in-MigratePrepare.state) back ∙ sym c.in-MigratePrepare.is) c.prepare.ensures

pub returns-then-is_built : goal.returns-then-is_built
returns-then-is_built g c =
    subst (λ (r : Request). IsMadeOfDrawn (λ words. IsSaid words r c.ask_domain.result) (g.R.Random.drawn c.args.random.now) (g.R.Random.drawn c.ask_domain.new.random)) (sym c.in-OnDomain.is) c.ask_domain.ensures
