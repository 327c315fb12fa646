-- How files are taken in one after another. No public clause cites this.
use Rattle.std.specs.Prelude.{◌≡◌, ◌++◌, Bool, true, false, List, Option, None, Some}
use Rattle.store_spec.specs.declared.change.Change.{Change}
use Rattle.found_domains.specs.declared.found.FoundDomain.{FoundDomain}
use Rattle.found_domains.specs.Files.{Given}

-- a good file gave its domain and its change; another gave nothing
abbrev pub Takes : Option Given → List FoundDomain → List FoundDomain → List Change → List Change → Bool → Type 0
Takes None domains domains_now again again_now good = good ≡ false
Takes (Some g) domains domains_now again again_now good =
    (good ≡ true) × (domains_now ≡ domains ++ g.domains) × (again_now ≡ again ++ g.again)
