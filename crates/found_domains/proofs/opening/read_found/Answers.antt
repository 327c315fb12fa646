use Rattle.std.proofs.Common.{◌≡◌, ◌∙◌, ap, arith, length, subst, sym, List, Ok}
use Rattle.std.specs.Prelude.{All}
use Rattle.std.proofs.lemmas.List.Elements.{All-contains}
use Rattle.def_keeper.specs.Calls.{CanBeMade}
use Rattle.def_map.specs.Map.{found}
use Rattle.found_domains.specs.declared.found.FoundDomain.{FoundDomain}
use Rattle.found_domains.specs.Found.{IsKeptOf, domains_in}
use Rattle.found_domains.proofs.Apart.{names_distinct, uuids_distinct}
use Rattle.found_domains.proofs.Counted.{few_found}
use Rattle.found_domains.proofs.Kept.{again_made, domains_kept}
use Rattle.found_domains.proofs.opening.read_found.Goals as goal

pub returns-in-Ok-clause-made : goal.returns-in-Ok-clause-made
returns-in-Ok-clause-made c = subst (All CanBeMade) (sym (c.take_all.ensures.again (c.in-Ok-None.is ∙ ap Ok c.in-Ok-None.field-0-is))) (again_made (found c.args.map.now) c.args.rows.now)

pub returns-in-Ok-clause-kept : goal.returns-in-Ok-clause-kept
returns-in-Ok-clause-kept c =
    let m = found c.args.map.now in
    let all : All (IsKeptOf m) c.take_all.new.domains = subst (All (IsKeptOf m)) (sym (c.take_all.ensures.domains (c.in-Ok-None.is ∙ ap Ok c.in-Ok-None.field-0-is))) (domains_kept m c.args.rows.now) in
    λ k d lt. All-contains (IsKeptOf m) c.take_all.new.domains _ all (c.in-Ok.ensures.domains.from k d lt)

pub returns-in-Ok-clause-names : goal.returns-in-Ok-clause-names
returns-in-Ok-clause-names c = names_distinct c.in-Ok.domains c.in-Ok.ensures.domains.rising

pub returns-in-Ok-clause-uuids : goal.returns-in-Ok-clause-uuids
returns-in-Ok-clause-uuids c = uuids_distinct (found c.args.map.now) c.in-Ok.domains c.in-Ok.ensures.domains.rising (returns-in-Ok-clause-kept c)

pub returns-in-Ok-clause-few : goal.returns-in-Ok-clause-few
returns-in-Ok-clause-few c =
    let all = few_found (found c.args.map.now) c.args.rows.now (sym c.first_past.ensures ∙ c.in-None.is) in
    let own = c.in-Ok.ensures.few in
    let same : length c.take_all.new.domains ≡ length (domains_in (found c.args.map.now) c.args.rows.now) = ap (λ (ds : List FoundDomain). length ds) (c.take_all.ensures.domains (c.in-Ok-None.is ∙ ap Ok c.in-Ok-None.field-0-is)) in
    omega (arith, all, own, same)
