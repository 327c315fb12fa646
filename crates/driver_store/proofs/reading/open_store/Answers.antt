use Rattle.std.proofs.Common.{◌<◌, ◌∙◌, List, ap, inr, length, subst, sym}
use Rattle.std.specs.Prelude.{All}
use Rattle.store_spec.specs.declared.change.Change.{Change}
use Rattle.def_keeper.specs.Calls.{CanBeMade}
use Rattle.def_keeper.specs.Marks.{StoreHistory}
use Rattle.def_keeper.specs.Safe.{KeepsAll}
use Rattle.def_map.specs.Map.{found}
use Rattle.found_domains.specs.declared.found.FoundDomains.{FoundDomains}
use Rattle.found_domains.proofs.Kept.{again_made}
use Rattle.driver_store.specs.Again.{IsNotPut}
use Rattle.driver_store.specs.Reading.{HasRead}
use Rattle.driver_store.proofs.Fewness.{few_again}
use Rattle.driver_store.proofs.Stopping.{not_renewed}
use Rattle.driver_store.proofs.reading.open_store.Goals as goal

pub put_again-requires-clause-few : goal.put_again-requires-clause-few
put_again-requires-clause-few g c =
    let store = c.in-Ok.store in
    subst (λ (l : List Change). length l < 4096) (sym c.in-Ok.ensures.ok.again ∙ ap (λ (r : FoundDomains). r.again) c.into_parts-domains.ensures) (few_again (found store.keeper.map) store.finds.definitions c.in-Ok.ensures.ok.good)

pub put_again-requires-clause-made : goal.put_again-requires-clause-made
put_again-requires-clause-made g c =
    let store = c.in-Ok.store in
    subst (All CanBeMade) (sym c.in-Ok.ensures.ok.again ∙ ap (λ (r : FoundDomains). r.again) c.into_parts-domains.ensures) (again_made (found store.keeper.map) store.finds.definitions)

pub returns-in-Ok-put_again-clause-ok : goal.returns-in-Ok-put_again-clause-ok
returns-in-Ok-put_again-clause-ok g c =
    let store = c.in-Ok.store in
    let told = g.F.Files.told in record {
      first = store.keeper;
      begun = c.in-Ok.ensures.begun;
      again = c.into_parts-domains.result.1;
      read = subst (HasRead (told c.args.files) (told store.keeper.files) (found store.keeper.map) store.finds) c.into_parts-domains.ensures c.in-Ok.ensures.ok;
      put = c.in-Ok-put_again.ensures.ok;
    }

pub returns-in-Err-put_again-clause-err : goal.returns-in-Err-put_again-clause-err
returns-in-Err-put_again-clause-err g c =
    let store = c.in-Ok.store in
    let told = g.F.Files.told in
    let back = c.close-files.result.0 in
    let last = c.put_again.new.keeper in
    let fault = c.in-Err-put_again.fault in
    inr
    (not_renewed told g.F.Files.faults c.args.files back g.K.Opening.sound fault store.keeper last store.finds store.read c.in-Ok.ensures.ok c.in-Ok.ensures.begun
    (subst (λ (r : FoundDomains). IsNotPut g.F.Files.faults r.again store.keeper last fault) (sym c.into_parts-domains.ensures) c.in-Err-put_again.ensures.err) c.in-Ok.ensures.faults c.close-files.ensures.files
    (λ sound. subst (λ (h : StoreHistory). KeepsAll (told back) h) c.close-files.ensures.history (c.close-files.ensures.crash sound)))
