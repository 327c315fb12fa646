use Rattle.std.proofs.Common.{List, ℕ, subst, sym, ◌∙◌}
use Rattle.files_disk.specs.Telling.{IsListed, Told}
use Rattle.def_keeper.specs.Finding.{HasFoundAt, IsFirstIn}
use Rattle.def_map.specs.Map.{found}
use Rattle.def_keeper.specs.Opened.{HasTidied}
use Rattle.def_keeper.specs.Opening.{IsInOrder}
use Rattle.def_keeper.specs.Tidying.{Tidies}
use Rattle.def_keeper.proofs.OpenedSo.{opened_at, refused_at}
use Rattle.def_keeper.proofs.Tidies.{tidies_none}
use Rattle.def_keeper.proofs.open.open_in.Goals as goal

pub returns-in-Ok-tidy-clause-ok : goal.returns-in-Ok-tidy-clause-ok
returns-in-Ok-tidy-clause-ok g c =
    let told = g.F.Files.told c.args.files.now in
    let names = c.as_slice-all.result.now in
    opened_at told (g.F.Files.told c.tidy.new.files) names (found c.take_all.new.map) c.tidy.new.finds
    (subst (λ (l : List (List ℕ)). IsListed told l) (sym c.as_slice-all.ensures) c.in-Ok.ensures.names)
    (subst (λ rows. HasFoundAt told names (found c.take_all.new.map) rows) (sym c.tidy.ensures.definitions) (subst (λ (t : Told). HasFoundAt t names (found c.take_all.new.map) c.take_all.new.rows) c.listed.ensures.told c.in-Ok-take_all.ensures.ok))
    (subst (λ (t : Told). HasTidied t names c.tidy.new.finds.statuses (g.F.Files.told c.tidy.new.files)) (c.take_all.ensures.told ∙ c.listed.ensures.told) c.in-Ok-tidy.ensures.ok)

pub returns-in-Err-clause-err : goal.returns-in-Err-clause-err
returns-in-Err-clause-err g c =
    let told = g.F.Files.told c.args.files.now in
    let names = c.as_slice-all.result.now in
    refused_at told names c.in-Err.fault
    (subst (λ (l : List (List ℕ)). IsListed told l) (sym c.as_slice-all.ensures) c.in-Ok.ensures.names)
    (subst IsInOrder (sym c.as_slice-all.ensures) c.in-Ok.ensures.ordered)
    (subst (λ (t : Told). IsFirstIn t names c.in-Err.fault) c.listed.ensures.told c.in-Err.ensures.err)

pub returns-in-Ok-tidy-clause-told : goal.returns-in-Ok-tidy-clause-told
returns-in-Ok-tidy-clause-told g c = subst (λ (t : Told). Tidies t (g.F.Files.told c.tidy.new.files)) (c.take_all.ensures.told ∙ c.listed.ensures.told) c.tidy.ensures.told

pub returns-in-Err-Failed-tidy-clause-told : goal.returns-in-Err-Failed-tidy-clause-told
returns-in-Err-Failed-tidy-clause-told g c = subst (λ (t : Told). Tidies t (g.F.Files.told c.tidy.new.files)) (c.take_all.ensures.told ∙ c.listed.ensures.told) c.tidy.ensures.told

pub returns-clause-told : goal.returns-clause-told
returns-clause-told g c = subst (λ (t : Told). Tidies t (g.F.Files.told c.tidy.new.files)) (c.take_all.ensures.told ∙ c.listed.ensures.told) c.tidy.ensures.told

pub returns-in-Err-clause-told : goal.returns-in-Err-clause-told
returns-in-Err-clause-told g c = tidies_none (g.F.Files.told c.args.files.now) (g.F.Files.told c.take_all.new.files) (c.take_all.ensures.told ∙ c.listed.ensures.told)

pub returns-in-Err-Failed-clause-told : goal.returns-in-Err-Failed-clause-told
returns-in-Err-Failed-clause-told g c = tidies_none (g.F.Files.told c.args.files.now) (g.F.Files.told c.listed.new.files) c.listed.ensures.told

pub returns-in-Err-NoMemory-clause-told : goal.returns-in-Err-NoMemory-clause-told
returns-in-Err-NoMemory-clause-told g c = tidies_none (g.F.Files.told c.args.files.now) (g.F.Files.told c.listed.new.files) c.listed.ensures.told
