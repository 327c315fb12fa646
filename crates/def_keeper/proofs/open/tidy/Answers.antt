use Rattle.std.proofs.Common.{⊎_elim, subst, sym}
use Rattle.files_disk.specs.Telling.{Told}
use Rattle.def_keeper.specs.Tidying.{HasRemovedAt, Tidies}
use Rattle.def_keeper.proofs.Tidies.{tidies_none, tidies_synced}
use Rattle.def_keeper.proofs.open.tidy.Goals as goal

pub returns-in-Ok-sync_dir-clause-ok : goal.returns-in-Ok-sync_dir-clause-ok
returns-in-Ok-sync_dir-clause-ok g c = (
  c.in-Ok.ensures.ok,
  (
    g.F.Files.told c.remove_all.new.files,
    subst (λ (t : Told). HasRemovedAt t c.args.names.now (g.F.Files.told c.remove_all.new.files)) c.report_all.ensures.told c.in-Ok-remove_all.ensures.ok,
    c.in-Ok-sync_dir.ensures.told,
  ),
)

pub returns-in-Ok-sync_dir-clause-told : goal.returns-in-Ok-sync_dir-clause-told
returns-in-Ok-sync_dir-clause-told g c = tidies_synced (g.F.Files.told c.args.files.now) (g.F.Files.told c.remove_all.new.files) (g.F.Files.told c.sync_dir.new.self)
    (subst (λ (t : Told). Tidies t (g.F.Files.told c.remove_all.new.files)) c.report_all.ensures.told c.remove_all.ensures.told) c.in-Ok-sync_dir.ensures.told

pub returns-in-Err-sync_dir-clause-told : goal.returns-in-Err-sync_dir-clause-told
returns-in-Err-sync_dir-clause-told g c =
    let told = g.F.Files.told c.args.files.now in
    let mid = g.F.Files.told c.remove_all.new.files in
    let t = subst (λ (x : Told). Tidies x mid) c.report_all.ensures.told c.remove_all.ensures.told in
    ⊎_elim
    (λ done. tidies_synced told mid (g.F.Files.told c.sync_dir.new.self) t done)
    (λ none. subst (Tidies told) (sym none) t)
    c.in-Err-sync_dir.ensures.told

pub returns-in-Err-clause-told : goal.returns-in-Err-clause-told
returns-in-Err-clause-told g c = subst (λ (x : Told). Tidies x (g.F.Files.told c.remove_all.new.files)) c.report_all.ensures.told c.remove_all.ensures.told

pub returns-in-Err-Failed-clause-told : goal.returns-in-Err-Failed-clause-told
returns-in-Err-Failed-clause-told g c = tidies_none (g.F.Files.told c.args.files.now) (g.F.Files.told c.report_all.new.files) c.report_all.ensures.told

pub returns-in-Err-NoMemory-clause-told : goal.returns-in-Err-NoMemory-clause-told
returns-in-Err-NoMemory-clause-told g c = tidies_none (g.F.Files.told c.args.files.now) (g.F.Files.told c.report_all.new.files) c.report_all.ensures.told
