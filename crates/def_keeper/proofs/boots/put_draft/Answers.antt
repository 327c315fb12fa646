use Rattle.def_keeper.proofs.Drafting.{not_named, not_removed}
use Rattle.def_keeper.proofs.boots.put_draft.Goals as goal

pub returns-in-Err-clause-told : goal.returns-in-Err-clause-told
returns-in-Err-clause-told g c =
    not_removed c.args.draft.now c.args.name.now c.args.content.now (g.F.Files.told c.args.files.now) (g.F.Files.told c.write.new.self) (g.F.Files.told c.remove.new.self)
    c.in-Ok.ensures.told c.in-Err.ensures.told

pub returns-in-Err-Failed-rename-clause-told : goal.returns-in-Err-Failed-rename-clause-told
returns-in-Err-Failed-rename-clause-told g c =
    not_named c.args.draft.now c.args.name.now c.args.content.now (g.F.Files.told c.args.files.now) (g.F.Files.told c.write.new.self) (g.F.Files.told c.remove.new.self) (g.F.Files.told c.rename.new.self)
    c.in-Ok.ensures.told c.in-Ok-remove.ensures.told c.in-Err-Failed-rename.ensures.told
