use Rattle.std.proofs.Common.{List, ℕ, subst}
use Rattle.store_spec.specs.FileNames.{IsDefinitionName}
use Rattle.def_keeper.specs.Judging.{Judges}
use Rattle.def_keeper.proofs.Examines.{adds_definition}
use Rattle.def_keeper.proofs.examining.examine_definition.Goals as goal

pub returns-in-Ok-clause-ok : goal.returns-in-Ok-clause-ok
returns-in-Ok-clause-ok g c =
    adds_definition (g.F.Files.told c.args.files.now) c.args.file.now c.in-Ok-Some.bytes c.in-Ok.found c.args.names.now c.definition_found.new.names c.args.reports.now c.add.new.reports c.add.result c.is_definition_name.result
    (λ yes. subst IsDefinitionName c.as_bytes.ensures (c.is_definition_name.ensures.0 yes)) c.if-not-is_definition_name.false
    (rw c.in-Ok-Some.field-0-is at c.in-Ok-Some.ensures.content)
    (subst (λ (b : List ℕ). Judges c.args.file.now b c.args.names.now c.definition_found.new.names c.in-Ok.found) c.as_slice.ensures c.in-Ok.ensures)
    c.add.ensures.ok
