use Rattle.std.proofs.Common.{[], ◌∷◌}
use Rattle.virt_types.specs.declared.value.Value.TheVariants as value
use Rattle.virsh_text.proofs.Shapes.{said_number, same_command, snapshot_free}
use Rattle.virsh_text.proofs.text.of_domain_text.Goals as goal

pub returns-in-Number : goal.returns-in-Number
returns-in-Number c = λ o d. said_number _ _ _ _ o d _ _ c.in-Number.is (c.nothing_said.ensures d)

pub returns-in-SetMem : goal.returns-in-SetMem
returns-in-SetMem c = λ o d. same_command _ _ o _ _ c.in-SetMem.is (c.nothing_said-in-SetMem.ensures d)

pub returns-in-DomainFile : goal.returns-in-DomainFile
returns-in-DomainFile c = λ o d. same_command _ _ o _ _ c.in-DomainFile.is (c.text_done.ensures d)

pub returns-in-Snapshot : goal.returns-in-Snapshot
returns-in-Snapshot c = λ o d. same_command _ _ o _ _ c.in-Snapshot.is (snapshot_free c.in-Snapshot.verb c.in-Snapshot.name c.in-Snapshot.snapshot o (value.Domain d ∷ c.args.answer.now ∷ []) c.snapshot_text.result (c.snapshot_text.ensures d))
