use Rattle.virsh_text.proofs.Shapes.{file_free, same_command}
use Rattle.virsh_text.proofs.text.text_of.Goals as goal

pub returns-in-File : goal.returns-in-File
returns-in-File c = same_command _ _ c.args.option _ _ c.in-File.is (file_free c.in-File.verb c.in-File.file c.args.option c.args.values.now c.defined_text.result c.defined_text.ensures)

pub returns-in-Restore : goal.returns-in-Restore
returns-in-Restore c = same_command _ _ c.args.option _ _ c.in-Restore.is c.restored_text.ensures

pub returns-in-Network : goal.returns-in-Network
returns-in-Network c = same_command _ _ c.args.option _ _ c.in-Network.is (c.one_of_network_text.ensures c.args.option _)

pub returns-in-Pool : goal.returns-in-Pool
returns-in-Pool c = c.one_of_pool_text.ensures c.args.option

pub returns-in_default : goal.returns-in_default
returns-in_default c = c.one_of_domain_text.ensures c.args.option
