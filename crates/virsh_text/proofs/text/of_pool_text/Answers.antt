use Rattle.std.proofs.Common.{[], ◌∷◌}
use Rattle.virt_types.specs.declared.value.Value.TheVariants as value
use Rattle.virsh_text.proofs.Shapes.{pool_free, same_command, volume_free}
use Rattle.virsh_text.proofs.text.of_pool_text.Goals as goal

pub returns-in-Pool : goal.returns-in-Pool
returns-in-Pool c = λ o. same_command _ _ o _ _ c.in-Pool.is (pool_free c.in-Pool.verb c.in-Pool.name o (value.Pool c.args.pool.now ∷ c.args.answer.now ∷ []) c.pool_text.result c.pool_text.ensures)

pub returns-in-VolCreate : goal.returns-in-VolCreate
returns-in-VolCreate c = λ o. same_command _ _ o _ _ c.in-VolCreate.is (c.made_text.ensures c.args.pool.now)

pub returns-in-Volume : goal.returns-in-Volume
returns-in-Volume c = λ o. same_command _ _ o _ _ c.in-Volume.is (volume_free c.in-Volume.verb c.in-Volume.pool c.in-Volume.volume o (value.Pool c.args.pool.now ∷ c.args.answer.now ∷ []) c.volume_text.result (c.volume_text.ensures c.args.pool.now))
