use Rattle.std.proofs.Common.{◌∙◌}
use Rattle.virsh_text.proofs.Info.{info_is}
use Rattle.virsh_text.proofs.domain.info_text.Goals as goal

pub returns : goal.returns
returns c = c.of.ensures ∙ info_is c.args.domain.now c.args.info.now c.args.autostart _ _ _ _ _ _ _ _ _ _ _ _ _ _
    c.new-text.ensures.bytes c.in_ok-push_field.ensures c.in_ok-push_uuid.ensures c.in_ok-push_field-2.ensures c.in_ok-push_field-3.ensures c.in_ok-push_field-4.ensures c.in_ok-push_field-5.ensures c.in_ok-push_field-6.ensures
    c.as_str.ensures.value c.word.ensures (c.as_str-2.ensures.value ∙ c.in_ok-vcpus.ensures.ok) (c.as_str-3.ensures.value ∙ c.in_ok-memory.ensures) (c.as_str-4.ensures.value ∙ c.in_ok-current.ensures) c.enabled.ensures
