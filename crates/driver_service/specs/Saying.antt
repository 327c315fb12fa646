-- What is said of a reply of the driver.
use Rattle.std.specs.Prelude.{◌≡◌, ◌⊎◌}
use Rattle.procedure_spec.specs.Results.{result_shape}
use Rattle.refusals.specs.Replies.{no_memory_reply}
use Rattle.service_spec.specs.Sayable.{IsSayable}
use Rattle.virt_types.specs.declared.request.Request.{Request}
use Rattle.virt_types.specs.declared.value.Reply.{Reply}

-- the reply itself where it has the form of what its procedure replies, and else that there was no memory
abbrev pub IsSaid : Request → Reply → Reply → Type 0
IsSaid asked reply said = (IsSayable (result_shape asked) reply × (said ≡ reply))
    ⊎ ((IsSayable (result_shape asked) reply → ⊥) × (said ≡ no_memory_reply))
