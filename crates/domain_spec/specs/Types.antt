-- The types of virt_types that the definitions speak of, with their variants, under one roof.
pub use Rattle.virt_types.specs.Below.types_base.declared.caller.Front.{Front}
pub use Rattle.virt_types.specs.Below.types_base.declared.caller.Who.{Who}
pub use Rattle.virt_types.specs.Below.types_base.declared.mac.Mac.{Mac}
pub use Rattle.virt_types.specs.declared.run_state.Cause.{Cause}
pub use Rattle.virt_types.specs.declared.run_state.RunState.{RunState}
pub use Rattle.virt_types.specs.declared.run_state.EndReason.{EndReason}
pub use Rattle.virt_types.specs.declared.answer.Job.{Job}
pub use Rattle.virt_types.specs.declared.operation.OpKind.{OpKind}
pub use Rattle.virt_types.specs.declared.operation.Phase.{Phase}
pub use Rattle.virt_types.specs.declared.ask.GuestEvent.{GuestEvent}
pub use Rattle.virt_types.specs.Below.types_base.declared.device_def.InterfaceType.{InterfaceType}
pub use Rattle.virt_types.specs.Below.types_base.declared.device_def.Disk.{Disk}
pub use Rattle.virt_types.specs.Below.types_base.declared.device_def.Interface.{Interface}
pub use Rattle.virt_types.specs.Below.types_base.declared.device_def.InterfaceSource.{InterfaceSource}
pub use Rattle.virt_types.specs.Below.types_base.declared.device_def.DeviceDef.{DeviceDef}
pub use Rattle.virt_types.specs.Below.types_base.declared.domain_def.DomainDef.{DomainDef}
pub use Rattle.virt_types.specs.declared.domain.Live.{Live}
pub use Rattle.virt_types.specs.declared.operation.Op.{Op}
pub use Rattle.virt_types.specs.declared.domain.Snap.{Snap}
pub use Rattle.virt_types.specs.declared.domain.Domain.{Domain}
pub use Rattle.virt_types.specs.declared.domain.State.{State}
pub use Rattle.virt_types.specs.Below.types_base.declared.transition.Transition.{Transition}
pub use Rattle.virt_types.specs.Below.types_base.declared.refusal.RefusalCode.{RefusalCode}
pub use Rattle.virt_types.specs.Below.types_base.declared.refusal.Refusal.{Refusal}
pub use Rattle.virt_types.specs.declared.value.Value.{Value}
pub use Rattle.virt_types.specs.declared.value.Reply.{Reply}
pub use Rattle.virt_types.specs.declared.domain.SnapInfo.{SnapInfo}
pub use Rattle.virt_types.specs.declared.call.Call.{Call}
pub use Rattle.virt_types.specs.declared.ask.Command.{Command}
pub use Rattle.virt_types.specs.declared.ask.ImageKind.{ImageKind}
pub use Rattle.virt_types.specs.declared.ask.Ask.{Ask}
pub use Rattle.virt_types.specs.declared.answer.Answer.{Answer}
pub use Rattle.virt_types.specs.declared.answer.AnswerValue.{AnswerValue}
pub use Rattle.virt_types.specs.declared.reference.DomainRef.{DomainRef}
pub use Rattle.virt_types.specs.declared.run_state.DomainState.{DomainState}
pub use Rattle.virt_types.specs.declared.run_state.Cause.TheVariants as cause
pub use Rattle.virt_types.specs.declared.run_state.RunState.TheVariants as run
pub use Rattle.virt_types.specs.declared.run_state.EndReason.TheVariants as reason
pub use Rattle.virt_types.specs.declared.answer.Job.TheVariants as job
pub use Rattle.virt_types.specs.declared.operation.OpKind.TheVariants as kind
pub use Rattle.virt_types.specs.declared.operation.Phase.TheVariants as phase
pub use Rattle.virt_types.specs.declared.ask.GuestEvent.TheVariants as guest
pub use Rattle.virt_types.specs.Below.types_base.declared.device_def.InterfaceType.TheVariants as interface
pub use Rattle.virt_types.specs.Below.types_base.declared.device_def.DeviceDef.TheVariants as device
pub use Rattle.virt_types.specs.declared.domain.State.TheVariants as state
pub use Rattle.virt_types.specs.Below.types_base.declared.refusal.RefusalCode.TheVariants as code
pub use Rattle.virt_types.specs.declared.value.Value.TheVariants as value
pub use Rattle.virt_types.specs.declared.value.Reply.TheVariants as reply
pub use Rattle.virt_types.specs.declared.call.Call.TheVariants as call
pub use Rattle.virt_types.specs.declared.ask.Command.TheVariants as command
pub use Rattle.virt_types.specs.declared.ask.ImageKind.TheVariants as image
pub use Rattle.virt_types.specs.declared.ask.Ask.TheVariants as ask
pub use Rattle.virt_types.specs.declared.answer.Answer.TheVariants as answer
pub use Rattle.virt_types.specs.declared.answer.AnswerValue.TheVariants as given
pub use Rattle.virt_types.specs.declared.run_state.DomainState.TheVariants as wire
pub use Rattle.virt_types.specs.Below.types_base.declared.transition.TheConstants as told
