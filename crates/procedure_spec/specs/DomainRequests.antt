-- Which request for a domain a procedure with arguments asks, by the shape of these, where it takes such arguments.
use Rattle.std.specs.Prelude.{ℕ, ℤ, List, Option, None, Some}
use Rattle.virt_types.specs.declared.object_request.DomainRequest.{DomainRequest}
use Rattle.virt_types.specs.declared.object_request.DomainRequest.TheVariants as on_domain
use Rattle.procedure_spec.specs.declared.arguments.Arguments.{Arguments}
use Rattle.procedure_spec.specs.declared.arguments.Arguments.TheVariants as args
use Rattle.procedure_spec.specs.declared.procedure.Procedure.{Procedure}
use Rattle.procedure_spec.specs.declared.procedure.Procedure.TheVariants as procedure

abbrev pub domain_alone : Procedure → Option DomainRequest
domain_alone procedure.DomainCreate = Some on_domain.Create
domain_alone procedure.DomainDestroy = Some on_domain.Destroy
domain_alone procedure.DomainGetAutostart = Some on_domain.GetAutostart
domain_alone procedure.DomainGetInfo = Some on_domain.GetInfo
domain_alone procedure.DomainResume = Some on_domain.Resume
domain_alone procedure.DomainShutdown = Some on_domain.Shutdown
domain_alone procedure.DomainSuspend = Some on_domain.Suspend
domain_alone procedure.DomainUndefine = Some on_domain.Undefine
domain_alone procedure.JobInfo = Some on_domain.JobInfo
domain_alone procedure.JobAbort = Some on_domain.JobAbort
domain_alone procedure.SnapList = Some on_domain.SnapList
domain_alone procedure.EventRegister = Some on_domain.EventRegister
domain_alone procedure.EventDeregister = Some on_domain.EventDeregister
domain_alone procedure.MemoryStats = Some on_domain.MemoryStats
domain_alone procedure.MigratePerform = Some on_domain.MigratePerform
domain_alone _ = None

abbrev pub domain_with_word : Procedure → ℕ → Option DomainRequest
domain_with_word procedure.DomainGetXmlDesc number = Some (on_domain.GetXmlDesc number)
domain_with_word procedure.DomainReboot number = Some (on_domain.Reboot number)
domain_with_word procedure.DomainSetVcpus number = Some (on_domain.SetVcpus number)
domain_with_word _ number = None

abbrev pub domain_with_integer : Procedure → ℤ → Option DomainRequest
domain_with_integer procedure.DomainSetAutostart number = Some (on_domain.SetAutostart number)
domain_with_integer procedure.Kick number = Some (on_domain.Kick number)
domain_with_integer procedure.MigrateConfirm number = Some (on_domain.MigrateConfirm number)
domain_with_integer procedure.MigrateFinish number = Some (on_domain.MigrateFinish number)
domain_with_integer _ number = None

abbrev pub domain_with_double_word : Procedure → ℕ → Option DomainRequest
domain_with_double_word procedure.DomainSetMemory number = Some (on_domain.SetMemory number)
domain_with_double_word procedure.MigrateLimit number = Some (on_domain.MigrateLimit number)
domain_with_double_word _ number = None

abbrev pub domain_with_definition : Procedure → List ℕ → Option DomainRequest
domain_with_definition procedure.DomainAttachDevice xml = Some (on_domain.AttachDevice xml)
domain_with_definition procedure.DomainDetachDevice xml = Some (on_domain.DetachDevice xml)
domain_with_definition procedure.SnapCreate xml = Some (on_domain.SnapCreate xml)
domain_with_definition _ xml = None

abbrev pub domain_with_name : Procedure → List ℕ → Option DomainRequest
domain_with_name procedure.DomainSave name = Some (on_domain.Save name)
domain_with_name procedure.SnapParent name = Some (on_domain.SnapParent name)
domain_with_name procedure.SnapRevert name = Some (on_domain.SnapRevert name)
domain_with_name procedure.SnapXml name = Some (on_domain.SnapXml name)
domain_with_name _ name = None

abbrev pub domain_with_name_word : Procedure → List ℕ → ℕ → Option DomainRequest
domain_with_name_word procedure.DomainCoreDump name number = Some (on_domain.CoreDump name number)
domain_with_name_word _ name number = None

abbrev pub domain_with_name_integer : Procedure → List ℕ → ℤ → Option DomainRequest
domain_with_name_integer procedure.SnapDelete name number = Some (on_domain.SnapDelete name number)
domain_with_name_integer _ name number = None

abbrev pub domain_request : Procedure → Arguments → Option DomainRequest
domain_request p args.Nothing = domain_alone p
domain_request p (args.Word number) = domain_with_word p number
domain_request p (args.Integer number) = domain_with_integer p number
domain_request p (args.DoubleWord number) = domain_with_double_word p number
domain_request p (args.Definition xml) = domain_with_definition p xml
domain_request p (args.Name name) = domain_with_name p name
domain_request p (args.NameWord name number) = domain_with_name_word p name number
domain_request p (args.NameInteger name number) = domain_with_name_integer p name number
domain_request p _ = None
