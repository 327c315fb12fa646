-- The statuses of the program.
use Rattle.std.specs.Prelude.{ℕ}
use Rattle.daemon_settings.specs.declared.settings.SettingsFault.{SettingsFault}
use Rattle.daemon_settings.specs.declared.settings.SettingsFault.TheVariants as settings
use Rattle.driver_store.specs.declared.fault.DriverFault.{DriverFault}
use Rattle.driver_store.specs.declared.fault.DriverFault.TheVariants as fault
use Rattle.session_spec.specs.declared.end.End.{End}
use Rattle.session_spec.specs.declared.end.End.TheVariants.{BadPacket, Closed, Eof, NoMemory, SinkFault, SourceFault, Truncated}
use Rattle.virt_types.specs.Below.types_base.declared.memory.OrNoMemory.{OrNoMemory}
use Rattle.virt_types.specs.Below.types_base.declared.memory.OrNoMemory.TheVariants as or

-- the status of a session's end
abbrev pub status : End → ℕ
status Closed = 0
status Eof = 0
status SourceFault = 5
status SinkFault = 5
status (BadPacket bad) = 7
status (Truncated rest) = 8
status NoMemory = 12

-- the status where a daemon isn't opened: the files of its store failed, one of them is no good, or there was no memory
abbrev pub fault_status : OrNoMemory DriverFault → ℕ
fault_status (or.Fault fault.Device) = 4
fault_status (or.Fault other) = 6
fault_status or.NoMemory = 12

-- the status where the configuration of a directory isn't known: the store failed, a line is in no form, or there was no memory
abbrev pub settings_status : OrNoMemory SettingsFault → ℕ
settings_status (or.Fault settings.Device) = 4
settings_status (or.Fault (settings.Line bad)) = 3
settings_status or.NoMemory = 12
