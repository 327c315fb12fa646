-- What `virtd.conf` says, by its bytes and by the directory that it may be in.
use Rattle.std.specs.Prelude.{◌≡◌, ◌+◌, List, [], ℕ, codes, fold, not, position, unwrap_or, Option, None, Some, Result, Ok, Err}
use Rattle.files_disk.specs.Telling.{Told}
use Rattle.store_spec.specs.Directory.{Directory, directory}
use Rattle.types_base.specs.declared.memory.OrNoMemory.{OrNoMemory}
use Rattle.types_base.specs.declared.memory.OrNoMemory.TheVariants as or
use Rattle.daemon_settings.specs.declared.settings.BadLine.{BadLine}
use Rattle.daemon_settings.specs.declared.settings.Settings.{Settings}
use Rattle.daemon_settings.specs.declared.settings.SettingsFault.{SettingsFault}
use Rattle.daemon_settings.specs.declared.settings.SettingsFault.TheVariants as fault
use Rattle.daemon_settings.specs.declared.settings.TheConstants.{DEFAULT_SESSIONS}
use Rattle.daemon_settings.specs.Lines.{has_form, lines_of, sessions_in}

-- the place of the first line that is in no form
abbrev pub wrong_in : List (List ℕ) → Option ℕ
wrong_in lines = position (λ line. not (has_form line)) lines

-- the number of sessions of the last line that gives one
abbrev pub last_sessions : List (List ℕ) → ℕ
last_sessions lines = fold (λ n line. unwrap_or (sessions_in line) n) DEFAULT_SESSIONS lines

-- the settings, or the first line that is in no form; lines count from 1
abbrev pub settings_or : Option ℕ → ℕ → Result Settings BadLine
settings_or None sessions = Ok (record { max_sessions = sessions })
settings_or (Some at) sessions = Err (record { line = at + 1 })

-- what the bytes of the file say
unfoldable pub settings_in : List ℕ → Result Settings BadLine
settings_in bytes = settings_or (wrong_in (lines_of bytes)) (last_sessions (lines_of bytes))

-- the configuration's file
abbrev pub file_name : List ℕ
file_name = codes "virtd.conf"

-- what a directory says; an absent file is empty
abbrev pub settings_of : Directory → Result Settings BadLine
settings_of d = settings_in (unwrap_or (d file_name) [])

-- this is what the directory of a store says that tells its operations, unless the store failed or there was no memory
abbrev pub HasLoaded : Told → Result Settings (OrNoMemory SettingsFault) → Type 0
HasLoaded (Some os) (Ok settings) = settings_of (directory os) ≡ Ok settings
HasLoaded (Some os) (Err (or.Fault (fault.Line bad))) = settings_of (directory os) ≡ Err bad
HasLoaded told result = Unit {0}
