-- The lines that the client says on standard error.
use Rattle.std.specs.Prelude.{ℕ, List, codes}
use Rattle.command_spec.specs.Columns.{line}

-- the words are those of no command that is served
abbrev pub usage_line : List ℕ
usage_line = line (codes "virsh: usage")

-- the file has no text that may be sent
abbrev pub bad_file_line : List ℕ
bad_file_line = line (codes "virsh: bad file")

-- the file can't be read
abbrev pub file_line : List ℕ
file_line = line (codes "virsh: file")

-- the connection or standard output failed, or what came is no answer
abbrev pub link_line : List ℕ
link_line = line (codes "virsh: link")

-- there was no memory
abbrev pub memory_line : List ℕ
memory_line = line (codes "virsh: out of memory")
