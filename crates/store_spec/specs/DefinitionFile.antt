-- The bytes of a definition's file, in its two versions: `def 1 autostart=yes name=NAME` and the text; or the lines
-- `def 2 autostart=yes name=NAME`, `title=TITLE` and `length=N`, and a text of just N bytes.
use Rattle.std.specs.Prelude.{◌≡◌, ◌==◌, ◌≤◌, ◌++◌, Bool, false, List, [], ◌∷◌, ℕ, IsUtf8, codes, length, if◌then◌else◌}
use Rattle.std.specs.Fmt.{decimal}
use Rattle.std.specs.List.{list_any}
use Rattle.virt_types.specs.Limits.{most_text_bytes}
use Rattle.virt_types.specs.Name.{IsName}
use Rattle.store_spec.specs.declared.entry.Entry.{Entry}
use Rattle.store_spec.specs.declared.version.Version.{Version}
use Rattle.store_spec.specs.declared.version.Version.TheVariants as version

-- the byte that ends a line
abbrev pub line_feed : ℕ
line_feed = 10

-- there is a line feed in the text
abbrev pub has_feed : List ℕ → Bool
has_feed text = list_any (λ b. b == line_feed) text

-- the text as a line
abbrev pub line : List ℕ → List ℕ
line text = text ++ line_feed ∷ []

-- the word for a flag
abbrev pub yes_or_no : Bool → List ℕ
yes_or_no b = if b then codes "yes" else codes "no"

-- a first line: what gives the version, the flag and the name
abbrev pub first_line : List ℕ → Bool → List ℕ → List ℕ
first_line front autostart name = line (front ++ yes_or_no autostart ++ codes " name=" ++ name)

-- the lines before a text in version 2
abbrev pub three_lines : Bool → List ℕ → List ℕ → List ℕ → List ℕ
three_lines autostart name title digits =
    first_line (codes "def 2 autostart=") autostart name ++ line (codes "title=" ++ title) ++ line (codes "length=" ++ digits)

-- the lines before an entry's text
abbrev pub heading : Version → Entry → List ℕ
heading version.One e = first_line (codes "def 1 autostart=") e.autostart e.name
heading version.Two e = three_lines e.autostart e.name e.title (decimal (length e.text))

-- the bytes of an entry's file
unfoldable pub definition_bytes : Version → Entry → List ℕ
definition_bytes v e = heading v e ++ e.text

-- the title of a file of version 1 is empty, and that of a later one is one line
abbrev pub HasItsTitle : Version → List ℕ → Type 0
HasItsTitle version.One title = title ≡ []
HasItsTitle version.Two title = has_feed title ≡ false

-- an entry that a file of this version may hold
pub record IsEntryOf (v : Version) (e : Entry) : Type 0 where
  pub name : IsName e.name
  pub title : HasItsTitle v e.title
  pub title_utf8 : IsUtf8 e.title
  pub text : length e.text ≤ most_text_bytes
  pub text_utf8 : IsUtf8 e.text

-- these bytes are the file of this entry, in this version
pub record IsDefinitionFile (v : Version) (e : Entry) (bytes : List ℕ) : Type 0 where
  pub spelling : bytes ≡ definition_bytes v e
  pub entry : IsEntryOf v e
