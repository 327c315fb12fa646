-- What the types of a value's parts hold: names are names, and texts are texts.
use Rattle.std.specs.Prelude.{◌≤◌, List, length, IfSome}
use Rattle.std.specs.List.{AllByRecursion}
use Rattle.std.specs.Str.{IsUtf8}
use Rattle.virt_types.specs.Name.{IsName}
use Rattle.virt_types.specs.declared.value.TitleRow.{TitleRow}
use Rattle.virt_types.specs.declared.value.Value.{Value}
use Rattle.virt_types.specs.declared.value.Value.TheVariants as value
use Rattle.wire_spec.specs.Xdr.{IsDoubleWord}
use Rattle.procedure_spec.specs.ResultItems.{IsDomainRow, IsInfo, IsJob, IsLeaseRow, IsObjectReference, IsPoolRow, IsReference, IsTitleRow}
use Rattle.procedure_spec.specs.declared.words.TheConstants.{TITLE_BOUND}

abbrev pub Holds : Value → Type 0
Holds (value.Domain d) = IsReference d
Holds (value.Network n) = IsObjectReference n.name n.uuid
Holds (value.Pool p) = IsObjectReference p.name p.uuid
Holds (value.Text t) = IsUtf8 t
Holds (value.Info i) = IsInfo i
Holds (value.Names ns) = AllByRecursion IsName ns
Holds (value.Domains rows) = AllByRecursion IsDomainRow rows
Holds (value.Pools rows) = AllByRecursion IsPoolRow rows
Holds (value.Job j) = IsJob j
Holds (value.Name n) = IsName n
Holds (value.Parent p) = IfSome p IsName
Holds (value.Memory n) = IsDoubleWord n
Holds (value.Leases rows) = AllByRecursion IsLeaseRow rows
Holds (value.Titles rows) = AllByRecursion IsTitleRow rows
Holds (value.MigratedText m) = IsUtf8 m.definition
Holds _ = Unit {0}

-- no title is longer than titles are
abbrev pub AreShort : List TitleRow → Type 0
AreShort rows = AllByRecursion (λ t. length t.title ≤ TITLE_BOUND) rows
