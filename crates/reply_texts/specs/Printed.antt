-- What of a domain's cell goes into a reply: a reference to the domain, and texts of its parts.
use Rattle.domain_texts.specs.Below.xml_print.LiveText.{live_tree}
use Rattle.domain_texts.specs.Below.session_spec.DefinitionText.{text_of}
use Rattle.snapshot_xml.specs.SnapshotText.{kept_tree}
use Rattle.text_spec.specs.Written.{written}
use Rattle.virt_types.specs.declared.value.Reply.{Reply}
use Rattle.virt_types.specs.declared.value.Reply.TheVariants as reply
use Rattle.virt_types.specs.declared.value.Value.{Value}
use Rattle.virt_types.specs.declared.value.Value.TheVariants as value

-- a value as replies have it
abbrev pub printed : Value → Value
printed (value.Reference row) = value.Domain row.domain
printed (value.Definition d) = value.Text (text_of d)
printed (value.Live l) = value.Text (written (live_tree l))
printed (value.Snapshot s) = value.Text (written (kept_tree s))
printed (value.MigratedGuest g) = value.MigratedText (record { definition = text_of g.definition; running = g.running; state = g.state })
printed v = v

-- a reply of a domain's cell as the caller is told it
abbrev pub told : Reply → Reply
told (reply.Ok v) = reply.Ok (printed v)
told (reply.No why) = reply.No why
