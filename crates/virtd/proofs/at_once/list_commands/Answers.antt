use Rattle.virtd.proofs.at_once.list_commands.Goals as goal

pub returns : goal.returns
returns g c = (
  c.print-put.result,
  rw (c.as_bytes.ensures.value, c.command_list.ensures, ← c.status_once_printed.ensures.given) at c.print-put.ensures,
  c.status_once_printed.ensures.status,
)
