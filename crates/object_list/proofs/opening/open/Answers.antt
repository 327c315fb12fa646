use Rattle.std.proofs.Common.{◌∙◌, ap}
use Rattle.book_spec.specs.Slots.{holds_of}
use Rattle.book_spec.specs.ListHistory.{slots_of}
use Rattle.object_list.proofs.Openings.{nobody_holds}
use Rattle.object_list.proofs.opening.open.Goals as goal

pub new_at-requires-clause-share : goal.new_at-requires-clause-share
new_at-requires-clause-share c = λ number _. ap (λ list. holds_of number (slots_of list)) c.in_ok-list.ensures ∙ nobody_holds number c.args.found.now c.requires.few
