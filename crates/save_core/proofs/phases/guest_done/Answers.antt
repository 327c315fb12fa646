use Rattle.save_core.proofs.phases.guest_done.Goals as goal

-- as its own function says
pub returns-then-ends_guest : goal.returns-then-ends_guest
returns-then-ends_guest c = c.ends_done.ensures c.args.answers.now
