use Rattle.held_tasks.proofs.store.serve_with.Given as goal

abbrev pub ghosts-serve_at : goal.ghosts-serve_at
ghosts-serve_at g a = record { store = a.means.store; faults = g.G.Guests.faults a.means.guests }
