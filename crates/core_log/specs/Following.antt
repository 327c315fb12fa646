-- What follows a mark, over the ledger and its listeners.
use Rattle.std.specs.Prelude.{◌≡◌, ◌+◌, List, map}
use Rattle.domain_spec.specs.Fold.{at_base}
use Rattle.domain_spec.specs.Legal.{IsLegal}
use Rattle.core_flight.specs.Ledger.{Ledgered, with_marks}
use Rattle.core_flight.specs.Told.{told_last}
use Rattle.event_queue.specs.Listening.{Listening, hears, registrations}
use Rattle.core_log.specs.Record.{cuts_after, open_ends}

-- the listeners heard what the last mark told, and those that overflowed were cut
pub record IsFollowed (old new : Ledgered) (ls ms : List Listening) : Type 0 where
  pub history : new.history ≡ with_marks old.history (cuts_after (registrations ls) (told_last old.history.marks))
  pub course : new.course ≡ old.course
  pub listeners : ms ≡ map (hears (told_last old.history.marks)) ls
  pub spare : new.spare + open_ends (registrations ls) ≡ old.spare + open_ends (registrations ms)
  pub legal : IsLegal (at_base new.history.base) new.history.marks
