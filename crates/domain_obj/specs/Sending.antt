-- What the guest of a ticket is sent.
use Rattle.std.specs.Prelude.{◌≡◌, ◌≤◌, Option, None, Some}
use Rattle.domain_spec.specs.Types.{Answer, Ask, Command}
use Rattle.domain_spec.specs.Types.answer
use Rattle.domain_spec.specs.Types.ask
use Rattle.domain_spec.specs.Types.given
use Rattle.monitor_link.specs.Causes.{IsAnswerCaused}
use Rattle.monitor_link.specs.Exchanges.{Reports}
use Rattle.monitor_link.specs.declared.link.Monitor as monitor

module _ {M : Type 0} (g : monitor.Ghosts M) where
  -- a monitor was sent a command, once, and answered so
  pub record WasSent (c : Command) (before after : M) (a : Answer) : Type 0 where
    pub guest : g.guest after ≡ g.guest before
    pub cause : IsAnswerCaused a (g.ends after) (g.faults before) (g.faults after)
    pub ends_count : g.ends before ≤ g.ends after
    pub faults_count : g.faults before ≤ g.faults after
    pub reports : Reports (g.exchanges before) (g.exchanges after) c a

  -- so is the monitor that is there; without one a command is not sent, and is answered Ok without a value
  abbrev pub IsSent : Command → Option M → Option M → Answer → Type 0
  IsSent c None None a = a ≡ answer.Ok given.Nothing
  IsSent c (Some m) (Some n) a = WasSent c m n a
  IsSent c before after a = ⊥

  -- commands go to the monitor, and nothing else does
  abbrev pub SendsToGuest : Ask → Option M → Option M → Answer → Type 0
  SendsToGuest (ask.Command c) before after a = IsSent c before after a
  SendsToGuest other before after a = after ≡ before
