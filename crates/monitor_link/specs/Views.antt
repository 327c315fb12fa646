-- What contracts see of a link and of its parts, whatever their types.
use Rattle.std.specs.Prelude.{◌≡◌, ℕ, List, Option}
use Rattle.monitor_link.specs.declared.exchange.Exchange.{Exchange}
use Rattle.monitor_link.specs.declared.guest.Guest.{Guest}
use Rattle.monitor_link.specs.declared.guests.Link.{Link}
use Rattle.monitor_link.specs.declared.link.Ears as ears
use Rattle.monitor_link.specs.declared.link.Killer as killer
use Rattle.monitor_link.specs.declared.link.Monitor as monitor
use Rattle.virt_types.specs.declared.ask.GuestEvent.{GuestEvent}
use Rattle.virt_types.specs.Below.types_base.declared.domain_def.DomainDef.{DomainDef}

-- the guest of this definition and boot
abbrev pub guest_of : DomainDef → ℕ → Guest
guest_of def boot = record { definition = def; boot = boot }

-- a monitor: whose it is, what it counted, and what it was sent, where it reports that
pub record MonitorView : Type 0 where
  pub guest : Guest
  pub ends : ℕ
  pub faults : ℕ
  pub exchanges : Option (List Exchange)

-- ears: whose they are, what they counted, and what is still to be heard, where they report that
pub record EarsView : Type 0 where
  pub guest : Guest
  pub ends : ℕ
  pub faults : ℕ
  pub unheard : Option (List GuestEvent)

-- what ends a guest: whose it is, and how often it was called
pub record KillerView : Type 0 where
  pub guest : Guest
  pub kills : ℕ

-- a link with its three parts
pub record LinkView : Type 0 where
  pub monitor : MonitorView
  pub ears : EarsView
  pub killer : KillerView

abbrev pub monitor_view : {M : Type 0} → monitor.Ghosts M → M → MonitorView
monitor_view g m = record { guest = g.guest m; ends = g.ends m; faults = g.faults m; exchanges = g.exchanges m }

abbrev pub ears_view : {E : Type 0} → ears.Ghosts E → E → EarsView
ears_view g e = record { guest = g.guest e; ends = g.ends e; faults = g.faults e; unheard = g.unheard e }

abbrev pub killer_view : {Z : Type 0} → killer.Ghosts Z → Z → KillerView
killer_view g z = record { guest = g.guest z; kills = g.kills z }

abbrev pub link_view : {G M E Z : Type 0} → monitor.Ghosts M → ears.Ghosts E → killer.Ghosts Z → Link G M E Z → LinkView
link_view m e z l = record { monitor = monitor_view m l.monitor; ears = ears_view e l.ears; killer = killer_view z l.killer }

-- all parts of a link are of this guest, and its killer was never called
pub record IsLinkTo (g : Guest) (l : LinkView) : Type 0 where
  pub monitor : l.monitor.guest ≡ g
  pub ears : l.ears.guest ≡ g
  pub killer : l.killer ≡ record { guest = g; kills = 0 }
