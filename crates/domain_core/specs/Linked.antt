-- The link of the guest that is there, as a cell keeps it: its monitor may be out with the ticket of the open call, and
-- its ears with a pass that hears.
use Rattle.std.specs.Prelude.{◌≡◌, ℕ, ◌+◌, ◌==◌, Bool, true, false, is_some, not, option_map, Option, None, Some, if◌then◌else◌}
use Rattle.monitor_link.specs.Views.{EarsView, KillerView, LinkView, MonitorView}

-- a link: its boot, which of its parts are here, and what ends its guest
pub record Linked : Type 0 where
  pub boot : ℕ
  pub monitor : Option MonitorView
  pub ears : Option EarsView
  pub killer : KillerView

-- the boot of a link
abbrev pub boot_of : Option Linked → Option ℕ
boot_of link = option_map (λ l. l.boot) link

-- this is the boot
abbrev pub is_boot : Option ℕ → ℕ → Bool
is_boot None boot = false
is_boot (Some b) boot = b == boot

-- the link, unless its boot is another than the one that is made, or none is
abbrev pub kept_link : Option ℕ → Option Linked → Option Linked
kept_link made None = None
kept_link made (Some l) = if is_boot made l.boot then Some l else None

-- the link with this monitor, where that of its boot was out
abbrev pub with_monitor : Option ℕ → Option MonitorView → Option Linked → Option Linked
with_monitor out monitor None = None
with_monitor out monitor (Some l) = if is_boot out l.boot then Some (record l { monitor = monitor }) else Some l

-- the link whose monitor is out
abbrev pub without_monitor : Option Linked → Option Linked
without_monitor None = None
without_monitor (Some l) = Some (record l { monitor = None })

-- the link whose ears are out
abbrev pub without_ears : Option Linked → Option Linked
without_ears None = None
without_ears (Some l) = Some (record l { ears = None })

-- the link with these ears, where they are of its boot
abbrev pub with_ears_of : ℕ → EarsView → Option Linked → Option Linked
with_ears_of boot ears None = None
with_ears_of boot ears (Some l) = if l.boot == boot then Some (record l { ears = Some ears }) else Some l

-- the link whose killer was called once more
abbrev pub killed_link : Option Linked → Option Linked
killed_link None = None
killed_link (Some l) = Some (record l { killer = record l.killer { kills = l.killer.kills + 1 } })

-- the ears of a guest that was made now, unless ears of its boot are out
abbrev pub ears_unless : Bool → EarsView → Option EarsView
ears_unless true ears = None
ears_unless false ears = Some ears

-- the link of a guest that was made now; ears of its boot can't be out already
abbrev pub new_link : Option LinkView → Option ℕ → ℕ → Option Linked
new_link (Some l) heard boot = Some (record { boot = boot; monitor = Some l.monitor; ears = ears_unless (is_boot heard boot) l.ears; killer = l.killer })
new_link None heard boot = None

-- the link of the boot that is made: the one that is here, or else the one that was made now, if one was
abbrev pub link_or_new : Option LinkView → Option ℕ → ℕ → Option Linked → Option Linked
link_or_new fresh heard boot None = new_link fresh heard boot
link_or_new fresh heard boot (Some l) = if l.boot == boot then Some l else new_link fresh heard boot

-- the link after a guest may have been made
abbrev pub link_made : Option LinkView → Option ℕ → Option ℕ → Option Linked → Option Linked
link_made fresh heard None link = None
link_made fresh heard (Some boot) link = link_or_new fresh heard boot link

-- its monitor and its ears are here, unless they are out
abbrev pub IsWholeBut : Option ℕ → Option ℕ → Option Linked → Type 0
IsWholeBut out heard None = Unit {0}
IsWholeBut out heard (Some l) = (is_some l.monitor ≡ not (is_boot out l.boot)) × (is_some l.ears ≡ not (is_boot heard l.boot))

-- its monitor, where that is here
abbrev pub monitor_in : Option Linked → Option MonitorView
monitor_in None = None
monitor_in (Some l) = l.monitor

-- its ears, where they are here
abbrev pub ears_in : Option Linked → Option EarsView
ears_in None = None
ears_in (Some l) = l.ears

-- the link after a turn: its monitor goes out with a ticket
abbrev pub link_by : Bool → Option Linked → Option Linked
link_by true link = without_monitor link
link_by false link = link

-- the link after its ears were lent, if they were
abbrev pub link_lent : Option ℕ → Option Linked → Option Linked
link_lent None link = link
link_lent (Some boot) link = without_ears link
