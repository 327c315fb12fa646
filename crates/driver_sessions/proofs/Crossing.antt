-- Whoever has six rows of a driver may go to another thread with them, where the files, the maker of guests, the links of guests
-- and he himself may.
use denote.Param.Send.{IsSend, recorded_send, struct_send, view_send}
use denote.RattleType.{RattleType}
use denote.Struct.Declared as struct
use Rattle.def_keeper.specs.declared.opening.Opening as opening
use Rattle.driver_crossing.proofs.Crossing.{row_send}
use Rattle.driver_sessions.specs.contracts.seats.Seated
use Rattle.driver_sessions.specs.contracts.seats.Seated.TheInside as seated
use Rattle.files_disk.specs.declared.files.Files as files
use Rattle.monitor_link.specs.declared.link.Ears as ears
use Rattle.monitor_link.specs.declared.guests.Guests as guests
use Rattle.monitor_link.specs.declared.link.Killer as killer
use Rattle.monitor_link.specs.declared.link.Monitor as monitor
use Rattle.six_rows.proofs.Below.row_session.connection.SixRows.TheSendSync as six

module _ (F K G M E Z : RattleType) (f : files.Ghosts F.Denot) (k : opening.Ghosts K.Denot) (g : guests.Ghosts G.Denot M.Denot E.Denot Z.Denot) (m : monitor.Ghosts M.Denot) (e : ears.Ghosts E.Denot) (z : killer.Ghosts Z.Denot)
    (sf : IsSend F) (sg : IsSend G) (sm : IsSend M) (se : IsSend E) (sz : IsSend Z) where
  pub seated_send : (C : RattleType) → IsSend C → IsSend (Seated.the_row F K G C M E Z f k g m e z)
  seated_send C sc =
      let T = seated.the_type F K G C M E Z f k g m e z in
      view_send (seated.the_row F K G C M E Z f k g m e z) _ _ _ _ (recorded_send (seated.the_field F K G C M E Z f k g m e z).row _ _ T.to_one (struct_send (struct.shape T)
      (six.the_field_send _ (row_send F K G M E Z f k g m e z sf sg sm se sz), (sc, tt))))
