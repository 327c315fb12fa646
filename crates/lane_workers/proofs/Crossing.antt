-- A worker may go to another thread, and what is left of it may come back, where its pieces, its row and its sink may.
use denote.Builtin.{u8, unit}
use denote.Param.Send.{IsSend, plain_send, recorded_send, struct_send, view_send}
use denote.RattleType.{RattleType}
use denote.Struct.Declared as struct
use Rattle.std.proofs.Crossing.{Vec-send, crosses}
use Rattle.std.proofs.option.Option.TheSendSync as option
use Rattle.lanes.proofs.lane.Lane.TheSendSync as lane
use Rattle.packet.specs.declared.outside.Sink as sink
use Rattle.sink_turns.proofs.mark.Noted.TheSendSync as noted
use Rattle.sink_turns.specs.contracts.mark.Mark
use Rattle.sink_turns.specs.contracts.mark.Noted
use Rattle.sink_turns.specs.contracts.mark.Start
use Rattle.sink_turns.specs.contracts.spoken.Out
use Rattle.sink_turns.specs.contracts.spoken.Out.TheInside as out
use Rattle.turn_cell.proofs.turn.Pass.TheSendSync as pass
use Rattle.lane_workers.proofs.worker.Stop.TheSendSync as stop
use Rattle.lane_workers.specs.contracts.worker.Stop
use Rattle.lane_workers.specs.contracts.worker.Worked
use Rattle.lane_workers.specs.contracts.worker.Worker

module _ (K : RattleType) (s : sink.Ghosts K.Denot) (k : IsSend K) where
  pub out_send : IsSend (Out.the_row K s)
  out_send = let T = out.the_type K s in view_send (out.the_row K s) _ _ _ _ (recorded_send (out.the_field K s).row _ _ T.to_one (struct_send (struct.shape T)
      (k, (search crosses, (Vec-send Noted.the_row noted.the_send, (Vec-send u8 (plain_send _ _ _ _ _), (plain_send _ _ _ _ _, tt)))))))

  worker_field_send : (T W : RattleType) → IsSend T → IsSend W → IsSend (Worker.the_field T W K s).row
  worker_field_send T W t w = struct_send (struct.shape (Worker.the_type T W K s)) (lane.the_send T t, (pass.the_send (Out.the_row K s) Start.the_row Mark.the_row unit _ out_send, (w, tt)))

  pub worker_send : (T W : RattleType) → IsSend T → IsSend W → IsSend (Worker.the_row T W K s)
  worker_send T W t w = recorded_send (Worker.the_field T W K s).row _ _ (Worker.the_type T W K s).to_one (worker_field_send T W t w)

  pub worked_send : (T W : RattleType) → IsSend T → IsSend W → IsSend (Worked.the_row T W K s)
  worked_send T W t w = recorded_send (Worked.the_field T W K s).row _ _ (Worked.the_type T W K s).to_one
      (struct_send (struct.shape (Worked.the_type T W K s)) (worker_field_send T W t w, (option.the_field_send Stop.the_row stop.the_send, tt)))
