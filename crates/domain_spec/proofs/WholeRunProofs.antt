-- Why a guest's whole life comes of a list of steps.
use Rattle.std.proofs.Common.{refl, inl, [], ◌∷◌, None, Some}
use Rattle.domain_spec.specs.Types.ask
use Rattle.domain_spec.specs.Types.call
use Rattle.domain_spec.specs.Types.command
use Rattle.domain_spec.specs.Types.job
use Rattle.domain_spec.specs.Types.phase
use Rattle.domain_spec.specs.Types.reply
use Rattle.domain_spec.specs.Types.told
use Rattle.domain_spec.specs.Types.value
use Rattle.domain_spec.specs.declared.mark.Mark.TheVariants as mark
use Rattle.domain_spec.specs.declared.step.Outcome.TheVariants as outcome
use Rattle.domain_spec.specs.Call.{tell}
use Rattle.domain_spec.specs.PhaseAsks.{two}
use Rattle.domain_spec.specs.WholeLife.{ok, unconnected}
use Rattle.domain_spec.specs.WholeRun.{LifeIsRun, cell_of}

pub life_is_run : LifeIsRun
life_is_run def n who = let u = unconnected def in (
  cell_of u (mark.Admit n who job.Modify call.Start None ∷ mark.Start n who call.Start None ∷ []) ([]),
  record { can = (record { no_call = tt; no_operation = tt }, refl, tt); left = ((record { numbered = refl; caller = refl; same_call = refl; own_job = refl }, refl, tt), tt, ((refl, record { call = record { numbered = refl; caller = refl; same_call = refl; same_boot = refl; own_job = refl }; right_before = refl; alone = refl; begins = refl }), tt, refl)); cuts = (tt, (tt, tt)); held = refl },
  record { base = refl; marks = refl; registrations = refl; answers = refl; away = tt; held = refl; queue = refl; ears = refl },
  (
    cell_of u (mark.Admit n who job.Modify call.Start None ∷ mark.Start n who call.Start None ∷ mark.Admit n who job.Nested call.Start (Some 1) ∷ []) ([]),
    record { can = (refl, refl, refl); left = (record { free = refl; numbered = refl; caller = refl; same_call = refl; nested = refl; due = tt; carried = refl }, tt, refl); cuts = (tt, tt); held = refl },
    record { base = refl; marks = refl; registrations = refl; answers = (0, refl); away = refl; held = refl; queue = refl; ears = refl },
    (
      cell_of u (mark.Admit n who job.Modify call.Start None ∷ mark.Start n who call.Start None ∷ mark.Admit n who job.Nested call.Start (Some 1) ∷ mark.Phase n who phase.Make (ask.Make u 1 ∷ []) (ok ∷ []) (outcome.On phase.Run) [] ∷ []) ([]),
      record { can = (refl, refl); left = ((refl, (0, refl), record { nested = record { nested = refl; job_number = refl; job_caller = refl; numbered = refl; caller = refl }; due = refl; made = inl (record { planned = (refl, refl); through = refl }); ended_first = refl; outcome_is = refl; told = refl }), tt, refl); cuts = (tt, tt); held = refl },
      record { base = refl; marks = refl; registrations = refl; answers = refl; away = tt; held = refl; queue = refl; ears = refl },
      (
        cell_of u (mark.Admit n who job.Modify call.Start None ∷ mark.Start n who call.Start None ∷ mark.Admit n who job.Nested call.Start (Some 1) ∷ mark.Phase n who phase.Make (ask.Make u 1 ∷ []) (ok ∷ []) (outcome.On phase.Run) [] ∷ mark.Admit n who job.Nested call.Start (Some 1) ∷ []) ([]),
        record { can = (refl, refl, refl); left = (record { free = refl; numbered = refl; caller = refl; same_call = refl; nested = refl; due = tt; carried = refl }, tt, refl); cuts = (tt, tt); held = refl },
        record { base = refl; marks = refl; registrations = refl; answers = (0, refl); away = refl; held = refl; queue = refl; ears = refl },
        (
          cell_of u (mark.Admit n who job.Modify call.Start None ∷ mark.Start n who call.Start None ∷ mark.Admit n who job.Nested call.Start (Some 1) ∷ mark.Phase n who phase.Make (ask.Make u 1 ∷ []) (ok ∷ []) (outcome.On phase.Run) [] ∷ mark.Admit n who job.Nested call.Start (Some 1) ∷ []) (ok ∷ []),
          record { can = (refl, refl); left = refl; cuts = tt; held = refl },
          record { base = refl; marks = refl; registrations = refl; answers = (0, refl); away = refl; held = refl; queue = refl; ears = refl },
          (
            cell_of u (mark.Admit n who job.Modify call.Start None ∷ mark.Start n who call.Start None ∷ mark.Admit n who job.Nested call.Start (Some 1) ∷ mark.Phase n who phase.Make (ask.Make u 1 ∷ []) (ok ∷ []) (outcome.On phase.Run) [] ∷ mark.Admit n who job.Nested call.Start (Some 1) ∷ mark.Phase n who phase.Run (two command.QueryStatus command.Cont) (ok ∷ ok ∷ []) (outcome.Over (reply.Ok value.Nothing)) (told.STARTED_BOOTED ∷ []) ∷ []) ([]),
            record { can = (refl, refl); left = ((refl, (0, refl), record { nested = record { nested = refl; job_number = refl; job_caller = refl; numbered = refl; caller = refl }; due = refl; made = inl (record { planned = (refl, refl); through = refl }); ended_first = refl; outcome_is = refl; told = refl }), tt, refl); cuts = (tt, tt); held = refl },
            record { base = refl; marks = refl; registrations = refl; answers = refl; away = tt; held = refl; queue = refl; ears = refl },
            (
              cell_of u (mark.Admit n who job.Modify call.Start None ∷ mark.Start n who call.Start None ∷ mark.Admit n who job.Nested call.Start (Some 1) ∷ mark.Phase n who phase.Make (ask.Make u 1 ∷ []) (ok ∷ []) (outcome.On phase.Run) [] ∷ mark.Admit n who job.Nested call.Start (Some 1) ∷ mark.Phase n who phase.Run (two command.QueryStatus command.Cont) (ok ∷ ok ∷ []) (outcome.Over (reply.Ok value.Nothing)) (told.STARTED_BOOTED ∷ []) ∷ mark.End n who (reply.Ok value.Nothing) ∷ []) ([]),
              record { can = (refl, refl, refl); left = ((refl, refl, record { numbered = refl; caller = refl; over = refl; no_nested = tt }), tt, refl); cuts = (tt, tt); held = refl },
              record { base = refl; marks = refl; registrations = refl; answers = refl; away = tt; held = refl; queue = refl; ears = refl },
              (
                cell_of u (mark.Admit n who job.Modify call.Start None ∷ mark.Start n who call.Start None ∷ mark.Admit n who job.Nested call.Start (Some 1) ∷ mark.Phase n who phase.Make (ask.Make u 1 ∷ []) (ok ∷ []) (outcome.On phase.Run) [] ∷ mark.Admit n who job.Nested call.Start (Some 1) ∷ mark.Phase n who phase.Run (two command.QueryStatus command.Cont) (ok ∷ ok ∷ []) (outcome.Over (reply.Ok value.Nothing)) (told.STARTED_BOOTED ∷ []) ∷ mark.End n who (reply.Ok value.Nothing) ∷ mark.Admit n who job.Suspend call.Suspend (Some 1) ∷ []) ([]),
                record { can = record { none_open = record { no_call = tt; no_operation = tt }; begins_none = refl; takes_none = refl; waits = tt; first_look = tt }; left = ((record { numbered = refl; caller = refl; same_call = refl; own_job = refl }, refl, tt), tt, refl); cuts = (tt, tt); held = refl },
                record { base = refl; marks = refl; registrations = refl; answers = (0, refl); away = refl; held = refl; queue = refl; ears = refl },
                (
                  cell_of u (mark.Admit n who job.Modify call.Start None ∷ mark.Start n who call.Start None ∷ mark.Admit n who job.Nested call.Start (Some 1) ∷ mark.Phase n who phase.Make (ask.Make u 1 ∷ []) (ok ∷ []) (outcome.On phase.Run) [] ∷ mark.Admit n who job.Nested call.Start (Some 1) ∷ mark.Phase n who phase.Run (two command.QueryStatus command.Cont) (ok ∷ ok ∷ []) (outcome.Over (reply.Ok value.Nothing)) (told.STARTED_BOOTED ∷ []) ∷ mark.End n who (reply.Ok value.Nothing) ∷ mark.Admit n who job.Suspend call.Suspend (Some 1) ∷ mark.Done n who call.Suspend (Some 1) (tell command.Stop) (ok ∷ []) (reply.Ok value.Nothing) (told.SUSPENDED_PAUSED ∷ []) ∷ []) ([]),
                  record { can = (refl, refl); left = ((refl, (0, refl), (record { numbered = refl; caller = refl; same_call = refl; same_boot = refl; own_job = refl }, record { planned = (refl, refl); through = refl; no_operation = refl; not_taken_up = refl; ended_first = refl; unsent = tt; reply = refl; told = refl })), tt, refl); cuts = (tt, tt); held = refl },
                  record { base = refl; marks = refl; registrations = refl; answers = refl; away = tt; held = refl; queue = refl; ears = refl },
                  (
                    cell_of u (mark.Admit n who job.Modify call.Start None ∷ mark.Start n who call.Start None ∷ mark.Admit n who job.Nested call.Start (Some 1) ∷ mark.Phase n who phase.Make (ask.Make u 1 ∷ []) (ok ∷ []) (outcome.On phase.Run) [] ∷ mark.Admit n who job.Nested call.Start (Some 1) ∷ mark.Phase n who phase.Run (two command.QueryStatus command.Cont) (ok ∷ ok ∷ []) (outcome.Over (reply.Ok value.Nothing)) (told.STARTED_BOOTED ∷ []) ∷ mark.End n who (reply.Ok value.Nothing) ∷ mark.Admit n who job.Suspend call.Suspend (Some 1) ∷ mark.Done n who call.Suspend (Some 1) (tell command.Stop) (ok ∷ []) (reply.Ok value.Nothing) (told.SUSPENDED_PAUSED ∷ []) ∷ mark.Admit n who job.Destroy call.Destroy (Some 1) ∷ []) ([]),
                    record { can = record { none_open = record { no_call = tt; no_operation = tt }; begins_none = refl; takes_none = refl; waits = tt; first_look = tt }; left = ((record { numbered = refl; caller = refl; same_call = refl; own_job = refl }, refl, tt), tt, refl); cuts = (tt, tt); held = refl },
                    record { base = refl; marks = refl; registrations = refl; answers = (0, refl); away = refl; held = refl; queue = refl; ears = refl },
                    (
                      cell_of u (mark.Admit n who job.Modify call.Start None ∷ mark.Start n who call.Start None ∷ mark.Admit n who job.Nested call.Start (Some 1) ∷ mark.Phase n who phase.Make (ask.Make u 1 ∷ []) (ok ∷ []) (outcome.On phase.Run) [] ∷ mark.Admit n who job.Nested call.Start (Some 1) ∷ mark.Phase n who phase.Run (two command.QueryStatus command.Cont) (ok ∷ ok ∷ []) (outcome.Over (reply.Ok value.Nothing)) (told.STARTED_BOOTED ∷ []) ∷ mark.End n who (reply.Ok value.Nothing) ∷ mark.Admit n who job.Suspend call.Suspend (Some 1) ∷ mark.Done n who call.Suspend (Some 1) (tell command.Stop) (ok ∷ []) (reply.Ok value.Nothing) (told.SUSPENDED_PAUSED ∷ []) ∷ mark.Admit n who job.Destroy call.Destroy (Some 1) ∷ mark.Done n who call.Destroy (Some 1) (tell command.Quit) (ok ∷ []) (reply.Ok value.Nothing) (told.STOPPED_DESTROYED ∷ []) ∷ []) ([]),
                      record { can = (refl, refl); left = ((refl, (0, refl), (record { numbered = refl; caller = refl; same_call = refl; same_boot = refl; own_job = refl }, record { planned = (refl, refl); through = refl; no_operation = refl; not_taken_up = refl; ended_first = refl; unsent = tt; reply = refl; told = refl })), tt, refl); cuts = (tt, tt); held = refl },
                      record { base = refl; marks = refl; registrations = refl; answers = refl; away = tt; held = refl; queue = refl; ears = refl },
                      refl,
                    ),
                  ),
                ),
              ),
            ),
          ),
        ),
      ),
    ),
  ),
)
