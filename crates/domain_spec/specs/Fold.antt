-- What is in force after the marks of a history, one after the other: the state, the normal job and the
-- operation that are open (libvirt's THREADS.txt), and who is registered.
use Rattle.std.specs.Prelude.{ℕ, ◌+◌, ◌==◌, List, [], ◌∷◌, length, Bool, true, false, ◌&&◌, Option, None, Some, if◌then◌else◌}
use Rattle.std.specs.List.{list_any}
use Rattle.domain_spec.specs.Types.{Answer, Call, State, Who}
use Rattle.domain_spec.specs.declared.mark.Mark.{Mark}
use Rattle.domain_spec.specs.declared.mark.Mark.TheVariants as mark
use Rattle.domain_spec.specs.declared.open.OpenJob.{OpenJob}
use Rattle.domain_spec.specs.declared.open.OpenOperation.{OpenOperation}
use Rattle.domain_spec.specs.declared.standing.Base.{Base}
use Rattle.domain_spec.specs.declared.standing.Client.{Client}
use Rattle.domain_spec.specs.declared.standing.Registration.{Registration}
use Rattle.domain_spec.specs.declared.standing.Standing.{Standing}
use Rattle.domain_spec.specs.declared.step.Outcome.{Outcome}
use Rattle.domain_spec.specs.declared.step.Outcome.TheVariants as outcome
use Rattle.domain_spec.specs.Asks.{is_lost_answer}
use Rattle.domain_spec.specs.Call.{phase_taken_up}
use Rattle.domain_spec.specs.Begin.{begin_state, due_phase, named_call, taken_up_state}
use Rattle.domain_spec.specs.Exit.{event_state, exit_state}
use Rattle.domain_spec.specs.Phase.{phase_of, without_operation}
use Rattle.domain_spec.specs.Reading.{is_live, live_boot}
use Rattle.domain_spec.specs.Sequential.{seq}
pub use Rattle.domain_spec.specs.Listeners.{clients_after, is_client, transitions_of, with_more, without_client}

-- the boot whose end has to be marked next: its monitor was lost, and it is live still
abbrev pub lost_boot : State → Option ℕ → List Answer → Option ℕ
lost_boot s None answers = None
lost_boot s (Some boot) answers = if list_any is_lost_answer answers && is_live s boot then Some boot else None

-- a call that carries this boot
abbrev pub carries : Option ℕ → ℕ → Bool
carries None boot = false
carries (Some carried) boot = carried == boot

-- the open job keeps the state just before its boot ended
abbrev pub job_at_exit : State → ℕ → Option OpenJob → Option OpenJob
job_at_exit s boot None = None
job_at_exit s boot (Some j) = Some (if carries j.boot boot then record j { before = Some s } else j)

-- the operation where its last phase led to this
abbrev pub with_outcome : Outcome → OpenOperation → OpenOperation
with_outcome o operation = record operation { outcome = o }

-- a phase is done
abbrev pub after_phase : Standing → Option OpenOperation → List Answer → Outcome → Standing
after_phase s None answers o = s
after_phase s (Some operation) answers o =
    let next = (phase_of s.state operation answers).state in
    record s {
      state = next;
      job = None;
      just_admitted = false;
      operation = Some (record operation { outcome = o });
      lost = lost_boot next operation.boot answers;
    }

-- the operation has begun; its boot is the one that is live then, and its snapshot has its name
abbrev pub after_start : Standing → ℕ → Who → Call → Standing
after_start s number who c =
    let next = begin_state s.state who c in
    record s {
      state = next;
      job = None;
      just_admitted = false;
      operation = Some (record { number = number; who = who; call = named_call s.state c; boot = live_boot next; outcome = outcome.On (due_phase next) });
    }

-- the operation goes on for the call that took it up
abbrev pub taken_up : ℕ → Who → Call → OpenOperation → OpenOperation
taken_up number who c o = record o { number = number; who = who; call = c; outcome = outcome.On (phase_taken_up c) }

-- the operation is taken up, if there is one
abbrev pub after_take_up : Standing → Option OpenOperation → ℕ → Who → Call → Standing
after_take_up s None number who c = s
after_take_up s (Some o) number who c = record s {
  state = taken_up_state s.state who c;
  job = None;
  just_admitted = false;
  operation = Some (taken_up number who c o);
}

-- a call was let in
abbrev pub after_admit : Standing → OpenJob → Standing
after_admit s j = record s { job = Some j; just_admitted = true }

-- a call is done
abbrev pub after_done : Standing → Call → Option ℕ → List Answer → Standing
after_done s c boot answers =
    let next = (seq s.state c boot answers).state in
    record s { state = next; job = None; just_admitted = false; lost = lost_boot next boot answers }

-- what is in force after one more mark, but for the clients
abbrev pub applied : Standing → Mark ℕ → Standing
applied s (mark.Admit number who j c boot) =
    after_admit s (record { number = number; who = who; job = j; call = c; boot = boot; before = None })
applied s (mark.Done number who c boot asks answers r events) = after_done s c boot answers
applied s (mark.Start number who c boot) = after_start s number who c
applied s (mark.TakeUp number who c) = after_take_up s s.operation number who c
applied s (mark.Phase number who p asks answers o events) = after_phase s s.operation answers o
applied s (mark.End number who r) = record s { state = without_operation s.state; operation = None; just_admitted = false }
applied s (mark.Exit boot why events) =
    record s { state = exit_state s.state why; job = job_at_exit s.state boot s.job; just_admitted = false; lost = None }
applied s (mark.Event boot e events) = record s { state = event_state s.state e; just_admitted = false }
applied s other = record s { just_admitted = false }

-- what is in force after one more mark
abbrev pub after : Standing → Mark ℕ → Standing
after s m = record (applied s m) { clients = clients_after s.clients m }

-- what is in force after these marks
abbrev pub standing : Standing → List (Mark ℕ) → Standing
standing s [] = s
standing s (m ∷ marks) = standing (after s m) marks

-- the clients of these registrations, but for those that were cut
abbrev pub registered : List Registration → List Client
registered [] = []
registered (r ∷ rs) =
    if r.is_lost then registered rs
    else (record { number = r.number; client = r.client; before = r.taken + length r.pending; total = r.taken + length r.pending }) ∷ registered rs

-- what is in force at the beginning of a chapter
abbrev pub at_base : Base → Standing
at_base b = record {
  state = b.state;
  job = None;
  just_admitted = false;
  operation = b.operation;
  lost = None;
  clients = registered b.registrations;
}
