-- What becomes of one call, and of all calls of a job.
use Rattle.std.proofs.Common.{◌≡◌, ℕ, Bool, true, false, List, [], ◌∷◌, Option, Some, Result, Ok, Err, inr, refl, sym, ap, ◌∙◌, subst}
use Rattle.std.specs.Prelude.{IfErr, IfOk}
use Rattle.virt_types.specs.declared.request.Request.{Request}
use Rattle.virt_types.specs.declared.value.Reply.{Reply}
use Rattle.virt_types.specs.declared.value.Reply.TheVariants as reply
use Rattle.virt_types.specs.declared.value.Value.{Value}
use Rattle.wire_spec.specs.declared.message.Packet.{Packet}
use Rattle.command_spec.specs.declared.command.Job.{Job}
use Rattle.rpc_client.specs.Calling.{Answers, Connection}
use Rattle.rpc_client.specs.Inflow.{is_there}
use Rattle.virsh.specs.Calls.{Asked, IsAnswered, IsNoValue, IsStop, StopsOrNoMemory, brings_events, next_of}
use Rattle.virsh.specs.declared.stop.Stop.{Stop}
use Rattle.virsh.specs.declared.stop.Stop.TheVariants as stop

none_there : (events : List Packet) → is_there events ≡ false → events ≡ []
none_there [] absent = refl
none_there (event ∷ events) absent = absurd cc

there_is : (events : List Packet) → is_there events ≡ true → events ≡ [] → ⊥
there_is events is none = let absent : is_there events ≡ false = ap is_there none in absurd cc

module _ {S K : Type 0} (left : S → Option (List ℕ)) (source_faults : S → ℕ) (held : K → Option (List ℕ)) (sink_faults : K → ℕ) where
  pub answered : (asked : Request) (old new : Connection S K) (said : Reply) (there : Bool) (r : Result Value Stop) → Answers left source_faults held sink_faults asked old new said → there ≡ is_there new.inflow.events
      → IfOk r (λ v. (said ≡ reply.Ok v) × (brings_events asked ≡ false → there ≡ false)) → IfOk r (IsAnswered left source_faults held sink_faults asked old new)
  answered asked old new said there (Ok v) answers is ok = record {
    answers = subst (λ (s : Reply). Answers left source_faults held sink_faults asked old new s) ok.0 answers;
    quiet = λ brings. none_there new.inflow.events (sym is ∙ ok.1 brings);
  }
  answered asked old new said there (Err why) answers is ok = tt

  stop_by : (asked : Request) (old new : Connection S K) (said : Reply) (there : Bool) (why : Stop) → Answers left source_faults held sink_faults asked old new said → there ≡ is_there new.inflow.events
      → IsNoValue there asked said why → IsStop left source_faults held sink_faults asked old new why
  stop_by asked old new said there (stop.Refused why) answers is why_not = subst (λ (s : Reply). Answers left source_faults held sink_faults asked old new s) why_not answers
  stop_by asked old new said there stop.Link answers is (v, ok, brings, event) =
      inr (v, subst (λ (s : Reply). Answers left source_faults held sink_faults asked old new s) ok answers, λ quiet. there_is new.inflow.events (sym is ∙ event) (quiet brings))
  stop_by asked old new said there stop.NoMemory answers is why_not = tt

  pub not_answered : (asked : Request) (old new : Connection S K) (said : Reply) (there : Bool) (r : Result Value Stop) → Answers left source_faults held sink_faults asked old new said → there ≡ is_there new.inflow.events
      → IfErr r (IsNoValue there asked said) → IfErr r (IsStop left source_faults held sink_faults asked old new)
  not_answered asked old new said there (Ok v) answers is why_not = tt
  not_answered asked old new said there (Err why) answers is why_not = stop_by asked old new said there why answers is why_not

  -- a job stops where a call of it does
  pub stops : (job : Job) (xml : List ℕ) (old then new : Connection S K) (values : List Value) (asked : Request) (why : Stop) → Asked left source_faults held sink_faults job xml [] old values then
      → next_of job xml values ≡ Some asked → IsStop left source_faults held sink_faults asked then new why → StopsOrNoMemory left source_faults held sink_faults job xml old new why
  stops job xml old then new values asked (stop.Refused why) before next is = record { values = values; then = then; answered = before; asked = asked; next = next; stop_is = is }
  stops job xml old then new values asked stop.Link before next is = record { values = values; then = then; answered = before; asked = asked; next = next; stop_is = is }
  stops job xml old then new values asked stop.NoMemory before next is = tt

  -- none was asked yet
  pub asked_none : (job : Job) (xml : List ℕ) (old : Connection S K) → Asked left source_faults held sink_faults job xml [] old [] old
  unfolding Asked
  asked_none job xml old = refl
