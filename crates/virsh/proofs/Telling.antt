-- What becomes of the text of a job, and of the job.
use Rattle.std.proofs.Common.{◌≡◌, ℕ, List, [], ◌∷◌, ◌++◌, Option, None, Some, Result, Ok, Err, inl, inr, refl, sym, subst}
use Rattle.std.specs.Io.KnownBytes.{Appends}
use Rattle.virt_types.specs.declared.reference.DomainRef.{DomainRef}
use Rattle.virt_types.specs.declared.value.Note.{Note}
use Rattle.virt_types.specs.declared.value.Value.{Value}
use Rattle.virt_types.specs.declared.value.Value.TheVariants as value
use Rattle.command_spec.specs.Output.{Prints}
use Rattle.command_spec.specs.Printed.{error_text, notes_text}
use Rattle.command_spec.specs.declared.command.Command.{Command}
use Rattle.command_spec.specs.declared.command.Command.TheVariants as command
use Rattle.command_spec.specs.declared.command.Job.{Job}
use Rattle.command_spec.specs.declared.form.Flag.{Flag}
use Rattle.command_spec.specs.declared.form.NumberVerb.TheVariants as number
use Rattle.packet.proofs.Known.{Appends-none, Appends-then}
use Rattle.rpc_client.specs.Calling.{Connection}
use Rattle.virsh.specs.Calls.{IsAsked, StopsOrNoMemory}
use Rattle.virsh.specs.Ends.{Ends, HasEnough, HasRun, HasTold, HearsOf, IsCutShort, IsOutOfMemory, IsPrintable, SaysEnd, Tells}
use Rattle.virsh.specs.Listening.{HasListened, heard_of}
use Rattle.virsh.specs.Outside.{Outside, with_said}
use Rattle.virsh.specs.Printing.{IsCutOff, IsPut}
use Rattle.virsh.specs.Said.{link_line, memory_line}
use Rattle.virsh.specs.declared.stop.Stop.{Stop}
use Rattle.virsh.specs.declared.stop.Stop.TheVariants as stop
use Rattle.virsh.proofs.InTurn.{heard_none}
use Rattle.virsh.proofs.Put.{cut_more, put_more}

-- what was made of the list of a job's answers is their text
pub has_text : (job : Job) (values seen : List Value) (text : List ℕ) → seen ≡ values → Prints job.command job.option seen [] text → Prints job.command job.option values [] text
has_text job values seen text same prints = subst (λ (vs : List Value). Prints job.command job.option vs [] text) same prints

-- answers that have a text have one
pub no_text : (job : Job) (values seen : List Value) → seen ≡ values → ((text : List ℕ) → Prints job.command job.option seen [] text → ⊥) → IsPrintable job values → ⊥
no_text job values seen same none has = none has.0 (subst (λ (vs : List Value). Prints job.command job.option vs [] has.0) (sym same) has.1)

-- a command that waits for events prints nothing before them, and then their lines
pub event_of : (c : Command) (values : List Value) (h : DomainRef × ℕ) (option : Option Flag) (text : List ℕ) → heard_of c values ≡ Some h → Prints c option values [] text
    → (text ≡ []) × ((notes : List Note) → Prints c option values notes (notes_text notes))
event_of (command.Number number.Event name n) (value.Domain d ∷ value.Nothing ∷ []) h option text e prints = (prints, λ notes. refl)
event_of (command.Number number.Event name n) values h option text e prints = absurd prints
event_of c values h option text e prints = absurd cc

module _ {S K O : Type 0} (left : S → Option (List ℕ)) (source_faults : S → ℕ) (held : K → Option (List ℕ)) (sink_faults : K → ℕ)
    (shown : O → Option (List ℕ)) (out_faults : O → ℕ) where
  none_came : (h : Option (DomainRef × ℕ)) (old : Connection S K) → HearsOf left source_faults held sink_faults shown out_faults h old [] old
  none_came None old = (refl, refl)
  none_came (Some h) old = heard_none left source_faults h.0 old

  -- standard output failed in the text of the answers
  pub cut_first : (job : Job) (values : List Value) (old : Connection S K) (out after : O) (text : List ℕ) → Prints job.command job.option values [] text → IsCutOff shown out_faults text out after
      → IsCutShort left source_faults held sink_faults shown out_faults job values old old out after
  cut_first job values old out after text prints cut = record { notes = []; heard = none_came (heard_of job.command values) old; text = text; prints = prints; cut = cut }

  -- no events are waited for
  pub told_text : (job : Job) (values : List Value) (old : Connection S K) (out after : O) (text : List ℕ) → heard_of job.command values ≡ None → Prints job.command job.option values [] text → IsPut shown out_faults text out after
      → Tells left source_faults held sink_faults shown out_faults job values old old out after
  told_text job values old out after text none prints put = record {
    notes = [];
    heard = none_came (heard_of job.command values) old;
    enough = subst (λ (h : Option (DomainRef × ℕ)). HasEnough left source_faults held sink_faults shown out_faults h []) (sym none) tt;
    text = text;
    prints = prints;
    put = put;
  }

  -- events are waited for
  pub told_events : (job : Job) (values : List Value) (old new : Connection S K) (out mid after : O) (text : List ℕ) (d : DomainRef) (count : ℕ) (r : Result (Unit {0}) Stop) → heard_of job.command values ≡ Some (d, count)
      → Prints job.command job.option values [] text → IsPut shown out_faults text out mid → HasListened left source_faults shown out_faults d count old new mid after r
      → HasTold left source_faults held sink_faults shown out_faults job values old new out after r
  told_events job values old new out mid after text d count (Ok done) is prints put has =
      let event = event_of job.command values (d, count) job.option text is prints in
      record {
        notes = has.notes;
        heard = subst (λ (h : Option (DomainRef × ℕ)). HearsOf left source_faults held sink_faults shown out_faults h old has.notes new) (sym is) has.heard;
        enough = subst (λ (h : Option (DomainRef × ℕ)). HasEnough left source_faults held sink_faults shown out_faults h has.notes) (sym is) has.enough;
        text = notes_text has.notes;
        prints = event.1 has.notes;
        put = subst (λ (t : List ℕ). IsPut shown out_faults (t ++ notes_text has.notes) out after) event.0 (put_more shown out_faults text (notes_text has.notes) out mid after put has.put);
      }
  told_events job values old new out mid after text d count (Err (stop.Refused why)) is prints put has = absurd has
  told_events job values old new out mid after text d count (Err stop.Link) is prints put (inl cut) =
      let event = event_of job.command values (d, count) job.option text is prints in
      inl (record {
        notes = cut.notes;
        heard = subst (λ (h : Option (DomainRef × ℕ)). HearsOf left source_faults held sink_faults shown out_faults h old cut.notes new) (sym is) cut.heard;
        text = notes_text cut.notes;
        prints = event.1 cut.notes;
        cut = subst (λ (t : List ℕ). IsCutOff shown out_faults (t ++ notes_text cut.notes) out after) event.0 (cut_more shown out_faults text (notes_text cut.notes) out mid after put cut.cut);
      })
  told_events job values old new out mid after text d count (Err stop.Link) is prints put (inr rest) =
      let event = event_of job.command values (d, count) job.option text is prints in
      inr (record {
        domain = d;
        count = count;
        waits = is;
        notes = rest.notes;
        then = rest.then;
        heard = rest.heard;
        wanted = rest.wanted;
        unheard = rest.unheard;
        text = notes_text rest.notes;
        prints = event.1 rest.notes;
        put = subst (λ (t : List ℕ). IsPut shown out_faults (t ++ notes_text rest.notes) out after) event.0 (put_more shown out_faults text (notes_text rest.notes) out mid after put rest.put);
      })
  told_events job values old new out mid after text d count (Err stop.NoMemory) is prints put has =
      (text ++ has.0, Appends-then (shown out) (shown mid) (shown after) text has.0 put.whole has.1)

  -- memory ran out before anything was printed
  pub nothing_more : (out : O) → (text : List ℕ) × Appends (shown out) (shown out) text
  nothing_more out = ([], Appends-none (shown out))

  -- all calls were answered
  pub ran : (job : Job) (xml : List ℕ) (old then new : Connection S K) (out after : O) (values : List Value) (r : Result (Unit {0}) Stop) → IsAsked left source_faults held sink_faults job xml old values then
      → HasTold left source_faults held sink_faults shown out_faults job values then new out after r → HasRun left source_faults held sink_faults shown out_faults job xml old new out after r
  ran job xml old then new out after values (Ok done) asked told = record { values = values; then = then; asked = asked; tells = told }
  ran job xml old then new out after values (Err (stop.Refused why)) asked told = absurd told
  ran job xml old then new out after values (Err stop.Link) asked told = inr (record { values = values; then = then; asked = asked; untold = told })
  ran job xml old then new out after values (Err stop.NoMemory) asked told = told

  -- a call was not
  pub stopped : (job : Job) (xml : List ℕ) (old new : Connection S K) (out : O) (why : Stop) → StopsOrNoMemory left source_faults held sink_faults job xml old new why
      → HasRun left source_faults held sink_faults shown out_faults job xml old new out out (Err why)
  stopped job xml old new out (stop.Refused why) stops = (stops, refl)
  stopped job xml old new out stop.Link stops = inl (record { stops = stops; same = refl })
  stopped job xml old new out stop.NoMemory stops = nothing_more out

  -- how a job ends, with the line that is said
  pub record HasEnded (job : Job) (xml : List ℕ) (old new : Connection S K) (out after : O) (was is : Outside S K O) (code : ℕ) : Type 0 where
    pub said : Option (List ℕ)
    pub ends : Ends left source_faults held sink_faults shown out_faults job xml old new out after said code
    pub outside : is ≡ with_said said was

  -- what was printed by then is not forgotten where there is no memory for the line of a refusal
  pub has_ended : (job : Job) (xml : List ℕ) (old new : Connection S K) (out after : O) (was is : Outside S K O) (r : Result (Unit {0}) Stop) (code : ℕ)
      → HasRun left source_faults held sink_faults shown out_faults job xml old new out after r → SaysEnd r was is code → HasEnded job xml old new out after was is code
  has_ended job xml old new out after was is (Ok done) code run says = record { said = None; ends = inl (says.0, refl, run); outside = says.1 }
  has_ended job xml old new out after was is (Err (stop.Refused why)) code run (inl says) =
      record { said = Some (error_text why); ends = inr (inl (says.0, record { why = why; said_is = refl; stops = run.0; same = run.1 })); outside = says.1 }
  has_ended job xml old new out after was is (Err (stop.Refused why)) code run (inr says) =
      let printed : IsOutOfMemory left source_faults held sink_faults shown out_faults out after = subst (λ (o : O). (text : List ℕ) × Appends (shown out) (shown o) text) (sym run.1) (nothing_more out) in
      record { said = Some memory_line; ends = inr (inr (inr (says.0, refl, printed))); outside = says.1 }
  has_ended job xml old new out after was is (Err stop.Link) code run says = record { said = Some link_line; ends = inr (inr (inl (says.0, refl, run))); outside = says.1 }
  has_ended job xml old new out after was is (Err stop.NoMemory) code run says = record { said = Some memory_line; ends = inr (inr (inr (says.0, refl, run))); outside = says.1 }
