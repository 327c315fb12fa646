-- What becomes of the words of a command line, from the connection up.
use Rattle.std.proofs.Common.{◌≡◌, ◌⊎◌, ℕ, List, [], Option, None, Some, Result, Ok, Err, inl, inr, sym, ap, ◌∙◌, subst}
use Rattle.command_spec.specs.Lines.{job_of}
use Rattle.command_spec.specs.Reading.{Word}
use Rattle.command_spec.specs.declared.command.Job.{Job}
use Rattle.command_spec.specs.declared.fault.WordFault.{WordFault}
use Rattle.rpc_client.specs.Calling.{Connection, fresh}
use Rattle.virsh.specs.Ends.{Ends, HasRun, SaysEnd}
use Rattle.virsh.specs.Outside.{IsUnanswered, Outside, with_back, with_line, with_made, with_out, with_read, with_said}
use Rattle.virsh.specs.Top.{AsksFor, Does, DoesContent, DoesFile, DoesWith, IsServedCommand, IsServedOption, IsStarved, UsesEnds, address_of, file_of}
use Rattle.virsh.specs.Said.{link_line}
use Rattle.virsh.specs.declared.stop.Stop.{Stop}
use Rattle.virsh.proofs.Telling.{has_ended}

same_ok : (words : List Word) (job other : Job) → job_of words ≡ Ok job → job_of words ≡ Ok other → job ≡ other
same_ok words job other is also = cc

no_ok : (words : List Word) (job : Job) (fault : WordFault) → job_of words ≡ Ok job → job_of words ≡ Err fault → ⊥
no_ok words job fault is failed = cc

-- words that were read ask for one job
pub same_job : (words : List Word) (job other : Job) → job_of words ≡ Ok job → AsksFor words other → job ≡ other
same_job words job other is asks = same_ok words job other is asks.job_is

pub no_job : (words : List Word) (fault : WordFault) → job_of words ≡ Err fault → (job : Job) → AsksFor words job → ⊥
no_job words fault failed job asks = no_ok words job fault asks.job_is failed

-- the job of words that ask for none that is served
pub not_served : (words : List Word) (job : Job) → job_of words ≡ Ok job → (IsServedCommand job.command → IsServedOption job.option → ⊥) → (other : Job) → AsksFor words other → ⊥
not_served words job read unserved other asks =
    let same : other ≡ job = sym (same_job words job other read asks) in
    unserved (subst (λ (j : Job). IsServedCommand j.command) same asks.command) (subst (λ (j : Job). IsServedOption j.option) same asks.option)

module _ {S K O : Type 0} (left : S → Option (List ℕ)) (source_faults : S → ℕ) (held : K → Option (List ℕ)) (sink_faults : K → ℕ)
    (shown : O → Option (List ℕ)) (out_faults : O → ℕ) where
  pub connected : (job : Job) (xml : List ℕ) (s : S) (k : K) (was mid later is : Outside S K O) (begun client : Connection S K) (source : S) (sink : K) (r : Result (Unit {0}) Stop) (code : ℕ) → begun ≡ fresh s k
      → HasRun left source_faults held sink_faults shown out_faults job xml begun client was.out mid.out r → mid ≡ with_out mid.out was → SaysEnd r mid later code → source ≡ client.inflow.source → sink ≡ client.sink
      → is ≡ with_back (source, sink) later → UsesEnds left source_faults held sink_faults shown out_faults job xml (s, k) was is code
  connected job xml s k was mid later is begun client source sink r code new run rest says first second back =
      let fresh_run : HasRun left source_faults held sink_faults shown out_faults job xml (fresh s k) client was.out mid.out r = subst (λ (c : Connection S K). HasRun left source_faults held sink_faults shown out_faults job xml c client was.out mid.out r) new run in
      let over = has_ended left source_faults held sink_faults shown out_faults job xml (fresh s k) client was.out mid.out mid later r code fresh_run says in
      inl (record {
        client = client;
        after = mid.out;
        said = over.said;
        ended = over.ends;
        outside = back ∙ (ap (λ (w : Outside S K O). with_back (source, sink) w) (over.outside ∙ ap (λ (w : Outside S K O). with_said over.said w) rest)
            ∙ (ap (λ (x : S). with_back (x, sink) (with_said over.said (with_out mid.out was))) first ∙ ap (λ (x : K). with_back (client.inflow.source, x) (with_said over.said (with_out mid.out was))) second));
      })

  pub dialed : (job : Job) (xml address : List ℕ) (ends : S × K) (was mid is : Outside S K O) (code : ℕ) → address ≡ address_of job → mid ≡ with_made address ends was
      → UsesEnds left source_faults held sink_faults shown out_faults job xml ends mid is code → DoesWith left source_faults held sink_faults shown out_faults job xml was is code
  dialed job xml address ends was mid is code to made uses =
      let same : mid ≡ with_made (address_of job) ends was = made ∙ ap (λ (a : List ℕ). with_made a ends was) to in
      inl (record { ends = ends; uses = subst (λ (w : Outside S K O). UsesEnds left source_faults held sink_faults shown out_faults job xml ends w is code) same uses })

  pub alone : (job : Job) (xml : List ℕ) (was mid is : Outside S K O) (code : ℕ) → IsUnanswered was mid → is ≡ with_line link_line mid → code ≡ 5 → DoesWith left source_faults held sink_faults shown out_faults job xml was is code
  alone job xml was mid is code unanswered said status = inr (inl (record { then = mid; unanswered = unanswered; said = said; code_is = status }))

  pub read : (job : Job) (name content : List ℕ) (was mid is : Outside S K O) (code : ℕ) → mid ≡ with_read name content was → DoesContent left source_faults held sink_faults shown out_faults job content mid is code
      → DoesFile left source_faults held sink_faults shown out_faults job (Some name) was is code
  read job name content was mid is code made does = inl (record { content = content; does = subst (λ (w : Outside S K O). DoesContent left source_faults held sink_faults shown out_faults job content w is code) made does })

  -- a job that is done, or fails, never has the status of usage
  ended_otherwise : (job : Job) (xml : List ℕ) (old new : Connection S K) (out after : O) (said : Option (List ℕ)) (code : ℕ) → Ends left source_faults held sink_faults shown out_faults job xml old new out after said code → code ≡ 2 → ⊥
  ended_otherwise job xml old new out after said code (inl done) two = cc (done.0, two)
  ended_otherwise job xml old new out after said code (inr (inl refused)) two = cc (refused.0, two)
  ended_otherwise job xml old new out after said code (inr (inr (inl link))) two = cc (link.0, two)
  ended_otherwise job xml old new out after said code (inr (inr (inr starved))) two = cc (starved.0, two)

  ends_otherwise : (job : Job) (xml : List ℕ) (ends : S × K) (was is : Outside S K O) (code : ℕ) → UsesEnds left source_faults held sink_faults shown out_faults job xml ends was is code → code ≡ 2 → ⊥
  ends_otherwise job xml ends was is code (inl used) two = ended_otherwise job xml (fresh ends.0 ends.1) used.client was.out used.after used.said code used.ended two
  ends_otherwise job xml ends was is code (inr none) two = cc (none.0, two)

  with_otherwise : (job : Job) (xml : List ℕ) (was is : Outside S K O) (code : ℕ) → DoesWith left source_faults held sink_faults shown out_faults job xml was is code → code ≡ 2 → ⊥
  with_otherwise job xml was is code (inl does) two = ends_otherwise job xml does.ends (with_made (address_of job) does.ends was) is code does.uses two
  with_otherwise job xml was is code (inr (inl none)) two = cc (none.code_is, two)
  with_otherwise job xml was is code (inr (inr starved)) two = cc (starved.0, two)

  content_otherwise : (job : Job) (content : List ℕ) (was is : Outside S K O) (code : ℕ) → DoesContent left source_faults held sink_faults shown out_faults job content was is code → code ≡ 2 → ⊥
  content_otherwise job content was is code (inl bad) two = cc (bad.1, two)
  content_otherwise job content was is code (inr does) two = with_otherwise job content was is code does two

  file_otherwise : (job : Job) (file : Option (List ℕ)) (was is : Outside S K O) (code : ℕ) → DoesFile left source_faults held sink_faults shown out_faults job file was is code → code ≡ 2 → ⊥
  file_otherwise job None was is code does two = with_otherwise job [] was is code does two
  file_otherwise job (Some name) was is code (inl has) two = content_otherwise job has.content (with_read name has.content was) is code has.does two
  file_otherwise job (Some name) was is code (inr (inl none)) two = cc (none.code_is, two)
  file_otherwise job (Some name) was is code (inr (inr starved)) two = cc (starved.0, two)

  pub otherwise : (job : Job) (was is : Outside S K O) (code : ℕ) → Does left source_faults held sink_faults shown out_faults job was is code → code ≡ 2 → ⊥
  otherwise job was is code does two = file_otherwise job (file_of job.command) was is code does two

  pub does_it : (words : List Word) (job : Job) (was is : Outside S K O) (code : ℕ) → job_of words ≡ Ok job → Does left source_faults held sink_faults shown out_faults job was is code
      → (other : Job) → AsksFor words other → Does left source_faults held sink_faults shown out_faults other was is code ⊎ IsStarved was is code
  does_it words job was is code read does other asks = inl (subst (λ (j : Job). Does left source_faults held sink_faults shown out_faults j was is code) (same_job words job other read asks) does)
