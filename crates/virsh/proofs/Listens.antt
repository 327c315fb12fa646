-- Events that were heard and printed, one after another.
use Rattle.std.proofs.Common.{◌≡◌, ◌<◌, ℕ, List, [], ◌∷◌, ◌++◌, Option, Err, inr, map, sym, ap, ◌∙◌, subst}
use Rattle.std.specs.Io.KnownBytes.{Appends}
use Rattle.std.proofs.lemmas.Grind.{flat_map-append}
use Rattle.std.proofs.lemmas.List.{append-nil, map-append}
use Rattle.virt_types.specs.declared.reference.DomainRef.{DomainRef}
use Rattle.virt_types.specs.declared.value.Note.{Note}
use Rattle.command_spec.specs.Columns.{line, lines}
use Rattle.command_spec.specs.Printed.{note_text, notes_text}
use Rattle.rpc_client.specs.Calling.{Connection}
use Rattle.virsh.specs.Listening.{GivesOf, HasListened, Hears, IsCutIn, IsHeard, IsLeft, IsNoNote, IsUnheard, still_wanted, wanted}
use Rattle.virsh.specs.Printing.{IsCutOff, IsPut}
use Rattle.virsh.specs.declared.stop.Stop.{Stop}
use Rattle.virsh.specs.declared.stop.Stop.TheVariants as stop
use Rattle.virsh.proofs.InTurn.{heard_more, heard_none, wanted_more, wanted_none}
use Rattle.virsh.proofs.Put.{cut_more, put_more, put_none}

notes_more : (notes : List Note) (n : Note) → notes_text (notes ++ n ∷ []) ≡ notes_text notes ++ line (note_text n)
notes_more notes n = ap (λ (texts : List (List ℕ)). lines texts) (map-append note_text notes (n ∷ []))
    ∙ (flat_map-append line (map note_text notes) (note_text n ∷ []) ∙ ap (λ (t : List ℕ). notes_text notes ++ t) (append-nil (line (note_text n))))

module _ {S K O : Type 0} (left : S → Option (List ℕ)) (source_faults : S → ℕ) (shown : O → Option (List ℕ)) (out_faults : O → ℕ) where
  -- these events came by now, and their lines are printed
  pub record HasHeard (d : DomainRef) (count rest : ℕ) (old now : Connection S K) (out after : O) : Type 0 where
    pub notes : List Note
    pub heard : Hears left source_faults d old notes now
    pub wants : still_wanted count notes ≡ rest
    pub put : IsPut shown out_faults (notes_text notes) out after

  pub nothing_heard : (d : DomainRef) (count : ℕ) (old : Connection S K) (out : O) → HasHeard d count count old old out out
  nothing_heard d count old out = record { notes = []; heard = heard_none left source_faults d old; wants = wanted_none count; put = put_none shown out_faults out }

  -- the next one came, and its line is printed
  pub heard_next : (d : DomainRef) (count rest : ℕ) (old then now : Connection S K) (out mid after : O) (n : Note) → HasHeard d count rest old then out mid → GivesOf left source_faults d then now n
      → IsPut shown out_faults (line (note_text n)) mid after → HasHeard d count (wanted rest n) old now out after
  heard_next d count rest old then now out mid after n before gives put = record {
    notes = before.notes ++ n ∷ [];
    heard = heard_more left source_faults d old then now before.notes n before.heard gives.0 gives.1;
    wants = wanted_more count before.notes n ∙ ap (λ (k : ℕ). wanted k n) before.wants;
    put = subst (λ (t : List ℕ). IsPut shown out_faults t out after) (sym (notes_more before.notes n)) (put_more shown out_faults (notes_text before.notes) (line (note_text n)) out mid after before.put put);
  }

  -- standard output failed in its line
  pub heard_cut : (d : DomainRef) (count rest : ℕ) (old then now : Connection S K) (out mid after : O) (n : Note) → HasHeard d count rest old then out mid → GivesOf left source_faults d then now n
      → IsCutOff shown out_faults (line (note_text n)) mid after → IsCutIn left source_faults shown out_faults d old now out after
  heard_cut d count rest old then now out mid after n before gives cut = record {
    notes = before.notes ++ n ∷ [];
    heard = heard_more left source_faults d old then now before.notes n before.heard gives.0 gives.1;
    cut = subst (λ (t : List ℕ). IsCutOff shown out_faults t out after) (sym (notes_more before.notes n)) (cut_more shown out_faults (notes_text before.notes) (line (note_text n)) out mid after before.put cut);
  }

  -- no more are wanted
  pub heard_all : (d : DomainRef) (count : ℕ) (old now : Connection S K) (out after : O) → HasHeard d count 0 old now out after → IsHeard left source_faults shown out_faults d count old now out after
  heard_all d count old now out after has = record { notes = has.notes; heard = has.heard; enough = has.wants; put = has.put }

  -- the next one does not come
  pub left_off : (d : DomainRef) (count rest : ℕ) (old then now : Connection S K) (out after : O) → 0 < rest → HasHeard d count rest old then out after → IsUnheard left source_faults d then now
      → IsLeft left source_faults shown out_faults d count old now out after
  left_off d count rest old then now out after some has unheard = record {
    notes = has.notes;
    then = then;
    heard = has.heard;
    wanted = subst (λ (k : ℕ). 0 < k) (sym has.wants) some;
    unheard = unheard;
    put = has.put;
  }

  -- what was printed so far
  pub printed : (d : DomainRef) (count rest : ℕ) (old now : Connection S K) (out after : O) → HasHeard d count rest old now out after → (text : List ℕ) × Appends (shown out) (shown after) text
  printed d count rest old now out after has = (notes_text has.notes, has.put.whole)

  -- why the next one does not come
  pub not_heard : (d : DomainRef) (count rest : ℕ) (old then now : Connection S K) (out after : O) (why : Stop) → 0 < rest → HasHeard d count rest old then out after → IsNoNote left source_faults d then now why
      → HasListened left source_faults shown out_faults d count old now out after (Err why)
  not_heard d count rest old then now out after (stop.Refused why) some has none = none
  not_heard d count rest old then now out after stop.Link some has none = inr (left_off d count rest old then now out after some has none)
  not_heard d count rest old then now out after stop.NoMemory some has none = printed d count rest old then out after has
