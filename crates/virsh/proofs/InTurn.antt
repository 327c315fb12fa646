-- Calls that were answered, and events that came, one after another.
use Rattle.std.proofs.Common.{◌≡◌, ◌∙◌, ℕ, true, List, [], ◌∷◌, ◌++◌, Option, Some, append_assoc, append-nil, ap, refl, subst, sym}
use Rattle.virt_types.specs.declared.reference.DomainRef.{DomainRef}
use Rattle.virt_types.specs.declared.request.Request.{Request}
use Rattle.virt_types.specs.declared.value.Note.{Note}
use Rattle.virt_types.specs.declared.value.Value.{Value}
use Rattle.command_spec.specs.declared.command.Job.{Job}
use Rattle.rpc_client.specs.Calling.{Connection}
use Rattle.rpc_client.specs.Notes.{GivesNote}
use Rattle.virsh.specs.Calls.{Asked, IsAnswered, next_of}
use Rattle.virsh.specs.Listening.{Hears, is_of, still_wanted, wanted}

module _ {S K : Type 0} (left : S → Option (List ℕ)) (source_faults : S → ℕ) (held : K → Option (List ℕ)) (sink_faults : K → ℕ) where
  -- one call more
  pub asked_more : (job : Job) (xml : List ℕ) (done : List Value) (old then new : Connection S K) (values : List Value) (asked : Request) (v : Value)
      → Asked left source_faults held sink_faults job xml done old values then → next_of job xml (done ++ values) ≡ Some asked → IsAnswered left source_faults held sink_faults asked then new v
      → Asked left source_faults held sink_faults job xml done old (values ++ v ∷ []) new
  unfolding Asked
  asked_more job xml done old then new [] asked v before next answered =
      (asked, new, ap (next_of job xml) (sym (append-nil done)) ∙ next, subst (λ (c : Connection S K). IsAnswered left source_faults held sink_faults asked c new v) before answered, refl)
  asked_more job xml done old then new (w ∷ values) asked v (first, mid, is, one, more) next answered =
      (first, mid, is, one, asked_more job xml (done ++ w ∷ []) mid then new values asked v more (ap (next_of job xml) (append_assoc done (w ∷ []) values) ∙ next) answered)

module _ {S K : Type 0} (left : S → Option (List ℕ)) (source_faults : S → ℕ) where
  -- no event came yet
  pub heard_none : (d : DomainRef) (old : Connection S K) → Hears left source_faults d old [] old
  unfolding Hears
  heard_none d old = refl

  -- one event more
  pub heard_more : (d : DomainRef) (old then new : Connection S K) (notes : List Note) (n : Note) → Hears left source_faults d old notes then → GivesNote left source_faults then new n → is_of d n ≡ true
      → Hears left source_faults d old (notes ++ n ∷ []) new
  unfolding Hears
  heard_more d old then new [] n before gives of = (new, subst (λ (c : Connection S K). GivesNote left source_faults c new n) before gives, of, refl)
  heard_more d old then new (m ∷ notes) n (mid, one, same, more) gives of = (mid, one, same, heard_more d mid then new notes n more gives of)

pub wanted_none : (count : ℕ) → still_wanted count [] ≡ count
unfolding still_wanted
wanted_none count = refl

pub wanted_more : (count : ℕ) (notes : List Note) (n : Note) → still_wanted count (notes ++ n ∷ []) ≡ wanted (still_wanted count notes) n
unfolding still_wanted
wanted_more count [] n = refl
wanted_more count (m ∷ notes) n = wanted_more (wanted count m) notes n
