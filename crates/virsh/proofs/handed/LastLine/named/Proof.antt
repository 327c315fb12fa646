-- `named` makes the struct without bytes, with the line that the caller names. Assumes `Logic`.
use Rattle.std.proofs.Common.{[], ◌∷◌, refl}
use mir.Syntax.{Fn}
use mir.Val.{Val}
use base.Logic.{SProp}
use contract.Running.{tables}
use types.Kit.{‵, raw, ◌⊛◌, ◌$◌, ◌∵◌, !, qed, move, keep, split, fjoin, suffices, done}
use types.Part.{agg}
use types.Run.{enter, returns, and_then, no_more}
use types.ByLocal.{alloc_all, pass_all, free_all, look_at, get, sets}
use denote.RattleType.{owns}
use denote.Laws.{Is}
use denote.Signature.{types_at}
use denote.Steps.{nothing, owned}
use denote.Struct.Laws.{makes}
use denote.Triple.Entry.{alive}
use denote.Triple.Walked.{says, Stays, walk_of, ends_at}
use Rattle.std.specs.contracts.marker.PhantomData as Mark
use Rattle.std.specs.Borrow.{u64}
use Rattle.std.proofs.raw_atomic.Walks.{proved_at}
use Rattle.bytes.proofs.Walks.{none, one, one_made}
use Rattle.virsh.specs.contracts.handed.LastLine as LastLine
use Rattle.virsh.specs.contracts.handed.LastLine.named as F
use Rattle.virsh.specs.contracts.handed.LastLine.named.Key.{name as #self}
use Rattle.virsh.proofs.handed.LastLine.named.Statement as stated
use Rattle.virsh.proofs.handed.LastLine.named.Code as code

pub named_spec : {M : Type 1} → stated.statement M
named_spec 𝓤 𝓛 𝓜 𝓡 wired =
    let H = 𝓛.H in
    let En = F.ended in
    let c = F.clauses 𝓛 𝓜.mem 𝓡.returns in
    let fn : Fn = code.function in
    let stays : Stays En.signature.params En.kept = tt in
    let C = (tables 𝓤 H 𝓜 𝓡 𝓡.env).C in
    let Λ = (tables 𝓤 H 𝓜 𝓡 𝓡.env).Λ in
    proved_at 𝓛 En stays c 𝓜 𝓡 tt #self fn (code.unfolded 𝓤 H 𝓜 𝓡 wired) (λ z are.
    let Post : Val → SProp 𝓤 = (walk_of 𝓛 En stays c).post z in
    let made : (LastLine.the_row).Denot = record { of = record {}; line = z.1 } in
    qed 𝓛 ((raw (alive 𝓛 En.signature z.0.0 z.0.1) ⊛ ‵ (owns (types_at En.signature.params z.0.0) z.0.3 z.0.4)) ∷ raw ((c z.0.0 z.0.3).requires z.1) ∷ []) ∵
    keep ! (0 ∷ []) $ split ! $ keep ! (0 ∷ []) $
    enter ! C Λ fn [] Post $ alloc_all ! (λ l. pass_all ! refl tt $
    sets ! (agg ! (no_more !)) refl (tt, tt) $
    sets ! (agg ! (and_then ! (get ! refl) (no_more !))) refl (tt, (tt, tt)) $
    nothing ! $ owned ! (Mark.the_row u64) (Is (Mark.the_row u64)) (makes (Mark.the_type u64) tt 𝓛) (record {}) (none ∷ []) (tt, (refl, tt)) $
    one_made ! (Mark.the_row u64) (record {}) none $ fjoin ! $
    returns ! (look_at ! 0 refl) $ free_all ! refl $
    suffices ! _ (ends_at 𝓛 En stays c z (one none) made tt tt) $ says ! refl $ nothing ! $ move ! (2 ∷ 0 ∷ 1 ∷ []) $ done !))
