-- Calls by a pass that has nothing open leave it so.
use Rattle.std.proofs.Common.{◌≡◌, inl, inr, ℕ, List, Option, ap, ◌∙◌}
use Rattle.virt_types.specs.declared.ask.GuestEvent.{GuestEvent}
use Rattle.virt_types.specs.declared.call.Query.{Query}
use Rattle.domain_spec.specs.Types.{Answer, Ask, Call, Reply, Who}
use Rattle.domain_spec.specs.declared.mark.Mark.{Mark}
use Rattle.domain_threads.specs.Below.domain_obj.OfCells.{CellShare}
use Rattle.domain_threads.specs.Below.domain_obj.InTurn.{DomainPass}
use Rattle.domain_threads.specs.Below.domain_obj.Running.{Goes, HasQueried, IsReady, IsSpent}
use Rattle.domain_threads.specs.Below.domain_obj.declared.queries.Queried.{Queried}
use Rattle.domain_threads.specs.Below.domain_obj.declared.queries.Queried.TheVariants as queried
use Rattle.domain_threads.specs.Below.domain_obj.Hearing.{HasLeft}
use Rattle.domain_threads.specs.Below.domain_obj.declared.ends.Hushed.{Hushed}
use Rattle.domain_threads.specs.Below.domain_obj.declared.ends.Hushed.TheVariants as hushed
use Rattle.domain_threads.specs.Below.domain_obj.Runs.{HasRun, HasRunOperation}
use Rattle.domain_threads.specs.Below.domain_obj.declared.places.At.{At}
use Rattle.domain_threads.specs.Below.domain_obj.Called.{HasCalled}
use Rattle.domain_threads.specs.Below.domain_obj.Operated.{HasOperated}
use Rattle.domain_threads.specs.Below.domain_obj.declared.ending.Called.{Called}
use Rattle.domain_threads.specs.Below.domain_obj.declared.ending.Called.TheVariants as called
use Rattle.domain_threads.specs.Below.domain_obj.declared.operating.operation.Operated.{Operated}
use Rattle.domain_threads.specs.Below.domain_obj.declared.operating.operation.Operated.TheVariants as operated
use Rattle.atomic_table.specs.Seated.{TableId}
use Rattle.domain_stories.specs.Free.{IsFree, IsPartOf, Stays}

-- a pass that has nothing open may call

pub free_ready : (pass : DomainPass) → IsFree pass → IsReady pass
free_ready pass (inl spent) = inl spent
free_ready pass (inr nothing) = inr (record {
  call = ap (λ (s : CellShare). s.kept.call) nothing;
  operation = ap (λ (s : CellShare). s.kept.operation) nothing;
  waits = ap (λ (s : CellShare). s.kept.waits) nothing;
  ears = ap (λ (s : CellShare). s.kept.ears) nothing;
})

-- turns after which it keeps what it kept, and turns after which no ticket was left

free_stays : (turns : ℕ) (more : List (ℕ × Mark ℕ)) (before after : DomainPass) → Goes turns more before after → after.share ≡ before.share → IsFree before → IsFree after
free_stays turns more before after goes same (inl spent) = inl (goes.went.spent ∙ spent)
free_stays turns more before after goes same (inr nothing) = inr (same ∙ nothing)

stays : (turns : ℕ) (more : List (ℕ × Mark ℕ)) (before after : DomainPass) → Goes turns more before after → after.share ≡ before.share → IsFree before → Stays before after
stays turns more before after goes same free = record { cell = goes.went.same.cell; parts = goes.went.same.parts; free = free_stays turns more before after goes same free }

spent_stays : (turns : ℕ) (more : List (ℕ × Mark ℕ)) (before last after : DomainPass) → Goes turns more before last → IsSpent last after → Stays before after
spent_stays turns more before last after goes spent = record {
  cell = ap (λ (p : DomainPass). p.cell) spent ∙ goes.went.same.cell;
  parts = ap (λ (p : DomainPass). p.parts) spent ∙ goes.went.same.parts;
  free = inl (ap (λ (p : DomainPass). p.spent) spent);
}

pub stays_then : (before between after : DomainPass) → Stays before between → Stays between after → Stays before after
stays_then before between after one other = record { cell = other.cell ∙ one.cell; parts = other.parts ∙ one.parts; free = other.free }

-- so a part of a cell stays one

pub part_stays : (cell : TableId) (before after : DomainPass) → Stays before after → IsPartOf cell before → IsPartOf cell after
part_stays cell before after stays part = record { own = stays.cell ∙ part.own; one = stays.parts ∙ part.one; free = stays.free }

-- calls

called_stays : (who : Who) (d : Call) (before after : DomainPass) (report now : List (Ask × Answer)) (c : Called) → HasCalled who d before after report now c → IsFree before → Stays before after
called_stays who d before after report now (called.Done r place) h free = stays h.turns _ before after h.goes h.share free
called_stays who d before after report now (called.TimedOut r place) h free = stays h.refused.turns _ before after h.refused.goes h.refused.share free
called_stays who d before after report now (called.WaitersFull r place) h free = stays h.turns _ before after h.goes h.share free
called_stays who d before after report now called.NoMemory h free = stays h.turns _ before after h.goes h.share free
called_stays who d before after report now called.Spent h free = spent_stays h.turns _ before h.last after h.goes h.spent
called_stays who d before after report now called.SpentAway h free = spent_stays h.turns _ before h.last after h.goes h.spent

operated_stays : (who : Who) (d : Call) (before after : DomainPass) (report now : List (Ask × Answer)) (c : Operated) → HasOperated who d before after report now c → IsFree before → Stays before after
operated_stays who d before after report now (operated.Ended r place) h free = stays h.turns _ before after h.goes h.share free
operated_stays who d before after report now (operated.Rests r place) h free = stays h.turns _ before after h.goes h.share free
operated_stays who d before after report now (operated.Refused r place) h free = stays h.turns _ before after h.goes h.share free
operated_stays who d before after report now (operated.TimedOut r place) h free = stays h.refused.turns _ before after h.refused.goes h.refused.share free
operated_stays who d before after report now (operated.WaitersFull r place) h free = stays h.turns _ before after h.goes h.share free
operated_stays who d before after report now operated.NoMemory h free = stays h.turns _ before after h.goes h.share free
operated_stays who d before after report now operated.Spent h free = spent_stays h.turns _ before h.last after h.goes h.spent
operated_stays who d before after report now operated.SpentAmid h free = spent_stays h.turns _ before h.last after h.goes h.spent

-- hearing

pub heard_stays : (before after : DomainPass) (q : Hushed) → HasLeft before after q → IsFree before → Stays before after
heard_stays before after (hushed.Quiet seen) h free = stays h.turns _ before after h.leaves.goes h.leaves.share free
heard_stays before after (hushed.NoMemory seen) h free = stays h.turns _ before after h.leaves.goes h.leaves.share free
heard_stays before after (hushed.Unheard seen) h free = stays h.turns _ before after h.leaves.goes h.leaves.share free
heard_stays before after (hushed.Often seen) h free = stays h.turns _ before after h.leaves.goes h.leaves.share free
heard_stays before after hushed.Spent (turns, last, goes, spent) free = spent_stays turns _ before last after goes spent

-- queries

pub queried_stays : (q : Query) (before after : DomainPass) (r : Queried) → HasQueried q before after r → IsFree before → Stays before after
queried_stays q before after (queried.Read r seen) (reads, value) free = stays 1 _ before after reads.goes reads.share free
queried_stays q before after (queried.NoMemory seen) reads free = stays 1 _ before after reads.goes reads.share free
queried_stays q before after queried.Spent spent free = record {
  cell = ap (λ (p : DomainPass). p.cell) spent;
  parts = ap (λ (p : DomainPass). p.parts) spent;
  free = inl (ap (λ (p : DomainPass). p.spent) spent);
}

-- a call with the hearing after it

module _ {E : Type 0} (ends faults : E → ℕ) (unheard : E → Option (List GuestEvent)) where
  pub run_stays : (who : Who) (d : Call) (before after : DomainPass) (report now : List (Ask × Answer)) (said : Reply) (at : At) → HasRun ends faults unheard who d before after report now said at → IsFree before → Stays before after
  run_stays who d before after report now said at h free =
      let calls = called_stays who d before h.last report now h.called h.calls free in
      stays_then before h.last after calls (heard_stays h.last after h.hushed h.leaves calls.free)

  pub operation_stays : (who : Who) (d : Call) (before after : DomainPass) (report now : List (Ask × Answer)) (said : Reply) (at : At) → HasRunOperation ends faults unheard who d before after report now said at → IsFree before → Stays before after
  operation_stays who d before after report now said at h free =
      let operates = operated_stays who d before h.last report now h.operated h.operates free in
      stays_then before h.last after operates (heard_stays h.last after h.hushed h.leaves operates.free)
