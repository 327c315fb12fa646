use Rattle.std.proofs.Common.{◌≡◌, ◌+◌, [], None, sym, subst}
use Rattle.std.specs.Prelude.{OnOk}
use Rattle.domain_spec.specs.Chapter.{next_base}
use Rattle.core_flight.specs.Ledger.{Ledgered, now_in}
use Rattle.core_flight.specs.Turn.{force_in, shown}
use Rattle.core_flight.proofs.Ledgers.{none_open_in}
use Rattle.core_flight.proofs.Rotating.{kept_rotate, rotated}
use Rattle.core_flight.proofs.ledger.Ledger.rotate.Goals as goal

pub rotate-requires-clause-none : goal.rotate-requires-clause-none
rotate-requires-clause-none c =
    let i = c.self.inside in
    none_open_in i.chapter i.away (subst (λ (v : Ledgered). (now_in v).job ≡ None) (sym c.self.view_is) c.requires.none)

pub invariant_of-self : goal.invariant_of-self
invariant_of-self c =
    let i = c.self.inside in
    let free = none_open_in i.chapter i.away (subst (λ (v : Ledgered). (now_in v).job ≡ None) (sym c.self.view_is) c.requires.none) in
    kept_rotate i.chapter c.rotate.new.self i.away (i.chapter.history.chapter + 1) (next_base (force_in i.chapter) c.args.registrations) c.rotate.result free c.self.invariant
    c.rotate.ensures.history c.rotate.ensures.err

pub returns-clause-history : goal.returns-clause-history
returns-clause-history c =
    let i = c.self.inside in
    subst (λ (v : Ledgered). OnOk c.rotate.result (shown c.rotate.new.self ≡ record { chapter = v.history.chapter + 1; base = next_base (now_in v) c.args.registrations; marks = [] })) c.self.view_is
    (rotated i.chapter c.rotate.new.self i.away c.args.registrations c.rotate.result c.rotate.ensures.history)
